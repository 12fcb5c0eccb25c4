use Rattle.std.proofs.Common.{sym, subst}
use Rattle.absval.specs.declared.number_set.NumberSet.{NumberSet}
use Rattle.absval.specs.NumberSets.{Has}
use Rattle.word.specs.Arithmetic.{swapped}
use Rattle.absval.proofs.number_set.NumberSet.swap.Goals as goal

pub returns-clause-holds : goal.returns-clause-holds
returns-clause-holds c = λ x g.
    let h = subst (λ (n : NumberSet). Has n x) (sym c.self.view_is) g in
    c.whatever_bits.ensures.holds (swapped c.args.order c.args.size x) (c.swap-range.ensures.holds x h.range)
