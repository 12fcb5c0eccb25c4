use Rattle.std.proofs.Common.{sym, subst}
use Rattle.absval.specs.declared.number_set.NumberSet.{NumberSet}
use Rattle.absval.specs.NumberSets.{Has}
use Rattle.word.specs.Arithmetic.{negated}
use Rattle.absval.proofs.number_set.NumberSet.negate.Goals as goal

pub returns-clause-holds : goal.returns-clause-holds
returns-clause-holds c = λ x g.
    let h = subst (λ (n : NumberSet). Has n x) (sym c.self.view_is) g in
    c.whatever_bits.ensures.holds (negated c.args.width x) (c.negate-range.ensures.holds x h.range)
