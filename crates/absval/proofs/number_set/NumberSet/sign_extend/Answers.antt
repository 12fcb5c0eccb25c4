use Rattle.std.proofs.Common.{sym, subst}
use Rattle.absval.specs.declared.number_set.NumberSet.{NumberSet}
use Rattle.absval.specs.NumberSets.{Has}
use Rattle.word.specs.Arithmetic.{sign_extended}
use Rattle.absval.proofs.number_set.NumberSet.sign_extend.Goals as goal

pub returns-clause-holds : goal.returns-clause-holds
returns-clause-holds c = λ x g.
    let h = subst (λ (n : NumberSet). Has n x) (sym c.self.view_is) g in
    c.whatever_bits.ensures.holds (sign_extended c.args.width c.args.part x) (c.sign_extend-range.ensures.holds x h.range)
