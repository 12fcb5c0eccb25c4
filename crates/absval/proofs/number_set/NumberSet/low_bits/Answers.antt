use Rattle.std.proofs.Common.{sym, subst}
use Rattle.absval.specs.declared.number_set.NumberSet.{NumberSet}
use Rattle.absval.specs.NumberSets.{Has}
use Rattle.word.specs.Arithmetic.{taken}
use Rattle.absval.proofs.number_set.NumberSet.low_bits.Goals as goal

pub returns-clause-holds : goal.returns-clause-holds
returns-clause-holds c = λ x g.
    let h = subst (λ (n : NumberSet). Has n x) (sym c.self.view_is) g in
    c.settle.ensures.holds (taken c.args.width x) (c.used.ensures.holds x h.range) (c.used-2.ensures.holds x h.bits)
