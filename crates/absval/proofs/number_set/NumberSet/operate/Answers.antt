use Rattle.std.proofs.Common.{sym, subst, arith}
use Rattle.absval.specs.declared.number_set.NumberSet.{NumberSet}
use Rattle.absval.specs.NumberSets.{Has}
use Rattle.word.specs.Arithmetic.{arithmetic}
use Rattle.absval.proofs.number_set.NumberSet.operate.Goals as goal

pub returns-then-not-goes_bit_by_bit-clause-holds : goal.returns-then-not-goes_bit_by_bit-clause-holds
returns-then-not-goes_bit_by_bit-clause-holds c = λ x y g f.
    let h = subst (λ (n : NumberSet). Has n x) (sym c.a.view_is) g in
    let k = subst (λ (n : NumberSet). Has n y) (sym c.b.view_is) f in
    c.whatever_bits.ensures.holds (arithmetic c.args.width c.args.operation x y) (c.operate-range.ensures.holds x y h.range k.range)

pub returns-clause-holds : goal.returns-clause-holds
returns-clause-holds c = λ x y g f.
    let h = subst (λ (n : NumberSet). Has n x) (sym c.a.view_is) g in
    let k = subst (λ (n : NumberSet). Has n y) (sym c.b.view_is) f in
    let within = c.operate-range.ensures.holds x y h.range k.range in
    c.settle.ensures.holds (arithmetic c.args.width c.args.operation x y) within
    (c.operate-bits.ensures.holds x y h.bits k.bits (omega (arith, within.1, c.operate-range.ensures.below)))
