use Rattle.std.proofs.Common.{refl, arith}
use Rattle.rule_program.proofs.BinaryLemmas.{no_digit, digit_more, all_digits}
use Rattle.rule_program.proofs.orders.orders_of.Goals as goal

pub loop-place-init : goal.loop-place-init
loop-place-init c = rw c.new-orders.ensures (no_digit c.args.number c.args.size c.requires.digits)

pub loop-place-preserved : goal.loop-place-preserved
loop-place-preserved c =
    rw c.push.ensures.items (digit_more c.args.number c.args.size c.loop-place.place _ c.loop-place.orders.items c.loop-place.invariant c.loop-place-test.true refl)

pub returns : goal.returns
returns c =
    let all = all_digits c.args.number c.args.size c.loop-place.place c.loop-place.orders.items c.loop-place.invariant (omega arith) (omega arith) in
    record { long = all.0; two = c.loop-place.invariant.two; number = all.1 }
