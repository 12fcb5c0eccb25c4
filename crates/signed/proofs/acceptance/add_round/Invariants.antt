use Rattle.std.proofs.Common.{ℕ, List, take}
use Rattle.signed.specs.Sending.{added_by, received_in, AreFirst}
use Rattle.signed.proofs.acceptance.add_round.Given as goal

abbrev pub invariant-loop-sending : goal.invariant-loop-sending
invariant-loop-sending l =
    (seen : List ℕ) → AreFirst l.initial.orders.items seen → AreFirst l.orders.items (added_by l.number l.general seen (received_in l.general (take l.sending-index l.sending-items)))
