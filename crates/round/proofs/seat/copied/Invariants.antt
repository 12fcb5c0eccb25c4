use Rattle.std.proofs.Common.{◌≡◌, take}
use Rattle.round.proofs.seat.copied.Given as goal

abbrev pub invariant-loop-seat : goal.invariant-loop-seat
invariant-loop-seat l = l.copy.items ≡ take l.seat-index l.seats
