use Rattle.std.proofs.Common.{◌≡◌, ◌≤◌, take, length}
use Rattle.world.specs.World.{accesses_of}
use Rattle.threads.proofs.account.is_part.Given as goal

abbrev pub invariant-loop-access : goal.invariant-loop-access
invariant-loop-access l = (l.next ≤ length l.transcript) × (accesses_of l.general (take l.access-index l.piece) ≡ take l.next l.transcript)
