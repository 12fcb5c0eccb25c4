use Rattle.std.proofs.Common.{◌≡◌, take}
use Rattle.world.specs.World.{accesses_of}
use Rattle.world.proofs.letters.transcript.Given as goal

abbrev pub invariant-loop-access : goal.invariant-loop-access
invariant-loop-access l = l.own.items ≡ accesses_of l.fn.general (take l.access-index l.accesses)
