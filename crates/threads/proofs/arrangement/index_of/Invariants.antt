use Rattle.std.proofs.Common.{◌≡◌, take, None}
use Rattle.world.specs.Accounted.{letter_by}
use Rattle.threads.proofs.arrangement.index_of.Given as goal

abbrev pub invariant-loop-i : goal.invariant-loop-i
invariant-loop-i l = letter_by l.general l.round (take l.i l.letters) ≡ None
