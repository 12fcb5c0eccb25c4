use Rattle.std.proofs.Common.{◌≡◌, ◌+◌, drop}
use Rattle.text.specs.Parts.{until}
use Rattle.text.proofs.parts.find.Given as goal

abbrev pub invariant-loop-i : goal.invariant-loop-i
invariant-loop-i l = until l.stop l.bytes ≡ l.i + until l.stop (drop l.i l.bytes)
