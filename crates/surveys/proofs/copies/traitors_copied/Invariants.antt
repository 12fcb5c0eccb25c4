use Rattle.std.proofs.Common.{◌≡◌, take}
use Rattle.surveys.proofs.copies.traitors_copied.Given as goal

abbrev pub invariant-loop-traitor : goal.invariant-loop-traitor
invariant-loop-traitor l = l.copies.items ≡ take l.traitor-index l.traitors
