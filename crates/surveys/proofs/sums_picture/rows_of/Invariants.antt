use Rattle.std.proofs.Common.{◌≡◌, ◌≤◌, ◌+◌, drop}
use Rattle.surveys.specs.Pictures.{rows_from, rows_of}
use Rattle.surveys.proofs.sums_picture.rows_of.Given as goal

abbrev pub invariant-loop-group : goal.invariant-loop-group
invariant-loop-group l = (l.rows + rows_from l.before (drop l.group-index l.groups) ≡ rows_of l.groups) × (l.rows ≤ l.group-index)
