use Rattle.std.proofs.Common.{◌≡◌, ◌≤◌, ◌++◌, drop, None}
use Rattle.std.specs.String.{string_bytes}
use Rattle.surveys.specs.Pictures.{cells}
use Rattle.surveys.proofs.sums_picture.put_groups.Given as goal

abbrev pub invariant-loop-group : goal.invariant-loop-group
invariant-loop-group l =
    (string_bytes l.out ++ cells l.columns l.row l.before (drop l.group-index l.groups) ≡ string_bytes l.fn.out ++ cells l.columns 0 None l.groups)
    × (l.row ≤ l.group-index)
