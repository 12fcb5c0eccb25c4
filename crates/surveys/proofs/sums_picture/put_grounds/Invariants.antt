use Rattle.std.proofs.Common.{◌≡◌, ◌≤◌, ◌++◌, drop, None}
use Rattle.std.specs.String.{string_bytes}
use Rattle.surveys.specs.Pictures.{grounds}
use Rattle.surveys.proofs.sums_picture.put_grounds.Given as goal

abbrev pub invariant-loop-group : goal.invariant-loop-group
invariant-loop-group l =
    (string_bytes l.out ++ grounds l.columns l.row l.before (drop l.group-index l.groups) ≡ string_bytes l.fn.out ++ grounds l.columns 0 None l.groups)
    × (l.row ≤ l.group-index)
