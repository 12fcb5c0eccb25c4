use Rattle.std.proofs.Common.{◌≡◌, ◌++◌, take}
use Rattle.std.specs.Prelude.{flat_map}
use Rattle.std.specs.String.{string_bytes}
use Rattle.surveys.specs.Csv.{csv_row}
use Rattle.surveys.proofs.sums_csv.put_rows.Given as goal

abbrev pub invariant-loop-group : goal.invariant-loop-group
invariant-loop-group l = string_bytes l.out ≡ string_bytes l.fn.out ++ flat_map csv_row (take l.group-index l.groups)
