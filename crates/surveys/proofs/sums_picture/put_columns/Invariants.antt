use Rattle.std.proofs.Common.{◌≡◌, ◌≤◌, ◌-◌, ◌++◌, max}
use Rattle.std.specs.List.{flat_map, range_with_len}
use Rattle.std.specs.String.{string_bytes}
use Rattle.surveys.specs.Pictures.{column}
use Rattle.surveys.proofs.sums_picture.put_columns.Given as goal

abbrev pub invariant-loop-traitors : goal.invariant-loop-traitors
invariant-loop-traitors l =
    (string_bytes l.out ≡ string_bytes l.fn.out ++ flat_map (column l.columns) (range_with_len l.columns.first (l.traitors - l.columns.first)))
    × (l.traitors ≤ max l.columns.first l.columns.end)
