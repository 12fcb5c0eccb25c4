use Rattle.std.proofs.Common.{◌≡◌, ◌++◌, take}
use Rattle.std.specs.Prelude.{flat_map}
use Rattle.std.specs.String.{string_bytes}
use Rattle.surveys.specs.Tables.{group_text}
use Rattle.surveys.proofs.sums_table.put_groups.Given as goal

abbrev pub invariant-loop-group : goal.invariant-loop-group
invariant-loop-group l = string_bytes l.out ≡ string_bytes l.fn.out ++ flat_map group_text (take l.group-index l.groups)
