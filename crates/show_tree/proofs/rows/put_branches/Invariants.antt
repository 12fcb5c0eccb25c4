use Rattle.std.proofs.Common.{◌≡◌, ◌*◌, ◌++◌}
use Rattle.std.specs.List.{flat_map, range_with_len}
use Rattle.std.specs.String.{string_bytes}
use Rattle.show_tree.specs.Places.{branch_at}
use Rattle.show_tree.specs.Rows.{branch_way}
use Rattle.show_tree.proofs.rows.put_branches.Given as goal

abbrev pub invariant-loop-place : goal.invariant-loop-place
invariant-loop-place l = string_bytes l.out ≡ string_bytes l.fn.out ++ flat_map (λ i. branch_way (28 * i) (branch_at l.generals l.general l.label i)) (range_with_len 0 l.place)
