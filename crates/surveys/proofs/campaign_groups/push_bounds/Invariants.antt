use Rattle.std.proofs.Common.{◌≡◌, ◌++◌}
use Rattle.std.specs.List.{flat_map, range_with_len}
use Rattle.surveys.specs.Groups.{groups_in, of_bound}
use Rattle.surveys.proofs.campaign_groups.push_bounds.Given as goal

abbrev pub invariant-loop-bound : goal.invariant-loop-bound
invariant-loop-bound l = l.groups.items ≡ l.fn.groups.items ++ flat_map (λ m. groups_in l.generals m (of_bound m l.findings)) (range_with_len 0 l.bound)
