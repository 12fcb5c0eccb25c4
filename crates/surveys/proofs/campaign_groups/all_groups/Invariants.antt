use Rattle.std.proofs.Common.{◌≡◌}
use Rattle.std.specs.List.{flat_map, range_with_len}
use Rattle.surveys.specs.Groups.{groups_by_bound, of_generals}
use Rattle.surveys.proofs.campaign_groups.all_groups.Given as goal

abbrev pub invariant-loop-generals : goal.invariant-loop-generals
invariant-loop-generals l = l.groups.items ≡ flat_map (λ n. groups_by_bound n (of_generals n l.findings)) (range_with_len 0 l.generals)
