use Rattle.std.proofs.Common.{[], ◌∷◌, ◌≡◌, ◌++◌}
use Rattle.std.specs.List.{flat_map, range_with_len}
use Rattle.surveys.specs.Groups.{group_of}
use Rattle.surveys.proofs.campaign_groups.push_groups.Given as goal

abbrev pub invariant-loop-traitors : goal.invariant-loop-traitors
invariant-loop-traitors l = l.groups.items ≡ l.fn.groups.items ++ flat_map (λ t. group_of l.generals l.bound l.findings t ∷ []) (range_with_len 0 l.traitors)
