use Rattle.std.proofs.Common.{◌≡◌, ◌≤◌, drop, max, min}
use Rattle.surveys.specs.Pictures.{end_of, least}
use Rattle.surveys.proofs.sums_picture.columns_of.Given as goal

-- The least and the greatest are those of the groups so far and the remaining ones.
abbrev pub invariant-loop-group : goal.invariant-loop-group
invariant-loop-group l =
    (min (least (drop l.group-index l.groups)) l.first ≡ least l.groups) × (max (end_of (drop l.group-index l.groups)) l.end ≡ end_of l.groups) × (l.first ≤ 14)
