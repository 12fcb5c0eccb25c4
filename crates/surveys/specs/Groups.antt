-- The campaigns of a survey, grouped by number of generals, bound and number of traitors (own).
use Rattle.std.specs.Prelude.{ℕ, ◌==◌, Bool, not, List, [], ◌∷◌, filter, flat_map, count_by}
use Rattle.std.specs.List.{range_with_len}
use Rattle.surveys.specs.declared.finding.Finding.{Finding}
use Rattle.surveys.specs.Sums.{is_sound, sums_of}
use Rattle.surveys.specs.declared.group.Group.{Group}

-- Returns the results of the campaigns with `n` generals.
abbrev pub of_generals : ℕ → List Finding → List Finding
of_generals n fs = filter (λ (f : Finding). f.generals == n) fs

-- Returns the results of the campaigns with the bound `m`.
abbrev pub of_bound : ℕ → List Finding → List Finding
of_bound m fs = filter (λ (f : Finding). f.bound == m) fs

-- Returns the results of the campaigns with `t` traitors.
abbrev pub of_traitors : ℕ → List Finding → List Finding
of_traitors t fs = filter (λ (f : Finding). f.traitors == t) fs

-- Returns in how many campaigns the loyal lieutenants do not decide alike or do not obey a loyal commander.
abbrev pub failed_in : List Finding → ℕ
failed_in fs = count_by (λ (f : Finding). not (is_sound f.verdict)) fs

-- Returns the group of the campaigns with `t` traitors, which may be empty. All given campaigns have `n` generals and
-- the bound `m`.
abbrev pub group_of : ℕ → ℕ → List Finding → ℕ → Group
group_of n m fs t = record {
  generals = n;
  bound = m;
  traitors = t;
  sums = sums_of (of_traitors t fs);
  failed = failed_in (of_traitors t fs);
}

-- Returns a group for each number of traitors, 0 to 13. All given campaigns have `n` generals and the bound `m`.
unfoldable pub groups_in : ℕ → ℕ → List Finding → List Group
groups_in n m fs = flat_map (λ t. group_of n m fs t ∷ []) (range_with_len 0 14)

-- Returns a group for each combination of a bound, 0 to 4, and a number of traitors. All given campaigns have `n`
-- generals.
unfoldable pub groups_by_bound : ℕ → List Finding → List Group
groups_by_bound n fs = flat_map (λ m. groups_in n m (of_bound m fs)) (range_with_len 0 5)

-- Returns a group for each combination of a number of generals, 0 to 13, a bound and a number of traitors. A group is
-- empty if no campaign has its numbers.
unfoldable pub all_groups : List Finding → List Group
all_groups fs = flat_map (λ n. groups_by_bound n (of_generals n fs)) (range_with_len 0 14)

-- Checks whether a group has campaigns.
abbrev pub is_occupied : Group → Bool
is_occupied g = not (g.sums.campaigns == 0)

-- Returns the groups of the combinations that occur in these campaigns.
abbrev pub groups_of : List Finding → List Group
groups_of fs = filter is_occupied (all_groups fs)
