-- The counts of a survey's outcomes, which are kept while the survey goes on (own).
use Rattle.std.specs.Prelude.{ℕ, ◌+◌, ◌-◌, ◌^◌, min, List, [], ◌∷◌}
use Rattle.surveys.specs.declared.finding.Finding.{Finding}
use Rattle.surveys.specs.declared.group.Group.{Group}
use Rattle.surveys.specs.declared.sums.Sums.{Sums}
use Rattle.surveys.specs.declared.sums.Tally.{Tally}
use Rattle.surveys.specs.Groups.{all_groups}
use Rattle.surveys.specs.Sums.{lesser, sums_of}

-- The counts of campaigns: of all together, and of each combination of number of generals, bound and number of
-- traitors.
pub record Counts : Type 0 where
  pub sums : Sums
  pub groups : List Group

-- Returns the counts of these campaigns.
abbrev pub counts_of : List Finding → Counts
counts_of fs = record { sums = sums_of fs; groups = all_groups fs }

-- Returns the sum of two counts, at most 2^64 - 1.
abbrev pub added : ℕ → ℕ → ℕ
added a b = min (a + b) (2 ^ 64 - 1)

-- Returns the counts of an outcome in two parts of a survey together, each at most 2^64 - 1.
abbrev pub tally_added : Tally → Tally → Tally
tally_added a b = record { count = added a.count b.count; first = lesser a.first b.first }

-- Returns the counts of all outcomes in two parts of a survey together, each at most 2^64 - 1.
abbrev pub sums_added : Sums → Sums → Sums
sums_added a b = record {
  campaigns = added a.campaigns b.campaigns;
  kept = tally_added a.kept b.kept;
  broken = tally_added a.broken b.broken;
  disobeyed = tally_added a.disobeyed b.disobeyed;
}

-- Returns the counts of two groups with the same numbers together, each at most 2^64 - 1.
abbrev pub group_added : Group → Group → Group
group_added a b = record {
  generals = a.generals;
  bound = a.bound;
  traitors = a.traitors;
  sums = sums_added a.sums b.sums;
  failed = added a.failed b.failed;
}

-- Adds the first group of the one list to the first group of the other, the second to the second, and so on.
abbrev pub groups_added : List Group → List Group → List Group
groups_added [] further = []
groups_added (g ∷ groups) [] = []
groups_added (g ∷ groups) (f ∷ further) = group_added g f ∷ groups_added groups further
