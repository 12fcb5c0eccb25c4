-- Counts of the outcomes of surveyed campaigns (own).
use Rattle.std.specs.Prelude.{ℕ, ◌≡◌, ◌+◌, min, Bool, false, ◌&&◌, not, cond, List, [], ◌∷◌, ◌++◌, length, count_by, Option, None, Some}
use Rattle.world.specs.declared.verdict.Verdict.{Verdict}
use Rattle.surveys.specs.declared.finding.Finding.{Finding}
use Rattle.surveys.specs.declared.sums.CampaignOutcome.{CampaignOutcome}
use Rattle.surveys.specs.declared.sums.CampaignOutcome.TheVariants.{Kept, Broken, Disobeyed}
use Rattle.surveys.specs.declared.sums.Sums.{Sums}
use Rattle.surveys.specs.declared.sums.Tally.{Tally}

-- Checks whether the answer is no. It is false if there is no answer.
abbrev pub is_denied : Option Bool → Bool
is_denied None = false
is_denied (Some b) = not b

-- Checks whether a verdict is sound: the loyal lieutenants decide alike and obey a loyal commander (TOPLAS 1982, IC1
-- and IC2).
abbrev pub is_sound : Verdict → Bool
is_sound v = v.alike && not (is_denied v.obeyed)

-- Checks whether a campaign's result has this outcome.
abbrev pub has : CampaignOutcome → Finding → Bool
has Kept f = f.verdict.bound
has Broken f = not f.verdict.alike
has Disobeyed f = is_denied f.verdict.obeyed

-- Returns the lesser of two seeds. If only one is given, returns that one.
abbrev pub lesser : Option ℕ → Option ℕ → Option ℕ
lesser None b = b
lesser (Some a) None = Some a
lesser (Some a) (Some b) = Some (min a b)

-- Returns the seed of a campaign if the campaign has this outcome, and otherwise `None`.
abbrev pub seed_of : CampaignOutcome → Finding → Option ℕ
seed_of outcome f = cond (has outcome f) (Some f.seed) None

-- Returns the least seed of the campaigns with this outcome, or `None` if there are no such campaigns.
abbrev pub least : CampaignOutcome → List Finding → Option ℕ
least outcome [] = None
least outcome (f ∷ fs) = lesser (seed_of outcome f) (least outcome fs)

-- Returns how many of the campaigns have this outcome, and the least of their seeds, if there are any.
abbrev pub tally_of : CampaignOutcome → List Finding → Tally
tally_of outcome fs = record { count = count_by (has outcome) fs; first = least outcome fs }

-- Returns how many campaigns there are, and how many of them have each outcome.
abbrev pub sums_of : List Finding → Sums
sums_of fs = record {
  campaigns = length fs;
  kept = tally_of Kept fs;
  broken = tally_of Broken fs;
  disobeyed = tally_of Disobeyed fs;
}

-- Returns the counts of an outcome in two parts of a survey together.
abbrev pub tally_joined : Tally → Tally → Tally
tally_joined a b = record { count = a.count + b.count; first = lesser a.first b.first }

-- Returns the counts of all outcomes in two parts of a survey together.
abbrev pub joined : Sums → Sums → Sums
joined a b = record {
  campaigns = a.campaigns + b.campaigns;
  kept = tally_joined a.kept b.kept;
  broken = tally_joined a.broken b.broken;
  disobeyed = tally_joined a.disobeyed b.disobeyed;
}

-- States that if a survey is cut into two parts, their counts add up to the counts of the whole survey, whichever part
-- is first.
pub record SumsOfParts : Type 0 where
  pub whole : (front back : List Finding) → sums_of (front ++ back) ≡ joined (sums_of front) (sums_of back)
  pub swapped : (front back : List Finding) → sums_of (front ++ back) ≡ sums_of (back ++ front)
