-- How traitors break OM(m), whatever they say: campaigns in which the decisions break IC1 or IC2, and the shortest of them
-- (TOPLAS 1982, IC1 and IC2).
use Rattle.std.specs.Prelude.{ℕ, zero, suc, ◌+◌, ◌<◌, ◌≤◌, ◌≡◌, ◌==◌, ◌&&◌, ◌⊎◌, not, Bool, false, if◌then◌else◌, List, [], ◌∷◌, ◌++◌, count_by, sum_by}
use Rattle.combine.specs.declared.campaign_rule.Rule.{Rule}
use Rattle.label.specs.Labels.{generals, others}
use Rattle.label.specs.Oral.{Messages, taken, om, IsFaithful, Agree}
use Rattle.book.specs.Table.{MessageTable}

-- States that OM(m) with the rule f, under the commander c, tolerates k traitors among n generals: the loyal
-- lieutenants agree if at most k generals are traitors and all others are faithful, whatever the traitors send or leave
-- out.
abbrev pub ToleratesUnder : (List ℕ → ℕ) → ℕ → ℕ → ℕ → ℕ → Type 0
ToleratesUnder f n m k c =
    (order : ℕ) (traitor : ℕ → Bool) (M : Messages) → count_by traitor (generals n) ≤ k →
    ((g : ℕ) → g < n → traitor g ≡ false → IsFaithful n c m order M g) →
    Agree n c order traitor (om f n M m (c ∷ []))

-- States that these traitors break OM(m) by these messages: all other generals are faithful, but the loyal lieutenants
-- do not agree.
pub record Breaks (f : List ℕ → ℕ) (n m c order : ℕ) (traitor : ℕ → Bool) (M : Messages) : Type 0 where
  pub faithful : (g : ℕ) → g < n → traitor g ≡ false → IsFaithful n c m order M g
  pub broken : ¬ Agree n c order traitor (om f n M m (c ∷ []))

-- Returns how many orders other than RETREAT the last general `g` of the label w sends to loyal generals, if he is a
-- traitor.
abbrev pub attacks_at : ℕ → (ℕ → Bool) → Messages → List ℕ → ℕ → ℕ
attacks_at n traitor M w g =
    if traitor g then count_by (λ p. not (traitor p) && not (taken M w p == 0)) (others n w) else 0

-- Returns how many orders other than RETREAT traitors send to loyal generals about the label w, whose last general is
-- `g`, and about the labels that begin with w and have up to k generals more.
unfoldable pub attacks_from : ℕ → (ℕ → Bool) → Messages → ℕ → List ℕ → ℕ → ℕ
attacks_from n traitor M zero w g = attacks_at n traitor M w g
attacks_from n traitor M (suc k) w g =
    attacks_at n traitor M w g + sum_by (λ j. attacks_from n traitor M k (w ++ j ∷ []) j) (others n w)

-- Returns how many orders other than RETREAT traitors send to loyal generals in a campaign.
abbrev pub attacks_in : ℕ → ℕ → ℕ → (ℕ → Bool) → Messages → ℕ
attacks_in n m c traitor M = attacks_from n traitor M m (c ∷ []) c

-- States that no break under the commander d has fewer traitors than a break under the commander c, or as many traitors
-- who send fewer orders other than RETREAT to loyal generals.
abbrev pub IsShortest : (List ℕ → ℕ) → ℕ → ℕ → ℕ → ℕ → (ℕ → Bool) → Messages → Type 0
IsShortest f n m d c traitor M =
    (order : ℕ) (rival : ℕ → Bool) (N : Messages) → Breaks f n m d order rival N →
    (count_by traitor (generals n) < count_by rival (generals n))
    ⊎ ((count_by traitor (generals n) ≡ count_by rival (generals n))
    × (attacks_in n m c traitor M ≤ attacks_in n m d rival N))

-- States that a table has these numbers and this rule.
pub record HasNumbers (n m c : ℕ) (by : Rule) (t : MessageTable) : Type 0 where
  pub generals : t.generals ≡ n
  pub bound : t.bound ≡ m
  pub commander : t.commander ≡ c
  pub rule : t.rule ≡ by
