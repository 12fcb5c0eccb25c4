-- How many traitors OM(m) tolerates among n generals (TOPLAS 1982, Lemma 1 and Theorem 1, with the traitors counted
-- apart from m). Each statement is the contract of a function of this crate.
use Rattle.std.specs.Prelude.{ℕ, ◌+◌, ◌*◌, ◌<◌, ◌≤◌, ◌≡◌, ◌↔◌, ◌⊎◌, Bool, false, List, [], ◌∷◌, count_by}
use Rattle.combine.specs.Rule.{majority, IsMajorityRule}
use Rattle.label.specs.Labels.{generals}
use Rattle.label.specs.Oral.{Messages, om, IsFaithful, Agree}

-- States that OM(m) with the rule f tolerates k traitors among n generals. The loyal lieutenants agree if at most k
-- generals are traitors and all others are faithful, whatever the traitors send or leave out.
abbrev pub Tolerates : (List ℕ → ℕ) → ℕ → ℕ → ℕ → Type 0
Tolerates f n m k =
    (c order : ℕ) (traitor : ℕ → Bool) (M : Messages) → c < n → count_by traitor (generals n) ≤ k →
    ((g : ℕ) → g < n → traitor g ≡ false → IsFaithful n c m order M g) →
    Agree n c order traitor (om f n M m (c ∷ []))

-- States that k traitors are few enough for OM(m) among n generals: k is 0, or k is at most m and n is more than 2k +
-- m.
abbrev pub IsTolerable : ℕ → ℕ → ℕ → Type 0
IsTolerable n m k = (k ≡ 0) ⊎ ((k ≤ m) × (2 * k + m < n))

-- States that OM(m) tolerates k traitors if they are few enough, for every rule that returns the order of a majority.
abbrev pub ToleranceHolds : Type 0
ToleranceHolds = (f : List ℕ → ℕ) → IsMajorityRule f → (n m k : ℕ) → IsTolerable n m k → Tolerates f n m k

-- States that m traitors among more than 3m generals are few enough, so that the agreement theorem follows from the
-- tolerance.
abbrev pub BoundIsTolerable : Type 0
BoundIsTolerable = (n m : ℕ) → 3 * m < n → IsTolerable n m m

-- States that OM(m) with the majority rule tolerates k traitors among at least three generals exactly if they are few
-- enough.
abbrev pub ToleranceIsExact : Type 0
ToleranceIsExact = (n m k : ℕ) → 3 ≤ n → Tolerates majority n m k ↔ IsTolerable n m k
