-- Rules for campaigns with only two orders, 0 and 1. The statement is the contract of a function of this crate.
use Rattle.std.specs.Prelude.{ℕ, ◌-◌, ◌*◌, ◌<◌, ◌≤◌, ◌≡◌, ◌==◌, Bool, false, List, [], ◌∷◌, length, count_by}
use Rattle.label.specs.Labels.{generals}
use Rattle.label.specs.Oral.{AllBelow, Messages, taken, om, IsFaithful, Agree}
use Rattle.bounds.specs.Tolerance.{IsTolerable}

-- States that a rule is right on lists of at most `most` orders, each 0 or 1. It returns 0 or 1, and the order that
-- makes up more than half of the list if there is one.
pub record IsTwoOrderRule (most : ℕ) (f : List ℕ → ℕ) : Type 0 where
  pub two : (xs : List ℕ) → length xs ≤ most → AllBelow 2 xs → f xs < 2
  pub law : (xs : List ℕ) (v : ℕ) → length xs ≤ most → AllBelow 2 xs → length xs < 2 * count_by (λ x. x == v) xs →
      f xs ≡ v

-- States that a rule that is right on lists of 0 and 1 suffices for agreement. The loyal lieutenants agree by OM(m)
-- if there are few enough traitors, all other generals are faithful, and everyone takes only 0 or 1.
abbrev pub TwoOrderRulesAgree : Type 0
TwoOrderRulesAgree = (f : List ℕ → ℕ) (n m k : ℕ) → IsTwoOrderRule (n - 1) f → IsTolerable n m k →
    (c order : ℕ) (traitor : ℕ → Bool) (M : Messages) → c < n → count_by traitor (generals n) ≤ k →
    ((w : List ℕ) (p : ℕ) → taken M w p < 2) →
    ((g : ℕ) → g < n → traitor g ≡ false → IsFaithful n c m order M g) →
    Agree n c order traitor (om f n M m (c ∷ []))
