-- How many orders traitors send to loyal generals. Each is free: if it may be one of two orders, x of them make 2^x
-- campaigns.
use Rattle.std.specs.Prelude.{ℕ, zero, suc, ◌+◌, ◌<◌, ◌≤◌, ◌≡◌, not, Bool, if◌then◌else◌, List, [], ◌∷◌, ◌++◌, count_by, sum_by}
use Rattle.label.specs.Labels.{generals, others}

-- Returns to how many loyal generals the last general `g` of the label w sends an order, if he is a traitor.
abbrev pub places_at : ℕ → (ℕ → Bool) → List ℕ → ℕ → ℕ
places_at n traitor w g = if traitor g then count_by (λ p. not (traitor p)) (others n w) else 0

-- Returns how many orders traitors send to loyal generals about the label w, whose last general is `g`, and about the
-- labels that begin with w and have up to k generals more.
unfoldable pub places_from : ℕ → (ℕ → Bool) → ℕ → List ℕ → ℕ → ℕ
places_from n traitor zero w g = places_at n traitor w g
places_from n traitor (suc k) w g =
    places_at n traitor w g + sum_by (λ j. places_from n traitor k (w ++ j ∷ []) j) (others n w)

-- Returns how many orders traitors send to loyal generals by OM(m) under the commander c.
abbrev pub places_in : ℕ → ℕ → ℕ → (ℕ → Bool) → ℕ
places_in n m c traitor = places_from n traitor m (c ∷ []) c

-- States that x is the most orders that at most k traitors among n generals send to loyal generals by OM(m), under any
-- commander.
pub record AreMostPlaces (n m k x : ℕ) : Type 0 where
  pub bounded : (c : ℕ) (traitor : ℕ → Bool) → c < n → count_by traitor (generals n) ≤ k →
      places_in n m c traitor ≤ x
  pub commander : ℕ
  pub traitor : ℕ → Bool
  pub general : commander < n
  pub few : count_by traitor (generals n) ≤ k
  pub reached : places_in n m commander traitor ≡ x
