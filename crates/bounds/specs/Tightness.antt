-- No rule tolerates m traitors among 3m generals or fewer (TOPLAS 1982, section 2; Fischer, Lynch, Merritt, "Easy
-- impossibility proofs for distributed consensus problems", Distributed Computing 1, 1986). Each statement is the
-- contract of a function of this crate.
use Rattle.std.specs.Prelude.{ℕ, ◌*◌, ◌<◌, ◌≤◌, ◌≡◌, ◌≢◌, Bool, false, List, [], ◌∷◌, count_by}
use Rattle.label.specs.Labels.{on, generals}
use Rattle.label.specs.Oral.{IsLabel, Messages, om, IsFaithful, Agree}

-- States that there are n generals with commander c, at least three of them but too few to tolerate m traitors: at
-- most 3m.
pub record IsTooFew (n c m : ℕ) : Type 0 where
  pub commander : c < n
  pub three : 3 ≤ n
  pub few : n ≤ 3 * m

-- States that messages are admissible: at most m generals are traitors, and all others are faithful, for any number
-- of rounds.
pub record IsAdmissible (n c m order : ℕ) (traitor : ℕ → Bool) (M : Messages) : Type 0 where
  pub few : count_by traitor (generals n) ≤ m
  pub faithful : (rounds g : ℕ) → g < n → traitor g ≡ false → IsFaithful n c rounds order M g

-- States that general p cannot distinguish two message functions: he receives the same messages in both.
abbrev pub IsIndistinguishable : ℕ → ℕ → ℕ → Messages → Messages → Type 0
IsIndistinguishable n c p M N = (w : List ℕ) → IsLabel n c w → on w p ≡ false → M w p ≡ N w p

-- States that a function is a decision rule: the decision of a lieutenant depends only on the messages that he
-- receives.
abbrev pub IsDecisionRule : ℕ → ℕ → (ℕ → Messages → ℕ) → Type 0
IsDecisionRule n c decide =
    (p : ℕ) (M N : Messages) → p < n → p ≢ c → IsIndistinguishable n c p M N → decide p M ≡ decide p N

-- A campaign in which a decision rule breaks IC1 or IC2, although the messages are admissible.
pub record BrokenCampaign (n c m : ℕ) (decide : ℕ → Messages → ℕ) : Type 0 where
  pub order : ℕ
  pub traitor : ℕ → Bool
  pub messages : Messages
  pub admissible : IsAdmissible n c m order traitor messages
  pub broken : ¬ Agree n c order traitor (λ p. decide p messages)

-- States that the bound is tight: if there are too few generals, every decision rule is broken by some campaign.
abbrev pub BoundIsTight : Type 0
BoundIsTight = (n c m : ℕ) (decide : ℕ → Messages → ℕ) → IsTooFew n c m → IsDecisionRule n c decide →
    BrokenCampaign n c m decide

-- States that OM(m) is a decision rule, whatever function combines the orders. So the tight bound applies to it.
abbrev pub OmIsDecisionRule : Type 0
OmIsDecisionRule = (f : List ℕ → ℕ) (n c m : ℕ) → c < n → IsDecisionRule n c (λ p M. om f n M m (c ∷ []) p)
