-- What the conditions that are judged from a table mean (TOPLAS 1982, IC1 and IC2). A function of this crate has the
-- statement as its contract.
use Rattle.std.specs.Prelude.{ℕ, ◌<◌, ◌≡◌, ◌≢◌, ◌↔◌, true, false, List, [], ◌∷◌, Some}
use Rattle.label.specs.Labels.{on}
use Rattle.label.specs.Oral.{IsLoyalLieutenant, IsBound, IsFaithful}
use Rattle.book.specs.declared.conditions.Obedience.TheVariants.{Traitor, Obeyed, Disobeyed}
use Rattle.book.specs.Conditions.{judged}
use Rattle.book.specs.Decisions.{decision_of}
use Rattle.book.specs.Table.{MessageTable, AreNumbersWithin, told}

-- States that general `p` is a loyal lieutenant: one who is not named as a traitor.
abbrev pub IsLoyal : MessageTable → List ℕ → ℕ → Type 0
IsLoyal t traitors p = IsLoyalLieutenant t.generals t.commander (on traitors) p

-- States that all loyal lieutenants, those who are not named as traitors, decide on the same order (IC1).
abbrev pub DecideAlike : MessageTable → List ℕ → Type 0
DecideAlike t traitors = (p q : ℕ) → IsLoyal t traitors p → IsLoyal t traitors q → decision_of t p ≡ decision_of t q

-- States that all loyal lieutenants, those who are not named as traitors, decide on this order (IC2).
abbrev pub DecideOn : MessageTable → List ℕ → ℕ → Type 0
DecideOn t traitors order = (p : ℕ) → IsLoyal t traitors p → decision_of t p ≡ order

-- States that the commander sent this order to each lieutenant.
abbrev pub TellsAll : MessageTable → ℕ → Type 0
TellsAll t order = (p : ℕ) → p < t.generals → p ≢ t.commander → told t.messages (t.commander ∷ []) p ≡ Some order

-- States that the table's numbers are within the limits of a campaign.
abbrev pub IsWithin : MessageTable → Type 0
IsWithin t = AreNumbersWithin t.generals t.bound t.commander

-- States that the agreement theorem applies to a table: the bound holds if these generals are named as traitors, and
-- each other general sends on the order that he took.
pub record IsTrusted (t : MessageTable) (traitors : List ℕ) (order : ℕ) : Type 0 where
  pub bound : IsBound t.generals t.bound (on traitors)
  pub faithful : (g : ℕ) → g < t.generals → on traitors g ≡ false →
      IsFaithful t.generals t.commander t.bound order (told t.messages) g

-- States that the fields of `judged` mean IC1 and IC2, and that both hold if the agreement theorem applies.
pub record ConditionsMean : Type 0 where
  pub bound : (t : MessageTable) (traitors : List ℕ) →
      ((judged t traitors).bound ≡ true) ↔ IsBound t.generals t.bound (on traitors)
  pub alike : (t : MessageTable) (traitors : List ℕ) → ((judged t traitors).alike ≡ true) ↔ DecideAlike t traitors
  pub traitor : (t : MessageTable) (traitors : List ℕ) →
      ((judged t traitors).obedience ≡ Traitor) ↔ (on traitors t.commander ≡ true)
  pub obeyed : (t : MessageTable) (traitors : List ℕ) (order : ℕ) → IsWithin t →
      ((judged t traitors).obedience ≡ Obeyed order)
      ↔ ((on traitors t.commander ≡ false) × TellsAll t order × DecideOn t traitors order)
  pub disobeyed : (t : MessageTable) (traitors : List ℕ) (order : ℕ) → IsWithin t →
      ((judged t traitors).obedience ≡ Disobeyed order)
      ↔ ((on traitors t.commander ≡ false) × TellsAll t order × (DecideOn t traitors order → ⊥))
  pub kept : (t : MessageTable) (traitors : List ℕ) (order : ℕ) → IsWithin t → IsTrusted t traitors order →
      ((judged t traitors).alike ≡ true)
      × (on traitors t.commander ≡ false → (judged t traitors).obedience ≡ Obeyed order)
