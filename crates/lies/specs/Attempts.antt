-- What traitors can attempt: that a loyal lieutenant disobeys a loyal commander, or that two loyal lieutenants disagree
-- under a commander who is a traitor. The agreement of the loyal lieutenants fails exactly if one of these happens.
use Rattle.std.specs.Prelude.{ℕ, ◌≤◌, ◌≡◌, ◌==◌, ◌⊎◌, Bool, if◌then◌else◌, List, [], ◌∷◌, map, filter, flat_map, Option, None, Some}
use Rattle.std.specs.Int.{bit_at}
use Rattle.label.specs.Labels.{on, generals, others}
use Rattle.lies.specs.declared.aim.Aim.{Aim}
use Rattle.lies.specs.declared.attempt.Attempt.{Attempt}
use Rattle.lies.specs.declared.attempt.Success.{Success}
use Rattle.lies.specs.declared.choice.Choice.{Choice}
use Rattle.lies.specs.declared.sender.Sender.TheVariants.{Loyal, Traitor}
use Rattle.lies.specs.Plans.{attacks, plan}

-- The aim that lieutenant p decides on this order.
abbrev pub aim_at : ℕ → ℕ → Option Aim
aim_at p order = Some (record { general = p; order = order })

-- The attempt that lieutenant p decides on an order other than that of a loyal commander.
abbrev pub disobedience : ℕ → ℕ → ℕ → Attempt
disobedience p order other = record { sender = Loyal order; aims = record { first = aim_at p other; second = None } }

-- The attempt that lieutenants p and q decide on 0 and 1, although the commander is a traitor.
abbrev pub disagreement : ℕ → ℕ → Attempt
disagreement p q = record { sender = Traitor; aims = record { first = aim_at p 0; second = aim_at q 1 } }

-- Returns all attempts against these loyal lieutenants under a commander who is a traitor, or is loyal.
abbrev pub attempts_on : Bool → List ℕ → List Attempt
attempts_on is_traitor loyals = if is_traitor then flat_map (λ p. map (disagreement p) loyals) loyals
    else flat_map (λ p. disobedience p 0 1 ∷ disobedience p 1 0 ∷ []) loyals

-- Returns all attempts of these traitors under the commander c.
abbrev pub attempts : ℕ → ℕ → List ℕ → List Attempt
attempts n c traitors = attempts_on (on traitors c) (others n (c ∷ traitors))

-- Returns the cheapest plan of these traitors for an attempt, or `None` if it cannot succeed.
abbrev pub plan_for : (List ℕ → ℕ) → ℕ → ℕ → ℕ → List ℕ → Attempt → Option (List Choice)
plan_for f n m c traitors attempt = plan f (on traitors) m (others n (c ∷ [])) attempt.sender attempt.aims

-- States that a value is in the list.
abbrev pub IsIn : {A : Type 0} → A → List A → Type 0
IsIn x [] = ⊥
IsIn x (y ∷ ys) = (x ≡ y) ⊎ IsIn x ys

-- States that an attempt of these traitors succeeds, and by how many orders other than RETREAT to loyal generals.
pub record Succeeds (f : List ℕ → ℕ) (n m c : ℕ) (traitors : List ℕ) (success : Success) : Type 0 where
  pub one : IsIn success.attempt (attempts n c traitors)
  pub choices : List Choice
  pub planned : plan_for f n m c traitors success.attempt ≡ Some choices
  pub counted : attacks choices ≡ success.attacks

-- States that no attempt of the list succeeds by fewer orders than the success that was found, or none at all.
abbrev pub NoneCheaper : (List ℕ → ℕ) → ℕ → ℕ → ℕ → List ℕ → List Attempt → Option Success → Type 0
NoneCheaper f n m c traitors tried None = (attempt : Attempt) → IsIn attempt tried →
    plan_for f n m c traitors attempt ≡ None
NoneCheaper f n m c traitors tried (Some success) = (attempt : Attempt) (choices : List Choice) →
    IsIn attempt tried → plan_for f n m c traitors attempt ≡ Some choices → success.attacks ≤ attacks choices

-- Returns the generals in the set of the bits of a number.
abbrev pub members : ℕ → ℕ → List ℕ
members n set = filter (λ g. bit_at set g == 1) (generals n)

-- States that if these generals are the traitors, no attempt succeeds by fewer orders than the break that was found, or
-- none at all.
abbrev pub NoneCheaperAmong : (List ℕ → ℕ) → ℕ → ℕ → ℕ → Option Success → List ℕ → Type 0
NoneCheaperAmong f n m c found traitors = NoneCheaper f n m c traitors (attempts n c traitors) found
