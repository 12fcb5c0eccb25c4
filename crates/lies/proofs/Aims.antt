-- Aims at loyal lieutenants off a label, and what they are to decide about it.
use Rattle.std.proofs.Common.{ℕ, zero, suc, ◌<◌, ◌≡◌, ◌≢◌, Bool, true, false, not, cond, List, [], ◌∷◌, ◌++◌, map, refl, sym, ap, ◌∙◌, inl, inr, Option, None, Some}
use Rattle.std.specs.Prelude.{◌||◌, ◌==◌}
use Rattle.std.proofs.lemmas.Bool.{cases_Bool, or_from, ne_eqb, eq-eqb, eqb-true, cond-true, cond-false, false≢true}
use Rattle.label.specs.Labels.{on, others}
use Rattle.label.specs.Oral.{Messages, taken, om}
use Rattle.label.proofs.Counting.{on-push}
use Rattle.lies.specs.Plans.{may_vote, next_aim}
use Rattle.lies.specs.declared.aim.Aim.{Aim}

-- The rule, the traitors, the number of generals and the messages of a campaign.
pub record Setting : Type 0 where
  pub f : List ℕ → ℕ
  pub traitor : ℕ → Bool
  pub n : ℕ
  pub M : Messages

-- States that p is a loyal general who is off the label.
pub record IsReceiver (x : Setting) (w : List ℕ) (p : ℕ) : Type 0 where
  pub within : p < x.n
  pub loyal : x.traitor p ≡ false
  pub off : on w p ≡ false

-- States that an aim, if there is one, is at such a general.
abbrev pub IsAimed : Setting → List ℕ → Option Aim → Type 0
IsAimed x w None = Unit {0}
IsAimed x w (Some aim) = IsReceiver x w aim.general

-- States that he decides on the order of the aim, with k relays left for the label.
abbrev pub Decides : Setting → ℕ → List ℕ → Option Aim → Type 0
Decides x k w None = Unit {0}
Decides x k w (Some aim) = om x.f x.n x.M k w aim.general ≡ aim.order

pub receiver_push : (x : Setting) (w : List ℕ) (j p : ℕ) → IsReceiver x w p → j ≢ p → IsReceiver x (w ++ j ∷ []) p
receiver_push x w j p r ne = record {
  within = r.within;
  loyal = r.loyal;
  off = on-push w j p ∙ or_from (on w p) (j == p) r.off (ne_eqb j p ne);
}

-- Returns the vote of j in the list that p combines.
abbrev pub entry : Setting → ℕ → List ℕ → ℕ → ℕ → ℕ
entry x k w p j = cond (j == p) (taken x.M w p) (om x.f x.n x.M k (w ++ j ∷ []) p)

pub om_step : (x : Setting) (k : ℕ) (w : List ℕ) (p : ℕ) → om x.f x.n x.M (suc k) w p ≡ x.f (map (entry x k w p) (others x.n w))
unfolding om
om_step x k w p = refl

pub om_last : (x : Setting) (w : List ℕ) (p : ℕ) → om x.f x.n x.M zero w p ≡ taken x.M w p
unfolding om
om_last x w p = refl

-- Proves that the aim for the label that j extends is at a receiver of that label.
pub aimed_push : (x : Setting) (w : List ℕ) (j vote : ℕ) (o : Option Aim) → IsAimed x w o → IsAimed x (w ++ j ∷ []) (next_aim o j vote)
aimed_push x w j vote None r = tt
aimed_push x w j vote (Some aim) r = step (aim.general == j) refl
  where
    step : (b : Bool) → (aim.general == j) ≡ b → IsAimed x (w ++ j ∷ []) (cond b None (Some (record { general = aim.general; order = vote })))
    step true e = tt
    step false e = receiver_push x w j aim.general r (λ same. false≢true (sym e ∙ eq-eqb aim.general j (sym same)))

-- Proves that a vote that j may cast is his entry in the list, if the aim for the label that he extends is decided.
pub entry_is : (x : Setting) (k : ℕ) (w : List ℕ) (aim : Aim) (j own vote : ℕ) → may_vote (Some aim) j own vote ≡ true → (j ≡ aim.general → taken x.M w aim.general ≡ own)
    → Decides x k (w ++ j ∷ []) (next_aim (Some aim) j vote) → vote ≡ entry x k w aim.general j
entry_is x k w aim j own vote may same decides = elim (cases_Bool (aim.general == j)) [
  | inl here ↦
      let it : j ≡ aim.general = sym (eqb-true aim.general j here) in
      let voted : vote ≡ own = eqb-true vote own (sym (ap (λ (b : Bool). not b || vote == own) here) ∙ may) in
      voted ∙ (sym (same it) ∙ sym (cond-true (j == aim.general) (taken x.M w aim.general) (om x.f x.n x.M k (w ++ j ∷ []) aim.general) (eq-eqb j aim.general it)))
  | inr apart ↦
      let ne : (j == aim.general) ≡ false = ne_eqb j aim.general (λ e. false≢true (sym apart ∙ eq-eqb aim.general j (sym e))) in
      let it : om x.f x.n x.M k (w ++ j ∷ []) aim.general ≡ vote =
      moved (aim.general == j) apart decides
      in
      sym it ∙ sym (cond-false (j == aim.general) (taken x.M w aim.general) (om x.f x.n x.M k (w ++ j ∷ []) aim.general) ne)
]
  where
    moved : (b : Bool) → b ≡ false → Decides x k (w ++ j ∷ []) (cond b None (Some (record { general = aim.general; order = vote }))) → om x.f x.n x.M k (w ++ j ∷ []) aim.general ≡ vote
    moved true e d = absurd (false≢true (sym e))
    moved false e d = d

-- Proves that j may cast his entry in the list as his vote, and the aim for the label that he extends is then decided.
pub entry_votes : (x : Setting) (k : ℕ) (w : List ℕ) (aim : Aim) (j own : ℕ) → (j ≡ aim.general → taken x.M w aim.general ≡ own)
    → (may_vote (Some aim) j own (entry x k w aim.general j) ≡ true) × Decides x k (w ++ j ∷ []) (next_aim (Some aim) j (entry x k w aim.general j))
entry_votes x k w aim j own same = elim (cases_Bool (aim.general == j)) [
  | inl here ↦
      let it : j ≡ aim.general = sym (eqb-true aim.general j here) in
      let is : entry x k w aim.general j ≡ own = cond-true (j == aim.general) (taken x.M w aim.general) (om x.f x.n x.M k (w ++ j ∷ []) aim.general) (eq-eqb j aim.general it) ∙ same it in
      (ap (λ (b : Bool). not b || entry x k w aim.general j == own) here ∙ eq-eqb (entry x k w aim.general j) own is, none (aim.general == j) here)
  | inr apart ↦
      let ne : (j == aim.general) ≡ false = ne_eqb j aim.general (λ e. false≢true (sym apart ∙ eq-eqb aim.general j (sym e))) in (
        ap (λ (b : Bool). not b || entry x k w aim.general j == own) apart,
        some (aim.general == j) apart (sym (cond-false (j == aim.general) (taken x.M w aim.general) (om x.f x.n x.M k (w ++ j ∷ []) aim.general) ne)),
      )
]
  where
    none : (b : Bool) → b ≡ true → Decides x k (w ++ j ∷ []) (cond b None (Some (record { general = aim.general; order = entry x k w aim.general j })))
    none true e = tt
    none false e = absurd (false≢true e)

    some : (b : Bool) → b ≡ false → om x.f x.n x.M k (w ++ j ∷ []) aim.general ≡ entry x k w aim.general j → Decides x k (w ++ j ∷ []) (cond b None (Some (record { general = aim.general; order = entry x k w aim.general j })))
    some true e d = absurd (false≢true (sym e))
    some false e d = d
