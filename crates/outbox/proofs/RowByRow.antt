-- The rows of a commander, and those of a lieutenant in round 1.
use Rattle.std.proofs.Common.{ℕ, ◌-◌, ◌≡◌, ◌≢◌, List, [], ◌∷◌, map, refl, sym, ap, ◌∙◌, arith}
use Rattle.std.proofs.lemmas.Bool.{eq-eqb, ne_eqb}
use Rattle.label.specs.declared.shape.Shape.{Shape}
use Rattle.label.specs.Labels.{labels, others}
use Rattle.label.specs.Relay.{relay}
use Rattle.outbox.specs.Rows.{RowOrders, empty_row, row_for}
use Rattle.outbox.proofs.Walked.{others_twice}

-- In round 1 the commander relays the empty label.
pub one_row : (s : Shape) (rows : List RowOrders) (hearing : List ℕ) (row : RowOrders) → s.general ≡ s.commander → s.round ≡ 1 → hearing ≡ others s.generals (s.commander ∷ s.general ∷ []) → row ≡ empty_row hearing → rows ≡ row ∷ [] → rows ≡ map (row_for s) (relay s)
one_row s rows hearing row own first heard is all =
    let here : row ≡ row_for s [] = is ∙ ap empty_row (heard ∙ (ap (λ (c : ℕ). others s.generals (c ∷ s.general ∷ [])) (sym own) ∙ others_twice s.generals s.general)) in
    rw (eq-eqb s.general s.commander own, eq-eqb s.round 1 first) (all ∙ ap (λ (r : RowOrders). r ∷ []) here)

-- In later rounds the commander relays no label.
pub no_row : (s : Shape) → s.general ≡ s.commander → s.round ≢ 1 → [] ≡ map (row_for s) (relay s)
no_row s own later = rw (eq-eqb s.general s.commander own, ne_eqb s.round 1 later) refl

-- In round 1 a lieutenant relays no label.
pub no_rows : (s : Shape) (n c p round : ℕ) → round ≡ 1 → [] ≡ map (row_for s) (labels n c p (round - 1))
unfolding labels
no_rows s n c p round e = let first : round - 1 ≡ 0 = omega arith in rw first refl
