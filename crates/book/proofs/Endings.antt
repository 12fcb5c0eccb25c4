-- The general who is last on a label.
use Rattle.std.proofs.Common.{ℕ, ◌+◌, ◌<◌, ◌≡◌, List, [], ◌∷◌, ◌++◌, get_or, length, take, refl, ap, ◌∙◌}
use Rattle.std.proofs.lemmas.List.{take_more}
use Rattle.std.specs.Prelude.{◌==◌}
use Rattle.book.specs.Written.{ends_in}

pub ends_push : (w : List ℕ) (x g : ℕ) → ends_in (w ++ x ∷ []) g ≡ (x == g)
ends_push [] x g = refl
ends_push (y ∷ []) x g = refl
ends_push (y ∷ z ∷ w) x g = ends_push (z ∷ w) x g

-- One more general.
pub ends_more : (w : List ℕ) (i d g : ℕ) → i < length w → ends_in (take (i + 1) w) g ≡ (get_or w i d == g)
ends_more w i d g l = ap (λ (v : List ℕ). ends_in v g) (take_more w i d l) ∙ ends_push (take i w) (get_or w i d) g
