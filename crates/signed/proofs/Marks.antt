-- The set of a chain's signers after it is extended.
use Rattle.std.proofs.Common.{◌≡◌, ℕ, Bool, true, false, cond, ◌||◌, List, [], ◌∷◌, ◌++◌, refl, sym, ap, ◌∙◌}
use Rattle.std.specs.Prelude.{◌==◌}
use Rattle.std.specs.Int.{bit_at}
use Rattle.label.specs.Labels.{on}
use Rattle.label.proofs.Counting.{on-push}

marked : (a b : Bool) → cond {A = ℕ} b 1 (cond a 1 0) ≡ cond (a || b) 1 0
marked true true = refl
marked true false = refl
marked false true = refl
marked false false = refl

pub marks_more : (xs : List ℕ) (v bits more : ℕ) → ((g : ℕ) → bit_at bits g ≡ cond (on xs g) 1 0) → ((g : ℕ) → bit_at more g ≡ cond (v == g) 1 (bit_at bits g)) →
    (g : ℕ) → bit_at more g ≡ cond (on (xs ++ v ∷ []) g) 1 0
marks_more xs v bits more each also g =
    also g ∙ (ap (λ (k : ℕ). cond {A = ℕ} (v == g) 1 k) (each g) ∙ (marked (on xs g) (v == g) ∙ ap (λ (b : Bool). cond {A = ℕ} b 1 0) (sym (on-push xs v g))))
