-- Lists in which each element has its index as its number.
use Rattle.std.proofs.Common.{◌≡◌, ◌≢◌, ℕ, ◌<◌, true, false, ◌==◌, List, [], ◌∷◌, ◌++◌, length, get_or, sym, ap, ◌∙◌, subst, ⊎_elim, length-append, arith}
use Rattle.std.proofs.lemmas.Bool.Decides.{eqb_tells}
use Rattle.std.proofs.Math.ListN.{get_or-append}
use Rattle.std.proofs.Math.Seq.{get_or-append_seam}

-- One more element is appended, whose number is the length of the list.
numbered_more : {X : Type 0} (number : X → ℕ) (xs : List X) (x : X) → number x ≡ length xs → ((g : ℕ) (d : X) → g < length xs → number (get_or xs g d) ≡ g)
    → (g : ℕ) (d : X) → g < length (xs ++ x ∷ []) → number (get_or (xs ++ x ∷ []) g d) ≡ g
numbered_more number xs x is each g d lt =
    ⊎_elim (λ (e : (g == length xs ≡ true) × (g ≡ length xs)). ap (λ n. number (get_or (xs ++ x ∷ []) n d)) e.1 ∙ (ap number (get_or-append_seam xs x [] d) ∙ (is ∙ sym e.1)))
    (λ (e : (g == length xs ≡ false) × (g ≢ length xs)). let ne = e.1 in let short : g < length xs = omega (arith, length-append xs (x ∷ [])) in ap number (get_or-append xs (x ∷ []) d g short) ∙ each g d short)
    (eqb_tells g (length xs))

pub numbered_pushed : {X : Type 0} (number : X → ℕ) (xs : List X) (x : X) (ys : List X) → ys ≡ xs ++ x ∷ [] → number x ≡ length xs → ((g : ℕ) (d : X) → g < length xs → number (get_or xs g d) ≡ g)
    → (g : ℕ) (d : X) → g < length ys → number (get_or ys g d) ≡ g
numbered_pushed {X} number xs x ys items is each g d =
    subst (λ (zs : List X). g < length zs → number (get_or zs g d) ≡ g) (sym items) (numbered_more number xs x is each g d)
