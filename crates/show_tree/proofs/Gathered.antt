-- Lists and tests that are built general by general.
use Rattle.std.proofs.Common.{ℕ, ◌+◌, ◌≡◌, Bool, true, false, ◌&&◌, List, [], ◌∷◌, ◌++◌, refl, sym, ap, ◌∙◌}
use Rattle.std.specs.List.{flat_map, list_all}
use Rattle.std.proofs.lemmas.List.{flat_map_more}
use Rattle.std.proofs.lemmas.List.Folds.{list_all-append}
use Rattle.label.specs.Labels.{on, others}
use Rattle.book.proofs.Steps.{others-more_no, others-more_yes}

-- Proves that a general who is not on the list adds his elements.
pub gathered_yes : {A : Type 0} (f : ℕ → List A) (w : List ℕ) (j : ℕ) (old : List A) → on w j ≡ false → (old ++ flat_map f (others j w)) ++ f j ≡ old ++ flat_map f (others (j + 1) w)
gathered_yes f w j old h = flat_map_more f old (others j w) j ∙ ap (λ xs. old ++ flat_map f xs) (sym (others-more_yes w j h))

-- Proves that a general who is on the list adds nothing.
pub gathered_no : {A : Type 0} (f : ℕ → List A) (w : List ℕ) (j : ℕ) (old : List A) → on w j ≡ true → old ++ flat_map f (others j w) ≡ old ++ flat_map f (others (j + 1) w)
gathered_no f w j old h = ap (λ xs. old ++ flat_map f xs) (sym (others-more_no w j h))

and_true : (b : Bool) → (b && true) ≡ b
and_true true = refl
and_true false = refl

-- Proves the result of a test of all generals not on a list, if all so far passed it.
pub all_passed : (t : ℕ → Bool) (w : List ℕ) (j : ℕ) (so new : Bool) → on w j ≡ false → so ≡ list_all t (others j w) → so ≡ true → new ≡ t j → new ≡ list_all t (others (j + 1) w)
all_passed t w j so new h is passes e =
    e ∙ sym (ap (list_all t) (others-more_yes w j h) ∙ (list_all-append t (others j w) (j ∷ []) ∙ (ap (λ b. b && (t j && true)) (sym is ∙ passes) ∙ and_true (t j))))

-- Proves the result if one of them failed.
pub all_failed : (t : ℕ → Bool) (w : List ℕ) (j : ℕ) (so new : Bool) → on w j ≡ false → so ≡ list_all t (others j w) → so ≡ false → new ≡ false → new ≡ list_all t (others (j + 1) w)
all_failed t w j so new h is fails e =
    e ∙ sym (ap (list_all t) (others-more_yes w j h) ∙ (list_all-append t (others j w) (j ∷ []) ∙ ap (λ b. b && (t j && true)) (sym is ∙ fails)))

-- Proves that a general on the list does not change the result.
pub all_passed_over : (t : ℕ → Bool) (w : List ℕ) (j : ℕ) (so new : Bool) → on w j ≡ true → so ≡ list_all t (others j w) → new ≡ so → new ≡ list_all t (others (j + 1) w)
all_passed_over t w j so new h is e = e ∙ (is ∙ sym (ap (list_all t) (others-more_no w j h)))
