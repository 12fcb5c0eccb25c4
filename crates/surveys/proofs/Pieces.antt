-- Lists that are made piece by piece, with a piece for each number.
use Rattle.std.proofs.Common.{ℕ, ◌+◌, ◌-◌, ◌≡◌, ◌≤◌, List, [], ◌∷◌, ◌++◌, sym, ap, ◌∙◌, append_assoc, arith}
use Rattle.std.specs.List.{flat_map, range_with_len}
use Rattle.std.proofs.lemmas.List.{flat_map_more}
use Rattle.book.proofs.Gathering.{range_more}
use Rattle.rayon.specs.Shown.{run-append}

-- The piece of one more number is appended.
pub pieces : {A : Type 0} (piece : ℕ → List A) (n : ℕ) → flat_map piece (range_with_len 0 n) ++ piece n ≡ flat_map piece (range_with_len 0 (n + 1))
pieces piece n = flat_map_more piece [] (range_with_len 0 n) n ∙ ap (flat_map piece) (sym (range_more n))

pub pieces_on : {A : Type 0} (piece : ℕ → List A) (n : ℕ) (old now new : List A) → now ≡ old ++ flat_map piece (range_with_len 0 n) → new ≡ now ++ piece n
    → new ≡ old ++ flat_map piece (range_with_len 0 (n + 1))
pieces_on piece n old now new e f =
    f ∙ (ap (λ x. x ++ piece n) e ∙ (append_assoc old (flat_map piece (range_with_len 0 n)) (piece n) ∙ ap (λ x. old ++ x) (pieces piece n)))

-- The same for numbers from a on.
pub pieces_from : {A : Type 0} (piece : ℕ → List A) (a k n : ℕ) → n ≡ a + k → flat_map piece (range_with_len a k) ++ piece n ≡ flat_map piece (range_with_len a (k + 1))
pieces_from piece a k n e =
    flat_map_more piece [] (range_with_len a k) n ∙ (ap (λ x. flat_map piece (range_with_len a k ++ x ∷ [])) e ∙ ap (flat_map piece) (run-append a k 1))

pub pieces_from_on : {A : Type 0} (piece : ℕ → List A) (a n : ℕ) (old now new : List A) → a ≤ n → now ≡ old ++ flat_map piece (range_with_len a (n - a))
    → new ≡ now ++ piece n → new ≡ old ++ flat_map piece (range_with_len a (n + 1 - a))
pieces_from_on piece a n old now new le e f =
    let whole : n ≡ a + (n - a) = omega arith in
    let more : n + 1 - a ≡ n - a + 1 = omega arith in
    rw more
    (f ∙ (ap (λ x. x ++ piece n) e ∙ (append_assoc old (flat_map piece (range_with_len a (n - a))) (piece n) ∙ ap (λ x. old ++ x) (pieces_from piece a (n - a) n whole))))
