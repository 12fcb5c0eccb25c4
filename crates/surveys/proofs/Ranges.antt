-- Lists that are made number by number.
use Rattle.std.proofs.Common.{ℕ, Bool, cond, ◌+◌, ◌≡◌, List, [], ◌∷◌, ◌++◌, sym, ap, ◌∙◌, arith}
use Rattle.std.specs.Prelude.{count_by, filter}
use Rattle.std.specs.List.{flat_map, range_with_len}
use Rattle.std.proofs.lemmas.List.Sums.{sum_by-append}
use Rattle.std.proofs.lemmas.List.{flat_map_more}
use Rattle.std.proofs.lemmas.List.Elements.{filter-append}
use Rattle.book.proofs.Gathering.{range_more}

-- The piece of one more number is appended.
pub range_pieces : {A : Type 0} (piece : ℕ → List A) (n : ℕ) → flat_map piece (range_with_len 0 n) ++ piece n ≡ flat_map piece (range_with_len 0 (n + 1))
range_pieces piece n = flat_map_more piece [] (range_with_len 0 n) n ∙ ap (flat_map piece) (sym (range_more n))

-- One more number is counted if it passes the test.
pub count_range : (p : ℕ → Bool) (n : ℕ) → count_by p (range_with_len 0 (n + 1)) ≡ count_by p (range_with_len 0 n) + cond (p n) 1 0
count_range p n =
    let whole = ap (count_by p) (range_more n) in
    let parts = sum_by-append (λ x. cond (p x) 1 0) (range_with_len 0 n) (n ∷ []) in
    whole ∙ (parts ∙ ap (λ x. count_by p (range_with_len 0 n) + x) (omega arith))

-- One more number is appended if it passes the test.
pub filter_range : (p : ℕ → Bool) (n : ℕ) → filter p (range_with_len 0 n) ++ cond (p n) (n ∷ []) [] ≡ filter p (range_with_len 0 (n + 1))
filter_range p n = sym (ap (filter p) (range_more n) ∙ filter-append p (range_with_len 0 n) (n ∷ []))
