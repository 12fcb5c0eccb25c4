-- What holds for each entry of the table holds for the entry of each request.
use Rattle.std.proofs.Common.{◌≡◌, ℕ, zero, suc, Bool, true, List, [], ◌∷◌}
use Rattle.std.specs.Prelude.{slice_index_or}
use Rattle.std.specs.List.{list_all}
use Rattle.std.proofs.lemmas.Bool.{and_parts}
use Rattle.semantics.specs.declared.request.Request.{Request}
use Rattle.board.specs.Wording.{Row, asked, no_row, row_asked, rows}

one_has : (p : Row → Bool) (rs : List Row) (n : ℕ) (r : Row) → list_all p rs ≡ true → p r ≡ true → p (slice_index_or rs n r) ≡ true
one_has p [] n r all last = last
one_has p (x ∷ xs) zero r all last = (and_parts (p x) (list_all p xs) all).0
one_has p (x ∷ xs) (suc n) r all last = one_has p xs n r (and_parts (p x) (list_all p xs) all).1 last

pub row_has : (p : Row → Bool) → list_all p (no_row ∷ rows) ≡ true → (q : Request) → p (row_asked q) ≡ true
row_has p all q =
    let both = and_parts (p no_row) (list_all p rows) all in one_has p rows (asked q).0 no_row both.1 both.0
