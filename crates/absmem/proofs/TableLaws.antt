-- The items of a list that is defined by them, which determine it.
use Rattle.std.proofs.Common.{◌≡◌, ◌∙◌, ℕ, ◌<◌, List, length, get_or, arith, sym}
use Rattle.std.proofs.lemmas.List.{ext_get_or}
use Rattle.std.proofs.lemmas.List.FromFn.{length-map-range_with_len, get_or-map-range_with_len}
use Rattle.absmem.specs.Tables.{table}

pub length-table : {A : Type 0} (n : ℕ) (entry : ℕ → A) → length (table n entry) ≡ n
unfolding table
length-table n entry = length-map-range_with_len entry 0 n

pub table_at : {A : Type 0} (n : ℕ) (entry : ℕ → A) (k : ℕ) (d : A) → k < n → get_or (table n entry) k d ≡ entry k
unfolding table
table_at n entry k d lt = get_or-map-range_with_len entry 0 n k k d lt (omega arith)

-- A list with these items.
pub table_is : {A : Type 0} (n : ℕ) (entry : ℕ → A) (xs : List A) (d : A) → length xs ≡ n → ((k : ℕ) → k < n → get_or xs k d ≡ entry k) → xs ≡ table n entry
table_is n entry xs d long at =
    let size = length-table n entry in
    ext_get_or d xs (table n entry) (long ∙ sym size) (λ k lt. at k (omega (arith, long)) ∙ sym (table_at n entry k d (omega (arith, long))))
