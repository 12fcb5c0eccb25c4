-- What is read if it is known to be there.
use Rattle.std.proofs.Common.{◌≡◌, ◌≢◌, ℕ, ℤ, zero, suc, ◌+◌, ◌-◌, ◌%◌, ◌≤◌, List, ◌∷◌, length, take, drop, get_or, true, false, Bool, refl, sym, ap, subst, ◌∙◌, arith, drop-cons}
use Rattle.std.specs.Prelude.{Result, Ok, Err, IsOk, if◌then◌else◌, ◌&&◌, ◌==◌}
use Rattle.std.specs.Ordering.{int_eq}
use Rattle.std.specs.Int.{w32, cast_signed}
use Rattle.word.specs.Bytes.{little_number}
use Rattle.insn.specs.declared.insn.Size.{Size}
use Rattle.insn.specs.declared.insn.Size.TheVariants as size
use Rattle.insn.specs.Insn.{bytes_of}
use Rattle.semantics.specs.declared.value.Region.{Region}
use Rattle.semantics.specs.declared.value.Value.{Value}
use Rattle.semantics.specs.declared.value.Value.TheVariants.{Number, Pointer}
use Rattle.semantics.specs.declared.value.Cell.{Cell}
use Rattle.semantics.specs.declared.value.Cell.TheVariants.{Byte, Piece}
use Rattle.semantics.specs.State.{Cause, NoBytes, given}
use Rattle.semantics.specs.Memory.{bytes_in, value_in, are_pieces, is_same_region}
use Rattle.mem.specs.Reading.{number_in}
use Rattle.mem.specs.Layout.{cell_of, cell_at, cells_from, region_of}
use Rattle.mem.proofs.Kept.{cells_window, cells_length}
use Rattle.mem.proofs.FirstCell.{too_few, some_bytes}

ok_rest : (b : ℕ) (r : Result (List ℕ) Cause) → IsOk (given r (λ bytes. Ok (b ∷ bytes))) → IsOk r
ok_rest b (Ok bytes) h = refl
ok_rest b (Err cause) h = h

one_more : (k b : ℕ) (O : List ℕ) (p : ℕ) (cells : List Cell) (bytes : List ℕ) → IsOk (bytes_in (cell_of k b O p ∷ cells)) → (IsOk (bytes_in cells) → bytes_in cells ≡ Ok bytes) → bytes_in (cell_of k b O p ∷ cells) ≡ Ok (b ∷ bytes)
one_more zero b O p cells bytes h ih = absurd cc
one_more (suc zero) b O p cells bytes h ih = ap (λ (r : Result (List ℕ) Cause). given r (λ more. Ok (b ∷ more))) (ih (ok_rest b (bytes_in cells) h))
one_more (suc (suc k)) b O p cells bytes h ih = absurd cc

-- Bytes.
pub known_bytes : (K B O : List ℕ) (place n : ℕ) → place + n ≤ length B → IsOk (bytes_in (cells_from K B O place n)) → bytes_in (cells_from K B O place n) ≡ Ok (take n (drop place B))
unfolding cells_from
known_bytes K B O place zero fits h = refl
known_bytes K B O place (suc n) fits h =
    one_more (get_or K place 0) (get_or B place 0) O place (cells_from K B O (suc place) n) (take n (drop (suc place) B)) h (known_bytes K B O (suc place) n (omega arith))
    ∙ ap (λ (l : List ℕ). Ok l) (sym (ap (λ (l : List ℕ). take (suc n) l) (drop-cons B place 0 (omega arith))))

ok_number : (r : Result (List ℕ) Cause) → IsOk (given r (λ bytes. Ok (little_number bytes))) → IsOk r
ok_number (Ok bytes) h = refl
ok_number (Err cause) h = h

pub known_number : (K B O : List ℕ) (place n : ℕ) → place + n ≤ length B → IsOk (number_in (cells_from K B O place n)) → number_in (cells_from K B O place n) ≡ Ok (little_number (take n (drop place B)))
known_number K B O place n fits h =
    ap (λ (r : Result (List ℕ) Cause). given r (λ bytes. Ok (little_number bytes))) (known_bytes K B O place n fits (ok_number (bytes_in (cells_from K B O place n)) h))

-- The number in a window of the stack.
pub number_known : (K B O : List ℕ) (cells : List Cell) (place n result : ℕ) → cells_from K B O 0 512 ≡ cells → length B ≡ 512 → place + n ≤ 512 →
    IsOk (number_in (take n (drop place cells))) → result ≡ little_number (take n (drop place B)) → number_in (take n (drop place cells)) ≡ Ok result
number_known K B O cells place n result e long fits h r =
    let w : take n (drop place cells) ≡ cells_from K B O place n = ap (λ (l : List Cell). take n (drop place l)) (sym e) ∙ cells_window K B O place n fits in
    ap number_in w
    ∙ (known_number K B O place n (omega arith) (subst (λ (l : List Cell). IsOk (number_in l)) w h) ∙ ap (λ (m : ℕ). Ok m) (sym r))

abbrev ok_of : ℕ → Result ℕ Cause
ok_of n = Ok n

ok_is : (m n : ℕ) → ok_of m ≡ ok_of n → m ≡ n
ok_is m n e = cc

as_value : (v : ℕ) (r : Result (List ℕ) Cause) → IsOk (given r (λ bytes. Ok (Number (little_number bytes)))) →
    (IsOk (given r (λ bytes. Ok (little_number bytes))) → given r (λ bytes. Ok (little_number bytes)) ≡ Ok v) → given r (λ bytes. Ok (Number (little_number bytes))) ≡ Ok (Number v)
as_value v (Ok bytes) h n = ap (λ (m : ℕ). Ok (Number m)) (ok_is (little_number bytes) v (n refl))
as_value v (Err cause) h n = absurd cc

abbrev found_if : Bool → Value → Result Value Cause
found_if b v = if b then Ok v else Err NoBytes

no_trap : (b : Bool) (v : Value) → IsOk (found_if b v) → b ≡ true
no_trap true v h = refl
no_trap false v h = absurd cc

-- If there is no pointer, the value is the number.
as_number : (k b : ℕ) (O : List ℕ) (p : ℕ) (cells : List Cell) (v : ℕ) → IsOk (value_in (cell_of k b O p ∷ cells)) → ((region : Region) (offset : ℤ) → are_pieces region offset 0 (cell_of k b O p ∷ cells) ≡ false) →
    (IsOk (number_in (cell_of k b O p ∷ cells)) → number_in (cell_of k b O p ∷ cells) ≡ Ok v) → value_in (cell_of k b O p ∷ cells) ≡ Ok (Number v)
as_number zero b O p cells v h none n = absurd cc
as_number (suc zero) b O p cells v h none n = as_value v (bytes_in (Byte b ∷ cells)) h n
as_number (suc (suc k)) b O p cells v h none n =
    let region = region_of (suc (suc k)) in
    let offset = cast_signed w32 (get_or O (p - k % 8) 0) in
    let no = none region offset in
    let is = no_trap (are_pieces region offset 0 (Piece (k % 8) region offset ∷ cells)) (Pointer region offset) h in
    absurd cc

pub short_known : (K B O : List ℕ) (cells : List Cell) (place m result : ℕ) → cells_from K B O 0 512 ≡ cells → length B ≡ 512 → place + suc m ≤ 512 →
    IsOk (value_in (take (suc m) (drop place cells))) → ((region : Region) (offset : ℤ) → are_pieces region offset 0 (take (suc m) (drop place cells)) ≡ false) →
    result ≡ little_number (take (suc m) (drop place B)) → value_in (take (suc m) (drop place cells)) ≡ Ok (Number result)
unfolding cells_from
short_known K B O cells place m result e long fits h none r =
    let w : take (suc m) (drop place cells) ≡ cell_at K B O place ∷ cells_from K B O (suc place) m = ap (λ (l : List Cell). take (suc m) (drop place l)) (sym e) ∙ cells_window K B O place (suc m) fits in
    ap value_in w
    ∙ as_number (get_or K place 0) (get_or B place 0) O place (cells_from K B O (suc place) m) result (subst (λ (l : List Cell). IsOk (value_in l)) w h)
    (λ region offset. ap (are_pieces region offset 0) (sym w) ∙ none region offset)
    (λ ok. known_number K B O place (suc m) (omega arith) ok ∙ ap (λ (n : ℕ). Ok n) (sym r))

-- If the first cell is a byte, the value is a number.
pub byte_known : (K B O : List ℕ) (cells : List Cell) (place result : ℕ) → cells_from K B O 0 512 ≡ cells → length B ≡ 512 → place + 8 ≤ 512 → get_or K place 0 ≡ 1 →
    IsOk (value_in (take 8 (drop place cells))) → result ≡ little_number (take 8 (drop place B)) → value_in (take 8 (drop place cells)) ≡ Ok (Number result)
unfolding cells_from
byte_known K B O cells place result e long fits k h r =
    let w : take 8 (drop place cells) ≡ cell_at K B O place ∷ cells_from K B O (suc place) 7 = ap (λ (l : List Cell). take 8 (drop place l)) (sym e) ∙ cells_window K B O place 8 fits in
    let first : cell_at K B O place ≡ Byte (get_or B place 0) = ap (λ (n : ℕ). cell_of n (get_or B place 0) O place) k in
    short_known K B O cells place 7 result e long fits h
    (λ region offset. ap (are_pieces region offset 0) w ∙ ap (λ (c : Cell). are_pieces region offset 0 (c ∷ cells_from K B O (suc place) 7)) first) r

as_pointer : (k b : ℕ) (O : List ℕ) (p : ℕ) (cells : List Cell) → k ≢ 1 → IsOk (value_in (cell_of k b O p ∷ cells)) → value_in (cell_of k b O p ∷ cells) ≡ Ok (Pointer (region_of k) (cast_signed w32 (get_or O p 0)))
as_pointer zero b O p cells n h = absurd cc
as_pointer (suc zero) b O p cells n h = absurd (n refl)
as_pointer (suc (suc k)) b O p cells n h =
    let region = region_of (suc (suc k)) in
    let offset = cast_signed w32 (get_or O (p - k % 8) 0) in
    let is = no_trap (are_pieces region offset 0 (Piece (k % 8) region offset ∷ cells)) (Pointer region offset) h in
    let first : k % 8 ≡ 0 = front (k % 8) (is_same_region region region) (int_eq offset offset) (are_pieces region offset 1 cells) is in
    let same : p - k % 8 ≡ p = omega arith in
    ap (λ (b : Bool). if b then Ok (Pointer region offset) else Err NoBytes) is
    ∙ ap (λ (x : ℕ). Ok (Pointer region (cast_signed w32 (get_or O x 0)))) same
  where
    front : (i : ℕ) (a b d : Bool) → (i == 0) && a && b && d ≡ true → i ≡ 0
    front i a b d e = grind arith

-- If the first cell is something else, the value is a pointer.
pub pointer_known : (K B O : List ℕ) (cells : List Cell) (place : ℕ) → cells_from K B O 0 512 ≡ cells → place + 8 ≤ 512 → get_or K place 0 ≢ 1 →
    IsOk (value_in (take 8 (drop place cells))) → value_in (take 8 (drop place cells)) ≡ Ok (Pointer (region_of (get_or K place 0)) (cast_signed w32 (get_or O place 0)))
unfolding cells_from
pointer_known K B O cells place e fits k h =
    let w : take 8 (drop place cells) ≡ cell_at K B O place ∷ cells_from K B O (suc place) 7 = ap (λ (l : List Cell). take 8 (drop place l)) (sym e) ∙ cells_window K B O place 8 fits in
    ap value_in w ∙ as_pointer (get_or K place 0) (get_or B place 0) O place (cells_from K B O (suc place) 7) k (subst (λ (l : List Cell). IsOk (value_in l)) w h)

-- Fewer than 8 cells are a number.
pub value_known : (K B O : List ℕ) (cells : List Cell) (place : ℕ) (s : Size) (result : ℕ) → cells_from K B O 0 512 ≡ cells → length B ≡ 512 → place + bytes_of s ≤ 512 → (s ≡ size.Double → ⊥) →
    IsOk (value_in (take (bytes_of s) (drop place cells))) → result ≡ little_number (take (bytes_of s) (drop place B)) → value_in (take (bytes_of s) (drop place cells)) ≡ Ok (Number result)
value_known K B O cells place s result e long fits short h r =
    let size_is = some_bytes s in
    let none = λ (region : Region) (offset : ℤ). too_few cells place region offset s fits (ap (λ (l : List Cell). length l) (sym e) ∙ cells_length K B O 0 512) short in
    rw size_is
    (short_known K B O cells place (bytes_of s - 1) result e long (rw size_is at fits) (rw size_is at h) (λ region offset. rw size_is at (none region offset)) (rw size_is at r))
