-- The memory that calls read and write.
use Rattle.std.proofs.Common.{◌≡◌, ◌∙◌, ℕ, zero, suc, ◌+◌, ◌*◌, ◌≤◌, List, [], ◌∷◌, ◌++◌, map, length, Bool, true, false, refl, sym, ap, subst, arith}
use Rattle.std.specs.Prelude.{ℤ, pos, negsuc, ◌+ℤ◌, Result, Ok, Err, IsOk, nat_le, if◌then◌else◌, ◌&&◌, ◌==◌, flat_map, slice_range}
use Rattle.std.specs.Ordering.{int_eq}
use Rattle.std.proofs.lemmas.Bool.{leb-true, le-leb, and_parts, eqb-true}
use Rattle.std.proofs.lemmas.Bool.Decides.{Decides-int_eq}
use Rattle.std.proofs.lemmas.Int.{ints}
use Rattle.std.proofs.lemmas.List.{map-append, length-append}
use Rattle.word.specs.Bytes.{little_bytes}
use Rattle.range.specs.Interval.{IsIn}
use Rattle.semantics.specs.declared.value.Region.{Region}
use Rattle.semantics.specs.declared.value.Region.TheVariants.{Stack, Context}
use Rattle.semantics.specs.declared.value.Value.{Value}
use Rattle.semantics.specs.declared.value.Value.TheVariants as value
use Rattle.semantics.specs.declared.value.Cell.{Cell}
use Rattle.semantics.specs.declared.value.Cell.TheVariants.{Byte}
use Rattle.semantics.specs.State.{Cause, OutOfBounds, given}
use Rattle.semantics.specs.Memory.{inside, window, region_cells, cells_at, bytes_in, overwritten, room_of}
use Rattle.semantics.specs.Run.{IsContext}
use Rattle.absval.specs.Contains.{IsPointerIn}
use Rattle.absval.specs.Windows.{LiesIn}
use Rattle.absmem.specs.Known.{Known}
use Rattle.absmem.specs.Describes.{Describes as StackDescribes, AreBytes}
use Rattle.absmem.proofs.Overwriting.{length-overwritten}
use Rattle.verify.proofs.CallStates.{WordsStand}
use Rattle.verify.proofs.Loads.{number_found, context_part}
use Rattle.absval.proofs.WindowRows.{Lies}
use Rattle.verify.proofs.StoreLemmas.{low_bytes, length-low}

-- ---- smaller windows

inside_if : (first total place size : ℕ) (t : Bool) → LiesIn first total size (if t then Ok place else Err OutOfBounds) → (t ≡ true) × (first ≤ place) × (place + size ≤ first + total)
inside_if first total place size true h = (refl, h.0, h.1)
inside_if first total place size false h = absurd h

inside_smaller : (room first total n m : ℕ) (z : ℤ) → n ≤ m → LiesIn first total m (inside room m z) → LiesIn first total n (inside room n z)
inside_smaller room first total n m (pos place) le h =
    let parts = inside_if first total place m (nat_le (place + m) room) h in
    let fits : place + m ≤ room = leb-true (place + m) room parts.0 in
    let t : nat_le (place + n) room ≡ true = le-leb (place + n) room (omega arith) in
    let last = parts.2 in
    subst (λ (b : Bool). LiesIn first total n (if b then Ok place else Err OutOfBounds)) (sym t) (parts.1, omega arith)
inside_smaller room first total n m (negsuc k) le h = absurd h

window_smaller : (region : Region) (first total n m : ℕ) (z : ℤ) → n ≤ m → LiesIn first total m (window region z m) → LiesIn first total n (window region z n)
window_smaller Stack first total n m z le h = inside_smaller 512 first total n m (z +ℤ pos 512) le h
window_smaller Context first total n m z le h = inside_smaller 4096 first total n m z le h

-- ---- orders are read

bytes_found : (cells : List Cell) → AreBytes cells → IsOk (bytes_in cells)
bytes_found cells h = let found = number_found cells h in subst (λ (r : Result (List ℕ) Cause). IsOk r) (sym found.1) refl

abbrev pub StackBytes : Region → List Cell → ℕ → ℕ → Type 0
StackBytes region cells place size = region ≡ Stack → (at n : ℕ) → place ≤ at → at + n ≤ place + size → AreBytes (slice_range cells at (at + n))

region_bytes : (region : Region) (context : List ℕ) (cells : List Cell) (place size at n : ℕ) → IsContext context → place + size ≤ room_of region → place ≤ at → at + n ≤ place + size → StackBytes region cells place size →
    AreBytes (slice_range (region_cells context cells region) at (at + n))
region_bytes Stack context cells place size at n ctx fits ge le h = h refl at n ge le
region_bytes Context context cells place size at n ctx fits ge le h = (context_part context at n ctx.long ctx.bytes (omega arith)).1

pub orders_found : (region : Region) (low high : ℤ) (place size most count : ℕ) (context : List ℕ) (cells : List Cell) (p : Value) → IsContext context → IsPointerIn region low high p → 4 * count ≤ most → place + size ≤ room_of region →
    Lies region low high (pos 0) place size most → StackBytes region cells place size → IsOk (given (cells_at context cells p (pos 0) (4 * count)) bytes_in)
orders_found region low high place size most count context cells value.Unset ctx p le fits lies h = absurd p
orders_found region low high place size most count context cells (value.Number n) ctx p le fits lies h = absurd p
orders_found region low high place size most count context cells (value.Pointer other o) ctx p le fits lies h =
    subst (λ (reg : Region). IsOk (given (cells_at context cells (value.Pointer reg o) (pos 0) (4 * count)) bytes_in)) (sym p.0)
    (by_window (window region (o +ℤ pos 0) (4 * count)) (window_smaller region place size (4 * count) most (o +ℤ pos 0) le (lies o p.1 p.2)))
  where
    by_window : (w : Result ℕ Cause) → LiesIn place size (4 * count) w →
        IsOk (given (given w (λ at. Ok (slice_range (region_cells context cells region) at (at + 4 * count)))) bytes_in)
    by_window (Ok at) l = bytes_found _ (region_bytes region context cells place size at (4 * count) ctx fits l.0 l.1 h)
    by_window (Err cause) l = absurd l

-- ---- words are written

AreBytes-append : (xs ys : List Cell) → AreBytes xs → AreBytes ys → AreBytes (xs ++ ys)
AreBytes-append [] ys p q k l = q k l
AreBytes-append (x ∷ xs) ys p q zero l = p 0 (omega arith)
AreBytes-append (x ∷ xs) ys p q (suc k) l = AreBytes-append xs ys (λ j m. p (suc j) (omega arith)) q k (omega arith)

-- The bytes of words.
abbrev pub word_cells : List ℕ → List Cell
word_cells words = map Byte (flat_map (little_bytes 8) words)

word_bytes : (words : List ℕ) → AreBytes (word_cells words)
word_bytes [] k l = absurd (omega arith)
word_bytes (w ∷ words) k l =
    subst (λ (cells : List Cell). AreBytes cells) (sym (map-append Byte (little_bytes 8 w) (flat_map (little_bytes 8) words)))
    (AreBytes-append (map Byte (little_bytes 8 w)) (word_cells words) (low_bytes 0 8 w) (word_bytes words)) k l

length-word_cells : (words : List ℕ) → length (word_cells words) ≡ 8 * length words
length-word_cells [] = refl
length-word_cells (w ∷ words) =
    let both = ap length (map-append Byte (little_bytes 8 w) (flat_map (little_bytes 8) words)) ∙ length-append (map Byte (little_bytes 8 w)) (word_cells words) in
    let first : length (map Byte (little_bytes 8 w)) ≡ 8 = length-low 0 8 w in
    let rest : length (word_cells words) ≡ 8 * length words = length-word_cells words in
    omega arith

-- What is known after bytes are written at any place in the window.
abbrev pub Overwrites : Known → List Cell → ℕ → ℕ → ℕ → Type 0
Overwrites new cells place size n = (at : ℕ) (bytes : List Cell) → AreBytes bytes → length bytes ≡ n → place ≤ at → at + n ≤ place + size → StackDescribes new (overwritten cells at bytes)

pub words_found : (new : Known) (low high : ℤ) (place size most : ℕ) (cells : List Cell) (p : Value) (words : List ℕ) → length cells ≡ 512 → IsPointerIn Stack low high p → 8 * length words ≤ most → place + size ≤ 512 →
    Lies Stack low high (pos 0) place size most → Overwrites new cells place size (8 * length words) → WordsStand new cells p words
words_found new low high place size most cells value.Unset words long p le fits lies h = absurd p
words_found new low high place size most cells (value.Number n) words long p le fits lies h = absurd p
words_found new low high place size most cells (value.Pointer Context o) words long p le fits lies h = absurd (let same = p.0 in cc)
words_found new low high place size most cells (value.Pointer Stack o) words long p le fits lies h =
    by_place (window Stack (o +ℤ pos 0) (8 * length words)) refl (window_smaller Stack place size (8 * length words) most (o +ℤ pos 0) le (lies o p.1 p.2))
  where
    by_place : (r : Result ℕ Cause) → r ≡ window Stack (o +ℤ pos 0) (8 * length words) → LiesIn place size (8 * length words) r → WordsStand new cells (value.Pointer Stack o) words
    by_place (Err cause) e l = absurd l
    by_place (Ok at) e l =
        let P = λ (r : Result ℕ Cause). StackDescribes new (elim r as (λ x. List Cell) [ Ok place ↦ overwritten cells place (word_cells words) | Err cause ↦ cells ]) in
        let Q = λ (r : Result ℕ Cause). length (elim r as (λ x. List Cell) [ Ok place ↦ overwritten cells place (word_cells words) | Err cause ↦ cells ]) ≡ 512 in
        let n : length (word_cells words) ≡ 8 * length words = length-word_cells words in
        let last = l.1 in
        let inside : at + length (word_cells words) ≤ length cells = omega arith in
        record {
          room = subst (λ (r : Result ℕ Cause). IsOk r) e refl;
          stack = subst P e (h at (word_cells words) (word_bytes words) n l.0 l.1);
          size = subst Q e (length-overwritten cells (word_cells words) at inside ∙ long);
        }

-- If the pointer has one offset and the count is one number, the words are exactly in the window.
pub certain_place : (low high : ℤ) (lo hi place size n at : ℕ) → (int_eq low high && (lo == hi)) ≡ true → IsIn lo hi n → pos place ≡ (low +ℤ pos 0) +ℤ pos 512 → pos (place + size) ≡ ((high +ℤ pos 0) +ℤ pos 512) +ℤ pos (8 * hi) →
    place ≤ at → at + 8 * n ≤ place + size → (place ≡ at) × (8 * n ≡ size)
certain_place low high lo hi place size n at certain within first last ge le =
    let parts = and_parts (int_eq low high) (lo == hi) certain in
    let one : low ≡ high = int_same low high parts.0 in
    let same : lo ≡ hi = eqb-true lo hi parts.1 in
    let least : lo ≤ n = within.0 in
    let most : n ≤ hi = within.1 in
    let count : n ≡ hi = omega arith in
    let total : size ≡ 8 * hi = omega (arith, ints) in
    (omega arith, omega arith)
  where
    int_same : (x y : ℤ) → int_eq x y ≡ true → x ≡ y
    int_same x y e = (Decides-int_eq x y).0 e
