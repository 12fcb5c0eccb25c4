-- Several numbers, one after the other.
use Rattle.std.proofs.Common.{◌≡◌, ℕ, zero, suc, ◌+◌, ◌*◌, ◌<◌, ◌≤◌, List, [], ◌∷◌, ◌++◌, ◌-◌, length, take, drop, set, replicate, map, get_or, append-nil, refl, sym, ap, subst, ◌∙◌, arith}
use Rattle.std.specs.Prelude.{pos, Result, Ok, Err}
use Rattle.std.specs.List.{flat_map}
use Rattle.std.proofs.lemmas.List.{drop-drop, drop-set-lt, drop-replicate, length-take-le, length-drop, length-append, length-map, take_more, take_more_set, map-append, take-append-drop}
use Rattle.std.proofs.lemmas.Grind.{flat_map-append}
use Rattle.std.proofs.Math.Seq.{take-length}
use Rattle.word.specs.Bytes.{little_bytes, little_number}
use Rattle.semantics.specs.declared.value.Region.{Region}
use Rattle.semantics.specs.declared.value.Region.TheVariants.{Stack, Context}
use Rattle.semantics.specs.declared.value.Value.{Value}
use Rattle.semantics.specs.declared.value.Cell.{Cell}
use Rattle.semantics.specs.declared.value.Cell.TheVariants.{Empty, Byte, Piece}
use Rattle.semantics.specs.State.{Cause, given}
use Rattle.semantics.specs.Memory.{region_cells, bytes_in, overwritten, stack_place, with_words, room_of}
use Rattle.semantics.specs.Call.{orders_of}
use Rattle.mem.specs.Places.{place_at, part_at}
use Rattle.mem.specs.Reading.{number_in}
use Rattle.mem.specs.Rows.{row_at}
use Rattle.mem.proofs.Parts.{take-split}
use Rattle.mem.proofs.Loading.{cells_are, twice}
use Rattle.mem.proofs.Writing.{overwritten-more}
use Rattle.semantics.proofs.WholeLaws.{length-words}

-- The numbers that cells encode, if all of them are bytes.
abbrev pub numbers_of : Result (List ℕ) Cause → Result (List ℕ) Cause
numbers_of r = given r (λ bytes. Ok (orders_of bytes))

abbrev pub row_in : List Cell → Result (List ℕ) Cause
row_in cells = numbers_of (bytes_in cells)

-- ---- two parts

abbrev joined : Result (List ℕ) Cause → Result (List ℕ) Cause → Result (List ℕ) Cause
joined p q = given p (λ xs. given q (λ ys. Ok (xs ++ ys)))

joined_none : (q : Result (List ℕ) Cause) → q ≡ joined (Ok []) q
joined_none (Ok ys) = refl
joined_none (Err cause) = refl

joined_byte : (b : ℕ) (p q : Result (List ℕ) Cause) → given (joined p q) (λ bytes. Ok (b ∷ bytes)) ≡ joined (given p (λ bytes. Ok (b ∷ bytes))) q
joined_byte b (Err cause) q = refl
joined_byte b (Ok xs) (Ok ys) = refl
joined_byte b (Ok xs) (Err cause) = refl

bytes_in-append : (xs ys : List Cell) → bytes_in (xs ++ ys) ≡ joined (bytes_in xs) (bytes_in ys)
bytes_in-append [] ys = joined_none (bytes_in ys)
bytes_in-append (Empty ∷ xs) ys = refl
bytes_in-append (Byte b ∷ xs) ys =
    ap (λ (r : Result (List ℕ) Cause). given r (λ bytes. Ok (b ∷ bytes))) (bytes_in-append xs ys) ∙ joined_byte b (bytes_in xs) (bytes_in ys)
bytes_in-append (Piece i region offset ∷ xs) ys = refl

-- There are as many bytes as cells.
abbrev LengthIs : ℕ → Result (List ℕ) Cause → Type 0
LengthIs n (Ok bytes) = length bytes ≡ n
LengthIs n (Err cause) = Unit {0}

length_more : (b n : ℕ) (r : Result (List ℕ) Cause) → LengthIs n r → LengthIs (suc n) (given r (λ bytes. Ok (b ∷ bytes)))
length_more b n (Ok bytes) e = ap suc e
length_more b n (Err cause) e = tt

length-bytes_in : (cells : List Cell) → LengthIs (length cells) (bytes_in cells)
length-bytes_in [] = refl
length-bytes_in (Empty ∷ cells) = tt
length-bytes_in (Byte b ∷ cells) = length_more b (length cells) (bytes_in cells) (length-bytes_in cells)
length-bytes_in (Piece i region offset ∷ cells) = tt

last_number : (bytes : List ℕ) → length bytes ≡ 4 → orders_of bytes ≡ little_number bytes ∷ []
last_number [] e = absurd (omega arith)
last_number (a ∷ []) e = absurd (omega arith)
last_number (a ∷ b ∷ []) e = absurd (omega arith)
last_number (a ∷ b ∷ c ∷ []) e = absurd (omega arith)
last_number (a ∷ b ∷ c ∷ d ∷ []) e = refl
last_number (a ∷ b ∷ c ∷ d ∷ f ∷ bytes) e = absurd (omega arith)

orders_of-append : (i : ℕ) (xs ys : List ℕ) → length xs ≡ 4 * i → length ys ≡ 4 → orders_of (xs ++ ys) ≡ orders_of xs ++ little_number ys ∷ []
orders_of-append zero [] ys e f = last_number ys f
orders_of-append zero (x ∷ xs) ys e f = absurd (omega arith)
orders_of-append (suc i) [] ys e f = absurd (omega arith)
orders_of-append (suc i) (a ∷ []) ys e f = absurd (omega arith)
orders_of-append (suc i) (a ∷ b ∷ []) ys e f = absurd (omega arith)
orders_of-append (suc i) (a ∷ b ∷ c ∷ []) ys e f = absurd (omega arith)
orders_of-append (suc i) (a ∷ b ∷ c ∷ d ∷ xs) ys e f =
    let less : length xs ≡ 4 * i = omega arith in
    ap (λ (l : List ℕ). little_number (a ∷ b ∷ c ∷ d ∷ []) ∷ l) (orders_of-append i xs ys less f)

-- Several numbers and one more.
abbrev pub one_more : Result (List ℕ) Cause → Result ℕ Cause → Result (List ℕ) Cause
one_more row number = given row (λ numbers. given number (λ n. Ok (numbers ++ n ∷ [])))

joined_more : (i : ℕ) (p q : Result (List ℕ) Cause) → LengthIs (4 * i) p → LengthIs 4 q →
    numbers_of (joined p q) ≡ one_more (numbers_of p) (given q (λ bytes. Ok (little_number bytes)))
joined_more i (Err cause) q e f = refl
joined_more i (Ok xs) (Err cause) e f = refl
joined_more i (Ok xs) (Ok ys) e f = ap (λ (l : List ℕ). Ok l) (orders_of-append i xs ys e f)

row_in-append : (i : ℕ) (xs ys : List Cell) → length xs ≡ 4 * i → length ys ≡ 4 → row_in (xs ++ ys) ≡ one_more (row_in xs) (number_in ys)
row_in-append i xs ys e f =
    ap numbers_of (bytes_in-append xs ys)
    ∙ joined_more i (bytes_in xs) (bytes_in ys)
    (subst (λ (n : ℕ). LengthIs n (bytes_in xs)) e (length-bytes_in xs)) (subst (λ (n : ℕ). LengthIs n (bytes_in ys)) f (length-bytes_in ys))

joined_front : (p q : Result (List ℕ) Cause) (cause : Cause) → numbers_of p ≡ Err cause → numbers_of (joined p q) ≡ Err cause
joined_front (Ok xs) q cause e = absurd cc
joined_front (Err other) q cause e = e

-- If the first part has no bytes, neither has the whole.
row_in-front : (xs ys : List Cell) (cause : Cause) → row_in xs ≡ Err cause → row_in (xs ++ ys) ≡ Err cause
row_in-front xs ys cause e = ap numbers_of (bytes_in-append xs ys) ∙ joined_front (bytes_in xs) (bytes_in ys) cause e

-- ---- number after number

-- The numbers so far.
pub next_number : (cells : List Cell) (place i room : ℕ) → length cells ≡ room → place + (4 * i + 4) ≤ room →
    row_in (take (4 * (i + 1)) (drop place cells)) ≡ one_more (row_in (take (4 * i) (drop place cells))) (number_in (take 4 (drop (place + 4 * i) cells)))
next_number cells place i room long fits =
    let D = drop place cells in
    let size : 4 * (i + 1) ≡ 4 * i + 4 = omega arith in
    let all : 4 * i + 4 ≤ length D = omega (arith, length-drop place cells) in
    let front : 4 * i ≤ length D = omega arith in
    let first : length (take (4 * i) D) ≡ 4 * i = length-take-le (4 * i) D front in
    let back : 4 ≤ length (drop (4 * i) D) = omega (arith, length-drop (4 * i) D) in
    let second : length (take 4 (drop (4 * i) D)) ≡ 4 = length-take-le 4 (drop (4 * i) D) back in
    ap (λ (n : ℕ). row_in (take n D)) size
    ∙ (ap row_in (take-split (4 * i) 4 D)
    ∙ (row_in-append i (take (4 * i) D) (take 4 (drop (4 * i) D)) first second
    ∙ ap (λ (l : List Cell). one_more (row_in (take (4 * i) D)) (number_in (take 4 l))) (drop-drop (4 * i) place cells)))

pub row_goes_on : (cells : List Cell) (place i room n : ℕ) (row : List ℕ) → length cells ≡ room → place + (4 * i + 4) ≤ room → length row ≡ 13 → i < 13 →
    row_in (take (4 * i) (drop place cells)) ≡ Ok (take i row) → number_in (take 4 (drop (place + 4 * i) cells)) ≡ Ok n →
    row_in (take (4 * (i + 1)) (drop place cells)) ≡ Ok (take (i + 1) (set row i n))
row_goes_on cells place i room n row long fits size lt so_far number =
    let inside : i < length row = omega arith in
    next_number cells place i room long fits
    ∙ (ap (λ (r : Result (List ℕ) Cause). one_more r (number_in (take 4 (drop (place + 4 * i) cells)))) so_far
    ∙ (ap (λ (r : Result ℕ Cause). one_more (Ok (take i row)) r) number ∙ ap (λ (l : List ℕ). Ok l) (sym (take_more_set row i n inside))))

-- After the numbers so far there are zeros.
pub rest_stays : (i n : ℕ) (row : List ℕ) → drop i row ≡ replicate (13 - i) 0 → drop (i + 1) (set row i n) ≡ replicate (13 - (i + 1)) 0
rest_stays i n row zeros =
    drop-set-lt (i + 1) row i n (omega arith)
    ∙ (sym (drop-drop 1 i row)
    ∙ (ap (λ (l : List ℕ). drop 1 l) zeros ∙ (drop-replicate 1 (13 - i) 0 ∙ ap (λ (m : ℕ). replicate m 0) (omega arith))))

pub row_stops : (cells : List Cell) (place i count room : ℕ) (cause : Cause) (row : List ℕ) → length cells ≡ room → place + 4 * count ≤ room → i < count →
    row_in (take (4 * i) (drop place cells)) ≡ Ok (take i row) → number_in (take 4 (drop (place + 4 * i) cells)) ≡ Err cause →
    row_in (take (4 * count) (drop place cells)) ≡ Err cause
row_stops cells place i count room cause row long fits lt so_far number =
    let fit : place + (4 * i + 4) ≤ room = omega arith in
    let D = drop place cells in
    let part : row_in (take (4 * (i + 1)) D) ≡ Err cause =
    next_number cells place i room long fit
    ∙ (ap (λ (r : Result (List ℕ) Cause). one_more r (number_in (take 4 (drop (place + 4 * i) cells)))) so_far ∙ ap (λ (r : Result ℕ Cause). one_more (Ok (take i row)) r) number) in
    more_of (count - (i + 1)) (omega arith) part
  where
    more_of : (rest : ℕ) → 4 * count ≡ 4 * (i + 1) + 4 * rest → row_in (take (4 * (i + 1)) (drop place cells)) ≡ Err cause → row_in (take (4 * count) (drop place cells)) ≡ Err cause
    more_of rest e part =
        ap (λ (n : ℕ). row_in (take n (drop place cells))) e
        ∙ (ap row_in (take-split (4 * (i + 1)) (4 * rest) (drop place cells))
        ∙ row_in-front (take (4 * (i + 1)) (drop place cells)) (take (4 * rest) (drop (4 * (i + 1)) (drop place cells))) cause part)

-- All numbers.
pub row_is : (context : List ℕ) (stack : List Cell) (base : Value) (count : ℕ) →
    row_at context stack base count ≡ given (place_at base (pos 0) (4 * count)) (λ p. row_in (part_at context stack (4 * count) p))
row_is context stack base count =
    ap (λ (r : Result (List Cell) Cause). given r row_in) (cells_are context stack (4 * count) base (pos 0))
    ∙ twice (place_at base (pos 0) (4 * count)) (λ p. part_at context stack (4 * count) p) row_in

pub row_at_place : (context : List ℕ) (stack : List Cell) (base : Value) (count : ℕ) (p : Region × ℕ) → place_at base (pos 0) (4 * count) ≡ Ok p →
    row_at context stack base count ≡ row_in (part_at context stack (4 * count) p)
row_at_place context stack base count p e = row_is context stack base count ∙ ap (λ (r : Result (Region × ℕ) Cause). given r (λ q. row_in (part_at context stack (4 * count) q))) e

pub row_nowhere : (context : List ℕ) (stack : List Cell) (base : Value) (count : ℕ) (cause : Cause) → place_at base (pos 0) (4 * count) ≡ Err cause →
    row_at context stack base count ≡ Err cause
row_nowhere context stack base count cause e = row_is context stack base count ∙ ap (λ (r : Result (Region × ℕ) Cause). given r (λ q. row_in (part_at context stack (4 * count) q))) e

-- A region has its number of cells.
pub length-region : (context : List ℕ) (stack : List Cell) (region : Region) → length stack ≡ 512 → length context ≡ 4096 → length (region_cells context stack region) ≡ room_of region
length-region context stack Stack s c = s
length-region context stack Context s c = length-map context Byte ∙ c

-- ---- words that are written

abbrev pub words_cells : List ℕ → List Cell
words_cells words = map Byte (flat_map (little_bytes 8) words)

pub none_written : (cells : List Cell) (place : ℕ) → overwritten cells place [] ≡ cells
none_written cells place =
    let e : place + 0 ≡ place = omega arith in
    ap (λ (n : ℕ). take place cells ++ [] ++ drop n cells) e ∙ (ap (λ (l : List Cell). l ++ drop place cells) (append-nil (take place cells)) ∙ take-append-drop place cells)

pub word_written : (cells now : List Cell) (place i : ℕ) (words : List ℕ) → length cells ≡ 512 → place + 8 * length words ≤ 512 → i < length words →
    now ≡ overwritten cells place (words_cells (take i words)) →
    overwritten now (place + 8 * i) (map Byte (little_bytes 8 (get_or words i 0))) ≡ overwritten cells place (words_cells (take (i + 1) words))
word_written cells now place i words long fits lt so_far =
    let le : i ≤ length words = omega arith in
    let size : length (words_cells (take i words)) ≡ 8 * i =
    length-map (flat_map (little_bytes 8) (take i words)) Byte ∙ (length-words (take i words) ∙ ap (λ (n : ℕ). 8 * n) (length-take-le i words le)) in
    let room : place + length (words_cells (take i words)) ≤ length cells = omega arith in
    let new = map Byte (little_bytes 8 (get_or words i 0)) in
    let bytes : flat_map (little_bytes 8) (get_or words i 0 ∷ []) ≡ little_bytes 8 (get_or words i 0) = append-nil (little_bytes 8 (get_or words i 0)) in
    let all : words_cells (take i words) ++ new ≡ words_cells (take (i + 1) words) =
    ap (λ (l : List ℕ). words_cells (take i words) ++ map Byte l) (sym bytes)
    ∙ (sym (map-append Byte (flat_map (little_bytes 8) (take i words)) (flat_map (little_bytes 8) (get_or words i 0 ∷ [])))
    ∙ (ap (λ (l : List ℕ). map Byte l) (sym (flat_map-append (little_bytes 8) (take i words) (get_or words i 0 ∷ [])))
    ∙ ap words_cells (sym (take_more words i 0 lt)))) in
    ap (λ (l : List Cell). overwritten l (place + 8 * i) new) so_far
    ∙ (ap (λ (n : ℕ). overwritten (overwritten cells place (words_cells (take i words))) (place + n) new) (sym size)
    ∙ (overwritten-more cells place (words_cells (take i words)) new room ∙ ap (λ (l : List Cell). overwritten cells place l) all))

pub all_written : (cells now : List Cell) (base : Value) (place i : ℕ) (words : List ℕ) → stack_place base (pos 0) (8 * length words) ≡ Ok place → i ≡ length words →
    now ≡ overwritten cells place (words_cells (take i words)) → now ≡ with_words cells base words
all_written cells now base place i words at all so_far =
    so_far ∙ (ap (λ (l : List ℕ). overwritten cells place (words_cells l)) (ap (λ (n : ℕ). take n words) all ∙ take-length words) ∙ rw at refl)

pub no_room : (cells : List Cell) (base : Value) (cause : Cause) (words : List ℕ) → stack_place base (pos 0) (8 * length words) ≡ Err cause → cells ≡ with_words cells base words
no_room cells base cause words at = rw at refl
