-- Cells that are written in two parts.
use Rattle.std.proofs.Common.{◌≡◌, ℕ, zero, suc, ◌+◌, ◌/◌, ◌%◌, ◌^◌, ◌<◌, ◌≤◌, List, [], ◌∷◌, ◌++◌, length, take, drop, map, set, refl, sym, ap, ◌∙◌, arith, append_assoc, add-one, pow-add}
use Rattle.std.proofs.lemmas.List.{drop-drop, length-take-le, length-append, length-map, set_split, take_at, drop_at, map-append}
use Rattle.std.proofs.Math.Nat.{div-div-eq-div-mul, div-one}
use Rattle.std.specs.Int.{byte_at, bytes_low_first}
use Rattle.word.specs.Bytes.{little_bytes}
use Rattle.semantics.specs.declared.value.Cell.{Cell}
use Rattle.semantics.specs.declared.value.Cell.TheVariants.{Byte}
use Rattle.semantics.specs.Memory.{overwritten}
use Rattle.semantics.proofs.WholeLaws.{length-bytes}

-- One cell.
pub overwritten-one : (cells : List Cell) (place : ℕ) (cell : Cell) → place < length cells → set cells place cell ≡ overwritten cells place (cell ∷ [])
overwritten-one cells place cell fits =
    set_split cells place cell fits
    ∙ (ap (λ (k : ℕ). take place cells ++ (cell ∷ drop k cells)) (sym (add-one place))
    ∙ sym (append_assoc (take place cells) (cell ∷ []) (drop (place + 1) cells)))

-- A part, and then the next.
pub overwritten-more : (cells : List Cell) (place : ℕ) (xs ys : List Cell) → place + length xs ≤ length cells →
    overwritten (overwritten cells place xs) (place + length xs) ys ≡ overwritten cells place (xs ++ ys)
overwritten-more cells place xs ys fits =
    let front = take place cells ++ xs in
    let rest = drop (place + length xs) cells in
    let room : place ≤ length cells = omega arith in
    let long : length (take place cells ++ xs) ≡ place + length xs =
    length-append (take place cells) xs ∙ ap (λ (k : ℕ). k + length xs) (length-take-le place cells room) in
    let kept : take (place + length xs) (front ++ rest) ≡ front = take_at front rest (place + length xs) long in
    let left : drop (place + length xs + length ys) (front ++ rest) ≡ drop (place + length xs + length ys) cells =
    sym (drop-drop (length ys) (place + length xs) (front ++ rest))
    ∙ (ap (λ (l : List Cell). drop (length ys) l) (drop_at front rest (place + length xs) long) ∙ drop-drop (length ys) (place + length xs) cells) in
    let size : place + length xs + length ys ≡ place + length (xs ++ ys) = omega (arith, length-append xs ys) in
    ap (λ (l : List Cell). l ++ ys ++ drop (place + length xs + length ys) (front ++ rest)) kept
    ∙ (ap (λ (l : List Cell). front ++ ys ++ l) left
    ∙ (ap (λ (l : List Cell). l ++ drop (place + length xs + length ys) cells) (append_assoc (take place cells) xs ys)
    ∙ ap (λ (k : ℕ). take place cells ++ (xs ++ ys) ++ drop k cells) size))

byte_at-high : (a j n : ℕ) → byte_at (a + j) n ≡ byte_at j (n / 256 ^ a)
byte_at-high zero zero n = ap (λ (k : ℕ). k % 256) (sym (div-one n))
byte_at-high zero (suc j) n = let e : 0 + suc j ≡ suc j = omega arith in ap (λ (k : ℕ). byte_at k n) e ∙ ap (λ (k : ℕ). k / 256 ^ suc j % 256) (sym (div-one n))
byte_at-high (suc a) zero n = let e : suc a + 0 ≡ suc a = omega arith in ap (λ (k : ℕ). byte_at k n) e
byte_at-high (suc a) (suc j) n =
    let e : suc a + suc j ≡ suc (a + suc j) = omega arith in
    let f : suc (a + suc j) ≡ suc a + suc j = omega arith in
    ap (λ (k : ℕ). byte_at k n) e
    ∙ (ap (λ (k : ℕ). n / 256 ^ k % 256) f
    ∙ (ap (λ (k : ℕ). n / k % 256) (pow-add 256 (suc a) (suc j)) ∙ ap (λ (k : ℕ). k % 256) (sym (div-div-eq-div-mul n (256 ^ suc a) (256 ^ suc j)))))

high_bytes : (a j size n : ℕ) → bytes_low_first (a + j) size n ≡ bytes_low_first j size (n / 256 ^ a)
high_bytes a j zero n = refl
high_bytes a j (suc size) n =
    let e : suc (a + j) ≡ a + suc j = omega arith in
    let more : bytes_low_first (suc (a + j)) size n ≡ bytes_low_first (suc j) size (n / 256 ^ a) = ap (λ (k : ℕ). bytes_low_first k size n) e ∙ high_bytes a (suc j) size n in
    ap (λ (b : ℕ). b ∷ bytes_low_first (suc (a + j)) size n) (byte_at-high a j n) ∙ ap (λ (l : List ℕ). byte_at j (n / 256 ^ a) ∷ l) more

bytes_split : (i a b n : ℕ) → bytes_low_first i (a + b) n ≡ bytes_low_first i a n ++ bytes_low_first (i + a) b n
bytes_split i zero b n =
    let e : 0 + b ≡ b = omega arith in
    let f : i ≡ i + 0 = omega arith in
    ap (λ (k : ℕ). bytes_low_first i k n) e ∙ ap (λ (k : ℕ). bytes_low_first k b n) f
bytes_split i (suc a) b n =
    let e : suc a + b ≡ suc (a + b) = omega arith in
    let f : suc i + a ≡ i + suc a = omega arith in
    ap (λ (k : ℕ). bytes_low_first i k n) e
    ∙ (ap (λ (l : List ℕ). byte_at i n ∷ l) (bytes_split (suc i) a b n)
    ∙ ap (λ (k : ℕ). byte_at i n ∷ (bytes_low_first (suc i) a n ++ bytes_low_first k b n)) f)

-- The low bytes of a number, and those above them.
pub little_bytes-split : (a b n : ℕ) → little_bytes (a + b) n ≡ little_bytes a n ++ little_bytes b (n / 256 ^ a)
little_bytes-split a b n =
    let e : 0 + a ≡ a + 0 = omega arith in
    bytes_split 0 a b n ∙ ap (λ (l : List ℕ). little_bytes a n ++ l) (ap (λ (k : ℕ). bytes_low_first k b n) e ∙ high_bytes a 0 b n)

-- A number is written as its low bytes, and then those above them.
pub written_both : (cells : List Cell) (place a b n : ℕ) → place + a ≤ length cells →
    overwritten (overwritten cells place (map Byte (little_bytes a n))) (place + a) (map Byte (little_bytes b (n / 256 ^ a))) ≡ overwritten cells place (map Byte (little_bytes (a + b) n))
written_both cells place a b n fits =
    let xs = map Byte (little_bytes a n) in
    let ys = map Byte (little_bytes b (n / 256 ^ a)) in
    let long : length xs ≡ a = length-map (little_bytes a n) Byte ∙ length-bytes 0 a n in
    let room : place + length xs ≤ length cells = omega arith in
    ap (λ (k : ℕ). overwritten (overwritten cells place xs) (place + k) ys) (sym long)
    ∙ (overwritten-more cells place xs ys room
    ∙ ap (λ (l : List Cell). overwritten cells place l) (sym (map-append Byte (little_bytes a n) (little_bytes b (n / 256 ^ a))) ∙ ap (λ (l : List ℕ). map Byte l) (sym (little_bytes-split a b n))))
