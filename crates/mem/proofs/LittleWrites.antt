-- Numbers written into bytes.
use Rattle.std.proofs.Common.{◌≡◌, ℕ, ◌+◌, ◌-◌, ◌/◌, ◌%◌, ◌<◌, ◌≤◌, List, [], ◌∷◌, ◌++◌, length, take, drop, set, refl, ap, ◌∙◌, arith, append-nil}
use Rattle.std.proofs.lemmas.List.{take_all, drop_all, drop-drop, length-drop, set_split}
use borrow.Rule.Slice.PartMut.{put_mid, mid_of}
use Rattle.word.specs.Bytes.{little_bytes}
use Rattle.mem.specs.Layout.{replaced}

-- The items from an index on.
rest_is : (xs : List ℕ) (place : ℕ) → length xs ≡ 512 → place ≤ 512 → mid_of place (512 - place) xs ≡ drop place xs
rest_is xs place long fits = take_all (512 - place) (drop place xs) (omega (arith, length-drop place xs))

put_is : (xs new : List ℕ) (place : ℕ) → length xs ≡ 512 → place ≤ 512 → put_mid place (512 - place) xs new ≡ take place xs ++ new
put_is xs new place long fits =
    let short : length (drop place xs) ≤ 512 - place = omega (arith, length-drop place xs) in
    let none : drop (512 - place) (drop place xs) ≡ [] = drop_all (512 - place) (drop place xs) short in
    ap (λ (l : List ℕ). take place xs ++ (new ++ l)) none ∙ ap (λ (l : List ℕ). take place xs ++ l) (append-nil new)

pub written_at : (xs new buf : List ℕ) (place : ℕ) → length xs ≡ 512 → place + length new ≤ 512 → buf ≡ new ++ drop (length new) (mid_of place (512 - place) xs) →
    put_mid place (512 - place) xs buf ≡ replaced xs place new
written_at xs new buf place long fits e =
    put_is xs buf place long (omega arith)
    ∙ ap (λ (l : List ℕ). take place xs ++ l)
    (e ∙ ap (λ (l : List ℕ). new ++ l) (ap (λ (l : List ℕ). drop (length new) l) (rest_is xs place long (omega arith)) ∙ drop-drop (length new) place xs))

pub byte_written : (xs : List ℕ) (place b n : ℕ) → length xs ≡ 512 → place + 1 ≤ 512 → b ≡ n % 256 → set (mid_of place (512 - place) xs) 0 b ≡ little_bytes 1 n ++ drop 1 (mid_of place (512 - place) xs)
byte_written xs place b n long fits e =
    let inside : 0 < length (mid_of place (512 - place) xs) = omega (arith, ap (λ (l : List ℕ). length l) (rest_is xs place long (omega arith)), length-drop place xs) in
    set_split (mid_of place (512 - place) xs) 0 b inside ∙ ap (λ (x : ℕ). x ∷ drop 1 (mid_of place (512 - place) xs)) e

pub half_bytes : (n m : ℕ) (rest : List ℕ) → m ≡ n % 65536 → m % 256 ∷ m / 256 % 256 ∷ rest ≡ little_bytes 2 n ++ rest
half_bytes n m rest e =
    let a : m % 256 ≡ n % 256 = omega arith in
    let b : m / 256 % 256 ≡ n / 256 % 256 = omega arith in
    rw (a, b) refl

pub word_bytes : (n m : ℕ) (rest : List ℕ) → m ≡ n % 4294967296 → m % 256 ∷ m / 256 % 256 ∷ m / 65536 % 256 ∷ m / 16777216 % 256 ∷ rest ≡ little_bytes 4 n ++ rest
word_bytes n m rest e =
    let a : m % 256 ≡ n % 256 = omega arith in
    let b : m / 256 % 256 ≡ n / 256 % 256 = omega arith in
    let c : m / 65536 % 256 ≡ n / 65536 % 256 = omega arith in
    let d : m / 16777216 % 256 ≡ n / 16777216 % 256 = omega arith in
    rw (a, b, c, d) refl
