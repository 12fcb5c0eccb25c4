-- The first cell of a window.
use Rattle.std.proofs.Common.{◌≡◌, ℕ, ℤ, suc, ◌+◌, ◌-◌, ◌<◌, ◌≤◌, List, [], ◌∷◌, length, take, drop, get_or, true, false, Bool, refl, sym, ap, ◌∙◌, arith, drop-cons}
use Rattle.std.proofs.lemmas.List.{length-take-le, length-drop}
use Rattle.std.specs.Prelude.{Ok, Err, if◌then◌else◌}
use Rattle.insn.specs.declared.insn.Size.{Size}
use Rattle.insn.specs.declared.insn.Size.TheVariants as size
use Rattle.insn.specs.Insn.{bytes_of}
use Rattle.semantics.specs.declared.value.Region.{Region}
use Rattle.semantics.specs.declared.value.Value.TheVariants.{Pointer}
use Rattle.semantics.specs.declared.value.Cell.{Cell}
use Rattle.semantics.specs.declared.value.Cell.TheVariants.{Empty, Byte, Piece}
use Rattle.semantics.specs.State.{NoBytes}
use Rattle.semantics.specs.Memory.{value_in, are_pieces}
use Rattle.mem.specs.Reading.{number_in}

pub first_of : (cells : List Cell) (place n : ℕ) (x : Cell) → place < length cells → x ≡ get_or cells place Empty → take (suc n) (drop place cells) ≡ x ∷ take n (drop (suc place) cells)
first_of cells place n x l e =
    ap (λ (c : List Cell). take (suc n) c) (drop-cons cells place Empty l) ∙ ap (λ (c : Cell). c ∷ take n (drop (suc place) cells)) (sym e)

pub some_bytes : (s : Size) → bytes_of s ≡ suc (bytes_of s - 1)
some_bytes size.Byte = refl
some_bytes size.Half = refl
some_bytes size.Word = refl
some_bytes size.Double = refl

pub first_in : (cells : List Cell) (place : ℕ) (s : Size) (x : Cell) → place < length cells → x ≡ get_or cells place Empty → take (bytes_of s) (drop place cells) ≡ x ∷ take (bytes_of s - 1) (drop (suc place) cells)
first_in cells place s x l e = ap (λ (n : ℕ). take n (drop place cells)) (some_bytes s) ∙ first_of cells place (bytes_of s - 1) x l e

no_byte : (x : Cell) → ((b : ℕ) → x ≡ Byte b → ⊥) → number_in (x ∷ []) ≡ Err NoBytes
no_byte Empty n = refl
no_byte (Byte b) n = absurd (n b refl)
no_byte (Piece i region offset) n = refl

pub byte_none : (cells : List Cell) (place : ℕ) (x : Cell) → place < length cells → x ≡ get_or cells place Empty → ((b : ℕ) → x ≡ Byte b → ⊥) → number_in (take 1 (drop place cells)) ≡ Err NoBytes
byte_none cells place x l e n = ap number_in (first_of cells place 0 x l e) ∙ no_byte x n

pub nothing_in : (cells : List Cell) (place : ℕ) (s : Size) → place < length cells → Empty ≡ get_or cells place Empty → value_in (take (bytes_of s) (drop place cells)) ≡ Err NoBytes
nothing_in cells place s l e = ap value_in (first_in cells place s Empty l e)

pub pointer_in : (cells : List Cell) (place i : ℕ) (region : Region) (offset : ℤ) (s : Size) → place < length cells → Piece i region offset ≡ get_or cells place Empty →
    are_pieces region offset 0 (take (bytes_of s) (drop place cells)) ≡ true → value_in (take (bytes_of s) (drop place cells)) ≡ Ok (Pointer region offset)
pointer_in cells place i region offset s l e all =
    let f = first_in cells place s (Piece i region offset) l e in
    let h : are_pieces region offset 0 (Piece i region offset ∷ take (bytes_of s - 1) (drop (suc place) cells)) ≡ true = ap (are_pieces region offset 0) (sym f) ∙ all in
    ap value_in f ∙ ap (λ (b : Bool). if b then Ok (Pointer region offset) else Err NoBytes) h

pub no_pointer_in : (cells : List Cell) (place i : ℕ) (region : Region) (offset : ℤ) (s : Size) → place < length cells → Piece i region offset ≡ get_or cells place Empty →
    are_pieces region offset 0 (take (bytes_of s) (drop place cells)) ≡ false → value_in (take (bytes_of s) (drop place cells)) ≡ Err NoBytes
no_pointer_in cells place i region offset s l e none =
    let f = first_in cells place s (Piece i region offset) l e in
    let h : are_pieces region offset 0 (Piece i region offset ∷ take (bytes_of s - 1) (drop (suc place) cells)) ≡ false = ap (are_pieces region offset 0) (sym f) ∙ none in
    ap value_in f ∙ ap (λ (b : Bool). if b then Ok (Pointer region offset) else Err NoBytes) h

-- A pointer has 8 pieces.
pub eight_pieces : (region : Region) (offset : ℤ) (i : ℕ) (cells : List Cell) → are_pieces region offset i cells ≡ true → i + length cells ≡ 8
eight_pieces region offset i [] h = let e : i ≡ 8 = grind arith in omega arith
eight_pieces region offset i (Empty ∷ cells) h = absurd cc
eight_pieces region offset i (Byte b ∷ cells) h = absurd cc
eight_pieces region offset i (Piece j other at ∷ cells) h = let e : i + 1 + length cells ≡ 8 = eight_pieces region offset (i + 1) cells (last (j_is h)) in omega arith
  where
    j_is : are_pieces region offset i (Piece j other at ∷ cells) ≡ true → are_pieces region offset i (Piece j other at ∷ cells) ≡ true
    j_is e = e

    last : are_pieces region offset i (Piece j other at ∷ cells) ≡ true → are_pieces region offset (i + 1) cells ≡ true
    last e = grind arith

pub inside : (s : Size) {n place : ℕ} → n ≡ 512 → place + bytes_of s ≤ 512 → place < n
inside size.Byte e h = omega arith
inside size.Half e h = omega arith
inside size.Word e h = omega arith
inside size.Double e h = omega arith

-- Fewer than 8 pieces are not a pointer.
pub too_few : (cells : List Cell) (place : ℕ) (region : Region) (offset : ℤ) (s : Size) → place + bytes_of s ≤ 512 → length cells ≡ 512 → (s ≡ size.Double → ⊥) →
    are_pieces region offset 0 (take (bytes_of s) (drop place cells)) ≡ false
too_few cells place region offset s fits long not = by_cases (are_pieces region offset 0 (take (bytes_of s) (drop place cells))) refl
  where
    few : (t : Size) → (t ≡ size.Double → ⊥) → bytes_of t ≡ 8 → ⊥
    few size.Byte n e = absurd (omega arith)
    few size.Half n e = absurd (omega arith)
    few size.Word n e = absurd (omega arith)
    few size.Double n e = n refl

    by_cases : (b : Bool) → are_pieces region offset 0 (take (bytes_of s) (drop place cells)) ≡ b → are_pieces region offset 0 (take (bytes_of s) (drop place cells)) ≡ false
    by_cases false e = e
    by_cases true e =
        let room : bytes_of s ≤ length (drop place cells) = omega (arith, length-drop place cells) in
        let size_is : length (take (bytes_of s) (drop place cells)) ≡ bytes_of s = length-take-le (bytes_of s) (drop place cells) room in
        let eight = eight_pieces region offset 0 (take (bytes_of s) (drop place cells)) e in
        absurd (few s not (omega (arith, size_is, eight)))
