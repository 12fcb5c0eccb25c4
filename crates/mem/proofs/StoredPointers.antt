-- Pointers that are stored in cells.
use Rattle.std.proofs.Common.{◌≡◌, ℕ, ℤ, zero, suc, ◌+◌, ◌-◌, ◌<◌, ◌≤◌, List, [], ◌∷◌, ◌++◌, length, take, drop, get_or, set, Bool, true, false, ◌&&◌, refl, sym, ap, ◌∙◌, arith, drop-cons}
use Rattle.std.proofs.lemmas.List.{take_more, length-take-le, append-nil, take-append-drop}
use Rattle.semantics.specs.declared.value.Region.{Region}
use Rattle.semantics.specs.declared.value.Cell.{Cell}
use Rattle.semantics.specs.declared.value.Cell.TheVariants.{Empty, Byte, Piece}
use Rattle.semantics.specs.Memory.{overwritten, pieces_of, are_pieces}
use Rattle.mem.specs.Reading.{is_piece}
use Rattle.mem.proofs.Writing.{overwritten-one, overwritten-more}

first_piece : (region : Region) (offset : ℤ) (i : ℕ) (x : Cell) (xs : List Cell) → are_pieces region offset i (x ∷ xs) ≡ is_piece i region offset x && are_pieces region offset (i + 1) xs
first_piece region offset i Empty xs = refl
first_piece region offset i (Byte b) xs = refl
first_piece region offset i (Piece j other at) xs = refl

-- The cells from the i-th on, of 8.
abbrev pub rest_of : List Cell → ℕ → ℕ → List Cell
rest_of cells place i = take (8 - i) (drop (place + i) cells)

rest_first : (cells : List Cell) (place i : ℕ) (d : Cell) → i < 8 → place + 8 ≤ length cells → rest_of cells place i ≡ get_or cells (place + i) d ∷ rest_of cells place (i + 1)
rest_first cells place i d below fits =
    let inside : place + i < length cells = omega arith in
    let less : 8 - i ≡ suc (8 - (i + 1)) = omega arith in
    let next : suc (place + i) ≡ place + (i + 1) = omega arith in
    ap (λ (n : ℕ). take n (drop (place + i) cells)) less
    ∙ (ap (λ (l : List Cell). take (suc (8 - (i + 1))) l) (drop-cons cells (place + i) d inside)
    ∙ ap (λ (n : ℕ). get_or cells (place + i) d ∷ take (8 - (i + 1)) (drop n cells)) next)

pieces_at : (cells : List Cell) (place i : ℕ) (region : Region) (offset : ℤ) (d : Cell) (b : Bool) → i < 8 → place + 8 ≤ length cells → b ≡ is_piece i region offset (get_or cells (place + i) d) →
    are_pieces region offset i (rest_of cells place i) ≡ b && are_pieces region offset (i + 1) (rest_of cells place (i + 1))
pieces_at cells place i region offset d b below fits f =
    ap (λ (l : List Cell). are_pieces region offset i l) (rest_first cells place i d below fits)
    ∙ (first_piece region offset i (get_or cells (place + i) d) (rest_of cells place (i + 1)) ∙ ap (λ (t : Bool). t && are_pieces region offset (i + 1) (rest_of cells place (i + 1))) (sym f))

-- If a piece is right, the later ones decide.
pub piece_right : (cells : List Cell) (place i : ℕ) (region : Region) (offset : ℤ) (d : Cell) (b : Bool) → i < 8 → place + 8 ≤ length cells → b ≡ is_piece i region offset (get_or cells (place + i) d) → b ≡ true →
    are_pieces region offset 0 (take 8 (drop place cells)) ≡ are_pieces region offset i (rest_of cells place i) →
    are_pieces region offset 0 (take 8 (drop place cells)) ≡ are_pieces region offset (i + 1) (rest_of cells place (i + 1))
piece_right cells place i region offset d b below fits f right so_far =
    so_far ∙ (pieces_at cells place i region offset d b below fits f ∙ ap (λ (t : Bool). t && are_pieces region offset (i + 1) (rest_of cells place (i + 1))) right)

-- A wrong piece decides.
pub piece_wrong : (cells : List Cell) (place i : ℕ) (region : Region) (offset : ℤ) (d : Cell) (b : Bool) → i < 8 → place + 8 ≤ length cells → b ≡ is_piece i region offset (get_or cells (place + i) d) → b ≡ false →
    are_pieces region offset 0 (take 8 (drop place cells)) ≡ are_pieces region offset i (rest_of cells place i) → false ≡ are_pieces region offset 0 (take 8 (drop place cells))
piece_wrong cells place i region offset d b below fits f wrong so_far =
    sym (so_far ∙ (pieces_at cells place i region offset d b below fits f ∙ ap (λ (t : Bool). t && are_pieces region offset (i + 1) (rest_of cells place (i + 1))) wrong))

piece_in : (region : Region) (offset : ℤ) (i : ℕ) (d : Cell) → i < 8 → get_or (pieces_of region offset) i d ≡ Piece i region offset
piece_in region offset zero d h = refl
piece_in region offset (suc zero) d h = refl
piece_in region offset (suc (suc zero)) d h = refl
piece_in region offset (suc (suc (suc zero))) d h = refl
piece_in region offset (suc (suc (suc (suc zero)))) d h = refl
piece_in region offset (suc (suc (suc (suc (suc zero))))) d h = refl
piece_in region offset (suc (suc (suc (suc (suc (suc zero)))))) d h = refl
piece_in region offset (suc (suc (suc (suc (suc (suc (suc zero))))))) d h = refl
piece_in region offset (suc (suc (suc (suc (suc (suc (suc (suc i)))))))) d h = absurd (omega arith)

-- The next piece is written.
pub piece_written : (old new : List Cell) (place i : ℕ) (region : Region) (offset : ℤ) → i < 8 → place + 8 ≤ length old → length new ≡ length old →
    new ≡ overwritten old place (take i (pieces_of region offset)) → set new (place + i) (Piece i region offset) ≡ overwritten old place (take (i + 1) (pieces_of region offset))
piece_written old new place i region offset below fits same e =
    let xs = take i (pieces_of region offset) in
    let x = Piece i region offset in
    let long : length xs ≡ i = length-take-le i (pieces_of region offset) (omega arith) in
    let inside : place + i < length new = omega arith in
    let room : place + length xs ≤ length old = omega arith in
    let more : take (i + 1) (pieces_of region offset) ≡ xs ++ x ∷ [] =
    take_more (pieces_of region offset) i x (omega arith) ∙ ap (λ (y : Cell). xs ++ y ∷ []) (piece_in region offset i x below) in
    overwritten-one new (place + i) x inside
    ∙ (ap (λ (l : List Cell). overwritten l (place + i) (x ∷ [])) e
    ∙ (ap (λ (n : ℕ). overwritten (overwritten old place xs) (place + n) (x ∷ [])) (sym long)
    ∙ (overwritten-more old place xs (x ∷ []) room ∙ ap (λ (l : List Cell). overwritten old place l) (sym more))))

-- Nothing is written.
pub nothing_written : (cells : List Cell) (place : ℕ) → place ≤ length cells → cells ≡ overwritten cells place []
nothing_written cells place fits =
    let e : place ≡ place + 0 = omega arith in
    sym (ap (λ (l : List Cell). l ++ drop (place + 0) cells) (append-nil (take place cells)) ∙ (ap (λ (n : ℕ). take place cells ++ drop n cells) (sym e) ∙ take-append-drop place cells))

-- All 8 cells remain to be checked.
pub rest_all : (cells : List Cell) (place : ℕ) → take 8 (drop place cells) ≡ rest_of cells place 0
rest_all cells place = let e : place ≡ place + 0 = omega arith in ap (λ (n : ℕ). take 8 (drop n cells)) e

-- None remains.
pub rest_empty : (cells : List Cell) (place i : ℕ) (region : Region) (offset : ℤ) → i ≡ 8 → are_pieces region offset i (rest_of cells place i) ≡ true
rest_empty cells place i region offset e = ap (λ (n : ℕ). are_pieces region offset n (rest_of cells place n)) e
