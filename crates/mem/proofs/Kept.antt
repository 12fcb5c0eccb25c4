-- Cells as the code represents them.
use Rattle.std.proofs.Common.{◌≡◌, ◌≢◌, ℤ, subst, ℕ, zero, suc, ◌+◌, ◌-◌, ◌*◌, ◌%◌, ◌<◌, ◌≤◌, ◌⊎◌, inl, inr, List, [], ◌∷◌, ◌++◌, length, take, drop, map, set, replicate, get_or, Bool, true, false, refl, sym, ap, ◌∙◌, arith, append_assoc, get_or-set_other, get_or-set_same}
use Rattle.std.proofs.lemmas.List.{length-take-le, length-drop, length-append, length-map, get_or-append_right, get_or_append_left, get_or-drop}
use Rattle.std.specs.Int.{w32, cast_signed}
use Rattle.std.specs.Prelude.{nat_lt, if◌then◌else◌}
use Rattle.insn.specs.declared.insn.Size.{Size}
use Rattle.insn.specs.declared.insn.Size.TheVariants as size
use Rattle.insn.specs.Insn.{bytes_of}
use Rattle.semantics.specs.declared.value.Region.{Region}
use Rattle.semantics.specs.declared.value.Region.TheVariants.{Stack, Context}
use Rattle.semantics.specs.declared.value.Cell.{Cell}
use Rattle.semantics.specs.declared.value.Cell.TheVariants.{Empty, Byte, Piece}
use Rattle.semantics.specs.Memory.{overwritten, pieces_of}
use Rattle.word.specs.Bytes.{little_bytes}
use Rattle.mem.specs.Layout.{replaced, cell_of, cell_at, cells_from, region_of, pieces, HasRoom}

-- ---- parts

pub cells_length : (K B O : List ℕ) (a n : ℕ) → length (cells_from K B O a n) ≡ n
unfolding cells_from
cells_length K B O a zero = refl
cells_length K B O a (suc n) = ap suc (cells_length K B O (suc a) n)

pub cells_drop : (K B O : List ℕ) (a p n m : ℕ) → n ≡ p + m → drop p (cells_from K B O a n) ≡ cells_from K B O (a + p) m
unfolding cells_from
cells_drop K B O a zero n m e = let f : a ≡ a + 0 = omega arith in let g : n ≡ m = omega arith in ap (λ (x : ℕ). cells_from K B O x n) f ∙ ap (λ (x : ℕ). cells_from K B O (a + 0) x) g
cells_drop K B O a (suc p) zero m e = absurd (omega arith)
cells_drop K B O a (suc p) (suc n) m e =
    let f : n ≡ p + m = omega arith in
    let g : suc a + p ≡ a + suc p = omega arith in
    cells_drop K B O (suc a) p n m f ∙ ap (λ (x : ℕ). cells_from K B O x m) g

pub cells_take : (K B O : List ℕ) (a p n : ℕ) → p ≤ n → take p (cells_from K B O a n) ≡ cells_from K B O a p
unfolding cells_from
cells_take K B O a zero n e = refl
cells_take K B O a (suc p) zero e = absurd (omega arith)
cells_take K B O a (suc p) (suc n) e = ap (λ (l : List Cell). cell_at K B O a ∷ l) (cells_take K B O (suc a) p n (omega arith))

-- A window.
pub cells_window : (K B O : List ℕ) (place size : ℕ) → place + size ≤ 512 → take size (drop place (cells_from K B O 0 512)) ≡ cells_from K B O place size
cells_window K B O place size fits =
    let e : 512 ≡ place + (512 - place) = omega arith in
    let f : size ≤ 512 - place = omega arith in
    let g : 0 + place ≡ place = omega arith in
    ap (λ (l : List Cell). take size l) (cells_drop K B O 0 place 512 (512 - place) e)
    ∙ (cells_take K B O (0 + place) size (512 - place) f ∙ ap (λ (x : ℕ). cells_from K B O x size) g)

pub cells_get : (K B O : List ℕ) (a n i : ℕ) → i < n → get_or (cells_from K B O a n) i Empty ≡ cell_at K B O (a + i)
unfolding cells_from
cells_get K B O a zero i l = absurd (omega arith)
cells_get K B O a (suc n) zero l = let f : a ≡ a + 0 = omega arith in ap (λ (x : ℕ). cell_at K B O x) f
cells_get K B O a (suc n) (suc i) l =
    let f : suc a + i ≡ a + suc i = omega arith in
    cells_get K B O (suc a) n i (omega arith) ∙ ap (λ (x : ℕ). cell_at K B O x) f

cells_split : (K B O : List ℕ) (a m n : ℕ) → cells_from K B O a (m + n) ≡ cells_from K B O a m ++ cells_from K B O (a + m) n
unfolding cells_from
cells_split K B O a zero n = let e : 0 + n ≡ n = omega arith in let f : a ≡ a + 0 = omega arith in ap (λ (x : ℕ). cells_from K B O a x) e ∙ ap (λ (x : ℕ). cells_from K B O x n) f
cells_split K B O a (suc m) n =
    let e : suc m + n ≡ suc (m + n) = omega arith in
    let f : suc a + m ≡ a + suc m = omega arith in
    ap (λ (x : ℕ). cells_from K B O a x) e
    ∙ (ap (λ (l : List Cell). cell_at K B O a ∷ l) (cells_split K B O (suc a) m n)
    ∙ ap (λ (x : ℕ). cell_at K B O a ∷ (cells_from K B O (suc a) m ++ cells_from K B O x n)) f)

cells_same : (K B O K' B' O' : List ℕ) (a n : ℕ) → ((p : ℕ) → a ≤ p → p < a + n → cell_at K B O p ≡ cell_at K' B' O' p) → cells_from K B O a n ≡ cells_from K' B' O' a n
unfolding cells_from
cells_same K B O K' B' O' a zero h = refl
cells_same K B O K' B' O' a (suc n) h =
    ap (λ (x : Cell). x ∷ cells_from K B O (suc a) n) (h a (omega arith) (omega arith))
    ∙ ap (λ (l : List Cell). cell_at K' B' O' a ∷ l) (cells_same K B O K' B' O' (suc a) n (λ p l r. h p (omega arith) (omega arith)))

-- ---- writes

-- The index is outside a window.
abbrev pub Outside : ℕ → ℕ → ℕ → Type 0
Outside place size p = (p < place) ⊎ (place + size ≤ p)

-- Cells are replaced if those of the window are new and the others are unchanged.
pub cells_overwritten : (K B O K' B' O' : List ℕ) (place size : ℕ) (new : List Cell) → place + size ≤ 512 → length new ≡ size → cells_from K' B' O' place size ≡ new →
    ((p : ℕ) → Outside place size p → cell_at K' B' O' p ≡ cell_at K B O p) → cells_from K' B' O' 0 512 ≡ overwritten (cells_from K B O 0 512) place new
cells_overwritten K B O K' B' O' place size new fits long inside outside =
    let rest = 512 - (place + size) in
    let e : 512 ≡ place + (size + rest) = omega arith in
    let f : 512 ≡ place + size + rest = omega arith in
    let z : 0 + place ≡ place = omega arith in
    let y : 0 + (place + size) ≡ place + size = omega arith in
    let front : cells_from K' B' O' 0 place ≡ take place (cells_from K B O 0 512) =
    cells_same K' B' O' K B O 0 place (λ p l r. outside p (inl (omega arith))) ∙ sym (cells_take K B O 0 place 512 (omega arith)) in
    let back : cells_from K' B' O' (place + size) rest ≡ drop (place + length new) (cells_from K B O 0 512) =
    cells_same K' B' O' K B O (place + size) rest (λ p l r. outside p (inr l))
    ∙ sym (ap (λ (n : ℕ). drop (place + n) (cells_from K B O 0 512)) long ∙ (cells_drop K B O 0 (place + size) 512 rest f ∙ ap (λ (x : ℕ). cells_from K B O x rest) y)) in
    ap (λ (n : ℕ). cells_from K' B' O' 0 n) e
    ∙ (cells_split K' B' O' 0 place (size + rest)
    ∙ (ap (λ (l : List Cell). l ++ cells_from K' B' O' (0 + place) (size + rest)) front
    ∙ (ap (λ (x : ℕ). take place (cells_from K B O 0 512) ++ cells_from K' B' O' x (size + rest)) z
    ∙ (ap (λ (l : List Cell). take place (cells_from K B O 0 512) ++ l) (cells_split K' B' O' place size rest)
    ∙ (ap (λ (l : List Cell). take place (cells_from K B O 0 512) ++ (l ++ cells_from K' B' O' (place + size) rest)) inside
    ∙ (ap (λ (l : List Cell). take place (cells_from K B O 0 512) ++ (new ++ l)) back
    ∙ sym (append_assoc (take place (cells_from K B O 0 512)) new (drop (place + length new) (cells_from K B O 0 512)))))))))

pub length_replaced : (xs : List ℕ) (place : ℕ) (new : List ℕ) → place + length new ≤ length xs → length (replaced xs place new) ≡ length xs
length_replaced xs place new fits =
    let a = length-append (take place xs) (new ++ drop (place + length new) xs) in
    let b = length-append new (drop (place + length new) xs) in
    let c = length-drop (place + length new) xs in
    let d : length (take place xs) ≡ place = length-take-le place xs (omega arith) in
    omega (arith, a, b, c, d)

pub replaced_in : (xs : List ℕ) (place : ℕ) (new : List ℕ) (i : ℕ) → place + length new ≤ length xs → i < length new → get_or (replaced xs place new) (place + i) 0 ≡ get_or new i 0
replaced_in xs place new i fits l =
    let d : length (take place xs) ≡ place = length-take-le place xs (omega arith) in
    let e : place + i - place ≡ i = omega arith in
    get_or-append_right (take place xs) (new ++ drop (place + length new) xs) place (place + i) 0 d (omega arith)
    ∙ (ap (λ (n : ℕ). get_or (new ++ drop (place + length new) xs) n 0) e ∙ get_or_append_left new (drop (place + length new) xs) 0 i l)

get_or-take : (xs : List ℕ) (n p : ℕ) → p < n → get_or (take n xs) p 0 ≡ get_or xs p 0
get_or-take xs zero p l = absurd (omega arith)
get_or-take [] (suc n) p l = refl
get_or-take (x ∷ xs) (suc n) zero l = refl
get_or-take (x ∷ xs) (suc n) (suc p) l = get_or-take xs n p (omega arith)

pub replaced_out : (xs : List ℕ) (place : ℕ) (new : List ℕ) (p : ℕ) → place + length new ≤ length xs → Outside place (length new) p → get_or (replaced xs place new) p 0 ≡ get_or xs p 0
replaced_out xs place new p fits (inl l) =
    let d : length (take place xs) ≡ place = length-take-le place xs (omega arith) in
    get_or_append_left (take place xs) (new ++ drop (place + length new) xs) 0 p (omega arith) ∙ get_or-take xs place p l
replaced_out xs place new p fits (inr l) =
    let d : length (take place xs) ≡ place = length-take-le place xs (omega arith) in
    let e : place + length new + (p - place - length new) ≡ p = omega arith in
    get_or-append_right (take place xs) (new ++ drop (place + length new) xs) place p 0 d (omega arith)
    ∙ (get_or-append_right new (drop (place + length new) xs) (length new) (p - place) 0 refl (omega arith)
    ∙ (get_or-drop (place + length new) xs (p - place - length new) 0 ∙ ap (λ (n : ℕ). get_or xs n 0) e))

-- ---- nothing

pub cells_empty : (K B O : List ℕ) (a n : ℕ) → ((p : ℕ) → p < a + n → get_or K p 0 ≡ 0) → cells_from K B O a n ≡ replicate n Empty
unfolding cells_from
cells_empty K B O a zero h = refl
cells_empty K B O a (suc n) h =
    ap (λ (k : ℕ). cell_of k (get_or B a 0) O a ∷ cells_from K B O (suc a) n) (h a (omega arith))
    ∙ ap (λ (l : List Cell). Empty ∷ l) (cells_empty K B O (suc a) n (λ p l. h p (omega arith)))

-- ---- one cell

at_place : (K B O : List ℕ) (p k : ℕ) → p < 512 → get_or K p 0 ≡ k → get_or (cells_from K B O 0 512) p Empty ≡ cell_of k (get_or B p 0) O p
at_place K B O p k l e =
    let z : 0 + p ≡ p = omega arith in
    cells_get K B O 0 512 p l ∙ (ap (λ (x : ℕ). cell_at K B O x) z ∙ ap (λ (x : ℕ). cell_of x (get_or B p 0) O p) e)

pub kept_nothing : (K B O : List ℕ) (p : ℕ) → p < 512 → get_or K p 0 ≡ 0 → Empty ≡ get_or (cells_from K B O 0 512) p Empty
kept_nothing K B O p l e = sym (at_place K B O p 0 l e)

pub kept_byte : (K B O : List ℕ) (p : ℕ) → p < 512 → get_or K p 0 ≡ 1 → Byte (get_or B p 0) ≡ get_or (cells_from K B O 0 512) p Empty
kept_byte K B O p l e = sym (at_place K B O p 1 l e)

piece_of : (k b : ℕ) (O : List ℕ) (p : ℕ) → k ≢ 0 → k ≢ 1 → cell_of k b O p ≡ Piece ((k - 2) % 8) (region_of k) (cast_signed w32 (get_or O (p - (k - 2) % 8) 0))
piece_of zero b O p z o = absurd (z refl)
piece_of (suc zero) b O p z o = absurd (o refl)
piece_of (suc (suc k)) b O p z o =
    let e : k ≡ suc (suc k) - 2 = omega arith in
    ap (λ (x : ℕ). Piece (x % 8) (region_of (suc (suc k))) (cast_signed w32 (get_or O (p - x % 8) 0))) e

pub kept_piece : (K B O : List ℕ) (p i : ℕ) (region : Region) (offset : ℤ) → p < 512 → get_or K p 0 ≢ 0 → get_or K p 0 ≢ 1 → i ≡ (get_or K p 0 - 2) % 8 →
    region ≡ region_of (get_or K p 0) → offset ≡ cast_signed w32 (get_or O (p - i) 0) → Piece i region offset ≡ get_or (cells_from K B O 0 512) p Empty
kept_piece K B O p i region offset l z o e r f =
    ap (λ (x : ℤ). Piece i region x) f
    ∙ (ap (λ (x : Region). Piece i x (cast_signed w32 (get_or O (p - i) 0))) r
    ∙ (ap (λ (x : ℕ). Piece x (region_of (get_or K p 0)) (cast_signed w32 (get_or O (p - x) 0))) e
    ∙ sym (at_place K B O p (get_or K p 0) l refl ∙ piece_of (get_or K p 0) (get_or B p 0) O p z o)))

-- ---- a number is written

same_at : (K B O K' B' O' : List ℕ) (p : ℕ) → get_or K' p 0 ≡ get_or K p 0 → get_or B' p 0 ≡ get_or B p 0 → O' ≡ O → cell_at K' B' O' p ≡ cell_at K B O p
same_at K B O K' B' O' p k b o =
    ap (λ (x : ℕ). cell_of x (get_or B' p 0) O' p) k ∙ (ap (λ (x : ℕ). cell_of (get_or K p 0) x O' p) b ∙ ap (λ (x : List ℕ). cell_of (get_or K p 0) (get_or B p 0) x p) o)

bytes_stand : (K B O : List ℕ) (place : ℕ) (xs : List ℕ) → ((i : ℕ) → i < length xs → get_or K (place + i) 0 ≡ 1) → ((i : ℕ) → i < length xs → get_or B (place + i) 0 ≡ get_or xs i 0) →
    cells_from K B O place (length xs) ≡ map Byte xs
unfolding cells_from
bytes_stand K B O place [] k b = refl
bytes_stand K B O place (x ∷ xs) k b =
    let z : place + 0 ≡ place = omega arith in
    let k0 : get_or K place 0 ≡ 1 = ap (λ (n : ℕ). get_or K n 0) (sym z) ∙ k 0 (omega arith) in
    let b0 : get_or B place 0 ≡ x = ap (λ (n : ℕ). get_or B n 0) (sym z) ∙ b 0 (omega arith) in
    ap (λ (c : Cell). c ∷ cells_from K B O (suc place) (length xs)) (ap (λ (n : ℕ). cell_of n (get_or B place 0) O place) k0 ∙ ap (λ (n : ℕ). Byte n) b0)
    ∙ ap (λ (l : List Cell). Byte x ∷ l)
    (bytes_stand K B O (suc place) xs
    (λ i l. let e : suc place + i ≡ place + suc i = omega arith in ap (λ (n : ℕ). get_or K n 0) e ∙ k (suc i) (omega arith))
    (λ i l. let e : suc place + i ≡ place + suc i = omega arith in ap (λ (n : ℕ). get_or B n 0) e ∙ b (suc i) (omega arith)))

pub number_kept : (K B O K' B' : List ℕ) (place size : ℕ) (ones new : List ℕ) → HasRoom K B O → place + size ≤ 512 → length ones ≡ size → length new ≡ size → ((i : ℕ) → i < size → get_or ones i 0 ≡ 1) →
    K' ≡ replaced K place ones → B' ≡ replaced B place new → cells_from K' B' O 0 512 ≡ overwritten (cells_from K B O 0 512) place (map Byte new)
number_kept K B O K' B' place size ones new room fits ol nl one k b =
    let kl : length K ≡ 512 = room.kinds_room in
    let bl : length B ≡ 512 = room.bytes_room in
    let inside : cells_from K' B' O place size ≡ map Byte new =
    ap (λ (n : ℕ). cells_from K' B' O place n) (sym nl)
    ∙ bytes_stand K' B' O place new
    (λ i l. ap (λ (x : List ℕ). get_or x (place + i) 0) k ∙ (replaced_in K place ones i (omega arith) (omega arith) ∙ one i (omega arith)))
    (λ i l. ap (λ (x : List ℕ). get_or x (place + i) 0) b ∙ replaced_in B place new i (omega arith) l) in
    cells_overwritten K B O K' B' O place size (map Byte new) fits (length-map new Byte ∙ nl) inside
    (λ p out. same_at K B O K' B' O p
    (ap (λ (x : List ℕ). get_or x p 0) k ∙ replaced_out K place ones p (omega arith) (subst (λ (n : ℕ). Outside place n p) (sym ol) out))
    (ap (λ (x : List ℕ). get_or x p 0) b ∙ replaced_out B place new p (omega arith) (subst (λ (n : ℕ). Outside place n p) (sym nl) out)) refl)

-- ---- a pointer is written

pieces_stand : (K B O : List ℕ) (place : ℕ) (region : Region) (offset : ℤ) → ((i : ℕ) → i < 8 → cell_at K B O (place + i) ≡ Piece i region offset) → cells_from K B O place 8 ≡ pieces_of region offset
unfolding cells_from
pieces_stand K B O place region offset h =
    rw (next 0 place (omega arith) (omega arith), next 1 (suc place) (omega arith) (omega arith), next 2 (suc (suc place)) (omega arith) (omega arith), next 3 (suc (suc (suc place))) (omega arith) (omega arith), next 4 (suc (suc (suc (suc place)))) (omega arith) (omega arith), next 5 (suc (suc (suc (suc (suc place))))) (omega arith) (omega arith), next 6 (suc (suc (suc (suc (suc (suc place)))))) (omega arith) (omega arith), next 7 (suc (suc (suc (suc (suc (suc (suc place))))))) (omega arith) (omega arith)) refl
  where
    next : (i p : ℕ) → i < 8 → p ≡ place + i → cell_at K B O p ≡ Piece i region offset
    next i p l e = ap (λ (n : ℕ). cell_at K B O n) e ∙ h i l

-- The offset of another pointer is unchanged.
others_stay : (k b : ℕ) (O : List ℕ) (place word p : ℕ) → Outside place 8 p → cell_of k b (set O place word) p ≡ cell_of k b O p
others_stay zero b O place word p out = refl
others_stay (suc zero) b O place word p out = refl
others_stay (suc (suc k)) b O place word p out =
    let ne : p - k % 8 ≢ place = other out in
    ap (λ (n : ℕ). Piece (k % 8) (region_of (suc (suc k))) (cast_signed w32 n)) (get_or-set_other O place (p - k % 8) word 0 ne)
  where
    other : Outside place 8 p → p - k % 8 ≢ place
    other (inl l) = omega arith
    other (inr l) = omega arith

piece_at : (i j word : ℕ) (b : ℕ) (O : List ℕ) (place p : ℕ) → i < 8 → p ≡ place + i → place < length O → cell_of (suc (suc (i + 8 * j))) b (set O place word) p ≡ Piece i (region_of (suc (suc (i + 8 * j)))) (cast_signed w32 word)
piece_at i j word b O place p l e inside =
    let m : (i + 8 * j) % 8 ≡ i = omega arith in
    let f : p - i ≡ place = omega arith in
    ap (λ (x : ℕ). Piece x (region_of (suc (suc (i + 8 * j)))) (cast_signed w32 (get_or (set O place word) (p - x) 0))) m
    ∙ (ap (λ (x : ℕ). Piece i (region_of (suc (suc (i + 8 * j)))) (cast_signed w32 (get_or (set O place word) x 0))) f
    ∙ ap (λ (x : ℕ). Piece i (region_of (suc (suc (i + 8 * j)))) (cast_signed w32 x)) (get_or-set_same O place word 0 inside))

pub length_bytes : (s : Size) (n : ℕ) → length (little_bytes (bytes_of s) n) ≡ bytes_of s
length_bytes size.Byte n = refl
length_bytes size.Half n = refl
length_bytes size.Word n = refl
length_bytes size.Double n = refl

-- The kinds of bytes.
pub ones : (s : Size) (i : ℕ) → i < bytes_of s → get_or (little_bytes (bytes_of s) 72340172838076673) i 0 ≡ 1
ones size.Byte zero h = refl
ones size.Byte (suc i) h = absurd (omega arith)
ones size.Half zero h = refl
ones size.Half (suc zero) h = refl
ones size.Half (suc (suc i)) h = absurd (omega arith)
ones size.Word zero h = refl
ones size.Word (suc zero) h = refl
ones size.Word (suc (suc zero)) h = refl
ones size.Word (suc (suc (suc zero))) h = refl
ones size.Word (suc (suc (suc (suc i)))) h = absurd (omega arith)
ones size.Double zero h = refl
ones size.Double (suc zero) h = refl
ones size.Double (suc (suc zero)) h = refl
ones size.Double (suc (suc (suc zero))) h = refl
ones size.Double (suc (suc (suc (suc zero)))) h = refl
ones size.Double (suc (suc (suc (suc (suc zero))))) h = refl
ones size.Double (suc (suc (suc (suc (suc (suc zero)))))) h = refl
ones size.Double (suc (suc (suc (suc (suc (suc (suc zero))))))) h = refl
ones size.Double (suc (suc (suc (suc (suc (suc (suc (suc i)))))))) h = absurd (omega arith)

-- The kind of a piece.
abbrev base : Region → ℕ
base Stack = 0
base Context = 1

kind_of : (region : Region) (i : ℕ) → i < 8 → get_or (little_bytes 8 (pieces region)) i 0 ≡ suc (suc (i + 8 * base region))
kind_of Stack zero h = refl
kind_of Stack (suc zero) h = refl
kind_of Stack (suc (suc zero)) h = refl
kind_of Stack (suc (suc (suc zero))) h = refl
kind_of Stack (suc (suc (suc (suc zero)))) h = refl
kind_of Stack (suc (suc (suc (suc (suc zero))))) h = refl
kind_of Stack (suc (suc (suc (suc (suc (suc zero)))))) h = refl
kind_of Stack (suc (suc (suc (suc (suc (suc (suc zero))))))) h = refl
kind_of Stack (suc (suc (suc (suc (suc (suc (suc (suc i)))))))) h = absurd (omega arith)
kind_of Context zero h = refl
kind_of Context (suc zero) h = refl
kind_of Context (suc (suc zero)) h = refl
kind_of Context (suc (suc (suc zero))) h = refl
kind_of Context (suc (suc (suc (suc zero)))) h = refl
kind_of Context (suc (suc (suc (suc (suc zero))))) h = refl
kind_of Context (suc (suc (suc (suc (suc (suc zero)))))) h = refl
kind_of Context (suc (suc (suc (suc (suc (suc (suc zero))))))) h = refl
kind_of Context (suc (suc (suc (suc (suc (suc (suc (suc i)))))))) h = absurd (omega arith)

region_is : (region : Region) (i : ℕ) → i < 8 → region_of (suc (suc (i + 8 * base region))) ≡ region
region_is Stack i h = let e : nat_lt (suc (suc (i + 8 * base Stack))) 10 ≡ true = grind arith in ap (λ (b : Bool). if b then Stack else Context) e
region_is Context i h = let e : nat_lt (suc (suc (i + 8 * base Context))) 10 ≡ false = grind arith in ap (λ (b : Bool). if b then Stack else Context) e

pub pointer_kept : (K B O K' : List ℕ) (place : ℕ) (region : Region) (offset : ℤ) (kinds word : ℕ) → HasRoom K B O → place + 8 ≤ 512 → kinds ≡ pieces region → K' ≡ replaced K place (little_bytes 8 kinds) →
    cast_signed w32 word ≡ offset → cells_from K' B (set O place word) 0 512 ≡ overwritten (cells_from K B O 0 512) place (pieces_of region offset)
pointer_kept K B O K' place region offset kinds word room fits p k o =
    let kl : length K ≡ 512 = room.kinds_room in
    let ol : length O ≡ 512 = room.offsets_room in
    let nl : length (little_bytes 8 kinds) ≡ 8 = refl in
    let inside : cells_from K' B (set O place word) place 8 ≡ pieces_of region offset =
    pieces_stand K' B (set O place word) place region offset
    (λ i l.
    let kind : get_or K' (place + i) 0 ≡ suc (suc (i + 8 * base region)) =
    ap (λ (x : List ℕ). get_or x (place + i) 0) k
    ∙ (replaced_in K place (little_bytes 8 kinds) i (omega arith) l ∙ (ap (λ (n : ℕ). get_or (little_bytes 8 n) i 0) p ∙ kind_of region i l)) in
    ap (λ (n : ℕ). cell_of n (get_or B (place + i) 0) (set O place word) (place + i)) kind
    ∙ (piece_at i (base region) word (get_or B (place + i) 0) O place (place + i) l refl (omega arith)
    ∙ (ap (λ (r : Region). Piece i r (cast_signed w32 word)) (region_is region i l) ∙ ap (λ (z : ℤ). Piece i region z) o))) in
    cells_overwritten K B O K' B (set O place word) place 8 (pieces_of region offset) fits refl inside
    (λ q out.
    ap (λ (n : ℕ). cell_of n (get_or B q 0) (set O place word) q) (ap (λ (x : List ℕ). get_or x q 0) k ∙ replaced_out K place (little_bytes 8 kinds) q (omega arith) out)
    ∙ others_stay (get_or K q 0) (get_or B q 0) O place word q out)
