-- What loads read.
use Rattle.std.proofs.Common.{◌≡◌, ◌∙◌, ℕ, zero, suc, ◌+◌, ◌-◌, ◌*◌, ◌^◌, ◌<◌, ◌≤◌, List, [], ◌∷◌, map, take, drop, length, get_or, Result, Ok, Err, refl, sym, ap, subst, arith}
use Rattle.std.specs.Prelude.{ℤ, ◌+ℤ◌, slice_range, All}
use Rattle.std.proofs.Math.Nat.{pow-succ'}
use Rattle.std.proofs.lemmas.List.{get_or-take, get_or-drop, length-take-le, length-drop}
use Rattle.std.proofs.lemmas.List.Elements.{All-get_or}
use Rattle.word.specs.declared.Narrow.{Narrow}
use Rattle.word.specs.declared.Narrow.TheVariants as narrow
use Rattle.word.specs.declared.Width.TheVariants.{W64}
use Rattle.word.specs.Arithmetic.{sign_extended}
use Rattle.word.specs.Bytes.{little_number}
use Rattle.insn.specs.Insn.{part_bytes}
use Rattle.semantics.specs.declared.value.Region.{Region}
use Rattle.semantics.specs.declared.value.Region.TheVariants.{Stack, Context}
use Rattle.semantics.specs.declared.value.Value.{Value}
use Rattle.semantics.specs.declared.value.Value.TheVariants as value
use Rattle.semantics.specs.declared.value.Cell.{Cell}
use Rattle.semantics.specs.declared.value.Cell.TheVariants.{Empty, Byte, Piece}
use Rattle.semantics.specs.State.{Cause, given}
use Rattle.semantics.specs.Memory.{window, region_cells, cells_at, bytes_in, value_in, room_of}
use Rattle.absval.specs.declared.value.AbsVal.{AbsVal}
use Rattle.absval.specs.Contains.{Contains, Gives, IsPointerIn}
use Rattle.semantics.specs.Run.{IsContext}
use Rattle.absval.specs.Windows.{LiesIn}
use Rattle.absval.proofs.WindowRows.{Lies}
use Rattle.absmem.specs.Describes.{IsByte, AreBytes}

-- If the cells are bytes, a load reads a number of this many bytes.
pub number_found : (cells : List Cell) → AreBytes cells → (bytes : List ℕ) × (bytes_in cells ≡ Ok bytes) × (little_number bytes < 256 ^ length cells)
number_found [] h = ([], refl, omega arith)
number_found (Empty ∷ cells) h = absurd (h 0 (omega arith))
number_found (Piece i region offset ∷ cells) h = absurd (h 0 (omega arith))
number_found (Byte b ∷ cells) h =
    let rest = number_found cells (λ k l. h (suc k) (omega arith)) in
    let small : b < 256 = h 0 (omega arith) in
    let less : little_number rest.0 < 256 ^ length cells = rest.2 in
    let power : 256 ^ suc (length cells) ≡ 256 * 256 ^ length cells = pow-succ' 256 (length cells) in
    (b ∷ rest.0, ap (λ (r : Result (List ℕ) Cause). given r (λ bytes. Ok (b ∷ bytes))) rest.1, omega (arith, small, less, power))

value_found : (cells : List Cell) → AreBytes cells → (n : ℕ) × (value_in cells ≡ Ok (value.Number n)) × (n < 256 ^ length cells)
value_found [] h = (0, refl, omega arith)
value_found (Empty ∷ cells) h = absurd (h 0 (omega arith))
value_found (Piece i region offset ∷ cells) h = absurd (h 0 (omega arith))
value_found (Byte b ∷ cells) h =
    let found = number_found (Byte b ∷ cells) h in
    (little_number found.0, ap (λ (r : Result (List ℕ) Cause). given r (λ bytes. Ok (value.Number (little_number bytes)))) found.1, found.2)

-- So a load of bytes gives a number.
pub gives_number : (r : AbsVal) (cells : List Cell) (size : ℕ) → length cells ≡ size → AreBytes cells → ((n : ℕ) → n < 256 ^ size → Contains r (value.Number n)) → Gives r (value_in cells)
gives_number r cells size e h holds =
    let found = value_found cells h in
    subst (λ (v : Result Value Cause). Gives r v) (sym found.1) (holds found.0 (subst (λ (n : ℕ). found.0 < 256 ^ n) e found.2))

-- So does a sign-extended load.
pub gives_extended : (r : AbsVal) (cells : List Cell) (part : Narrow) → length cells ≡ part_bytes part → AreBytes cells → ((n : ℕ) → n < 256 ^ part_bytes part → Contains r (value.Number (sign_extended W64 part n))) →
    Gives r (given (bytes_in cells) (λ bytes. Ok (value.Number (sign_extended W64 part (little_number bytes)))))
gives_extended r cells part e h holds =
    let found = number_found cells h in
    subst (λ (b : Result (List ℕ) Cause). Gives r (given b (λ bytes. Ok (value.Number (sign_extended W64 part (little_number bytes)))))) (sym found.1)
    (holds (little_number found.0) (subst (λ (n : ℕ). little_number found.0 < 256 ^ n) e found.2))

pub length-part : (cells : List Cell) (at size total : ℕ) → length cells ≡ total → at + size ≤ total → length (slice_range cells at (at + size)) ≡ size
length-part cells at size total e le =
    let n : at + size - at ≡ size = omega arith in
    let room : size ≤ length (drop at cells) = omega (arith, length-drop at cells) in
    ap (λ (m : ℕ). length (take m (drop at cells))) n ∙ length-take-le size (drop at cells) room

-- A part of cells that are bytes.
part_bytes_of : (cells : List Cell) (at size total : ℕ) → length cells ≡ total → at + size ≤ total → AreBytes cells → AreBytes (slice_range cells at (at + size))
part_bytes_of cells at size total e le h k l =
    let long : length (slice_range cells at (at + size)) ≡ size = length-part cells at size total e le in
    let n : at + size - at ≡ size = omega arith in
    let less : k < at + size - at = omega arith in
    subst IsByte (sym (get_or-take (at + size - at) (drop at cells) k Empty less ∙ get_or-drop at cells k Empty)) (h (at + k) (omega arith))

are_bytes : (bs : List ℕ) → ((k : ℕ) → k < length bs → get_or bs k 0 < 256) → AreBytes (map Byte bs)
are_bytes [] h k l = absurd (omega arith)
are_bytes (b ∷ bs) h zero l = h 0 (omega arith)
are_bytes (b ∷ bs) h (suc k) l = are_bytes bs (λ j m. h (suc j) (omega arith)) k (omega arith)

length-bytes : (bs : List ℕ) → length (map Byte bs) ≡ length bs
length-bytes [] = refl
length-bytes (b ∷ bs) = ap suc (length-bytes bs)

-- The cells of a context are bytes.
pub context_part : (context : List ℕ) (at size : ℕ) → length context ≡ 4096 → All (λ b. b < 256) context → at + size ≤ 4096 →
    (length (slice_range (map Byte context) at (at + size)) ≡ size) × AreBytes (slice_range (map Byte context) at (at + size))
context_part context at size long all le =
    let total = length-bytes context ∙ long in (
      length-part (map Byte context) at size 4096 total le,
      part_bytes_of (map Byte context) at size 4096 total le (are_bytes context (λ k l. All-get_or (λ b. b < 256) context k 0 l all)),
    )

-- What is true at each place of the window is true of the cells at the pointer.
pub reads_give : (r : AbsVal) (f : List Cell → Result Value Cause) (context : List ℕ) (cells : List Cell) (region : Region) (low high distance : ℤ) (first total size : ℕ) (v : Value) → IsPointerIn region low high v →
    Lies region low high distance first total size →
    ((at : ℕ) → first ≤ at → at + size ≤ first + total → Gives r (f (slice_range (region_cells context cells region) at (at + size)))) →
    Gives r (given (cells_at context cells v distance size) f)
reads_give r f context cells region low high distance first total size value.Unset p lies gives = absurd p
reads_give r f context cells region low high distance first total size (value.Number n) p lies gives = absurd p
reads_give r f context cells region low high distance first total size (value.Pointer other o) p lies gives =
    subst (λ (reg : Region). Gives r (given (cells_at context cells (value.Pointer reg o) distance size) f)) (sym p.0)
    (by_window (window region (o +ℤ distance) size) (lies o p.1 p.2))
  where
    by_window : (w : Result ℕ Cause) → LiesIn first total size w → Gives r (given (given w (λ at. Ok (slice_range (region_cells context cells region) at (at + size)))) f)
    by_window (Ok at) h = gives at h.0 h.1
    by_window (Err cause) h = absurd h

part_small : (part : Narrow) (n : ℕ) → n < 256 ^ part_bytes part → n < 2 ^ 64
part_small narrow.Byte n l = omega arith
part_small narrow.Half n l = omega arith
part_small narrow.Word n l = omega arith

-- What a sign-extended load at a place gives.
pub extended_at : (r : AbsVal) (context : List ℕ) (cells : List Cell) (region : Region) (part : Narrow) (first total at : ℕ) → IsContext context → length cells ≡ 512 → first + total ≤ room_of region →
    at + part_bytes part ≤ first + total → (region ≡ Stack → AreBytes (slice_range cells at (at + part_bytes part))) → ((n : ℕ) → n < 2 ^ 64 → Contains r (value.Number (sign_extended W64 part n))) →
    Gives r (given (bytes_in (slice_range (region_cells context cells region) at (at + part_bytes part))) (λ bytes. Ok (value.Number (sign_extended W64 part (little_number bytes)))))
extended_at r context cells Stack part first total at ctx long fits le are holds =
    gives_extended r (slice_range cells at (at + part_bytes part)) part (length-part cells at (part_bytes part) 512 long (omega arith)) (are refl) (λ n l. holds n (part_small part n l))
extended_at r context cells Context part first total at ctx long fits le are holds =
    let found = context_part context at (part_bytes part) ctx.long ctx.bytes (omega arith) in
    gives_extended r (slice_range (map Byte context) at (at + part_bytes part)) part found.0 found.1 (λ n l. holds n (part_small part n l))
