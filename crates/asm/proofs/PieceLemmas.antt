-- Bytes that are read piece by piece.
use Rattle.std.proofs.Common.{◌≡◌, ◌∙◌, ◌*◌, ◌%◌, ◌<◌, ◌≤◌, ℕ, List, [], ◌∷◌, ◌++◌, length, take, drop, refl, sym, ap, subst, append_assoc, append-nil, take-append-drop, length-take, length-drop, arith}
use Rattle.std.specs.Prelude.{codes, Some}
use Rattle.insn.specs.declared.insn.Insn.{Insn}
use Rattle.insn.specs.Insn.{IsInsn, units_of}
use Rattle.codec.specs.declared.fault.CodecFault.{CodecFault}
use Rattle.codec.specs.Spelling.{instruction_bytes}
use Rattle.codec.specs.Reading.{fault_at}
use Rattle.std.proofs.lemmas.Grind.{flat_map-append}
use Rattle.asm.specs.Pieces.{Piece, Spelled, Raw, IsFirst, ArePieces}
use Rattle.asm.specs.PieceText.{IsTextOf, piece_text, pieces_text}

-- These pieces come before the remaining bytes, and the text is theirs.
pub record IsReadTo (bytes left text : List ℕ) (before : List Piece) : Type 0 where
  pub told : text ≡ pieces_text before
  pub onward : (more : List Piece) → ArePieces more left → ArePieces (before ++ more) bytes

pub nothing_read : (bytes : List ℕ) → (before : List Piece) × IsReadTo bytes bytes [] before
nothing_read bytes = ([], record { told = refl; onward = λ more are. are })

line_added : (before : List Piece) (piece : Piece) → pieces_text (before ++ piece ∷ []) ≡ pieces_text before ++ (piece_text piece ++ codes "\n")
line_added before piece =
    flat_map-append (λ (p : Piece). piece_text p ++ codes "\n") before (piece ∷ [])
    ∙ ap (λ (t : List ℕ). pieces_text before ++ t) (append-nil (piece_text piece ++ codes "\n"))

pub piece_read : (bytes left rest text longer : List ℕ) (before : List Piece) (piece : Piece) → IsReadTo bytes left text before → IsFirst left piece rest
    → longer ≡ text ++ (piece_text piece ++ codes "\n") → IsReadTo bytes rest longer (before ++ piece ∷ [])
piece_read bytes left rest text longer before piece read first added = record {
  told = added ∙ (ap (λ (t : List ℕ). t ++ (piece_text piece ++ codes "\n")) read.told ∙ sym (line_added before piece));
  onward = λ more are.
      subst (λ (ps : List Piece). ArePieces ps bytes) (sym (append_assoc before (piece ∷ []) more)) (read.onward (piece ∷ more) (rest, first, are));
}

pub all_read : (bytes left text : List ℕ) (before : List Piece) → left ≡ [] → IsReadTo bytes left text before → IsTextOf bytes text
all_read bytes left text before none read =
    (before, subst (λ (ps : List Piece). ArePieces ps bytes) (append-nil before) (read.onward [] none), read.told)

-- ---- what bytes begin with

pub spelled_first : (bytes : List ℕ) (insn : Insn) (size : ℕ) → IsInsn insn → size ≡ 8 * units_of insn → take (8 * units_of insn) bytes ≡ instruction_bytes insn
    → IsFirst bytes (Spelled insn) (drop size bytes)
spelled_first bytes insn size is long found =
    (is, sym (take-append-drop size bytes) ∙ ap (λ (t : List ℕ). t ++ drop size bytes) (ap (λ (n : ℕ). take n bytes) long ∙ found))

pub raw_first : (bytes : List ℕ) (fault : CodecFault) → 8 ≤ length bytes → fault_at bytes ≡ Some fault → IsFirst bytes (Raw (take 8 bytes) fault) (drop 8 bytes)
raw_first bytes fault long found =
    let eight = length-take 8 bytes in
    let is : length (take 8 bytes) ≡ 8 = omega arith in
    (is, found, sym (take-append-drop 8 bytes))

-- One more piece.
pub read_on : (bytes left rest text longer : List ℕ) (size : ℕ) → ((before : List Piece) × IsReadTo bytes left text before)
    → ((piece : Piece) × IsFirst left piece (drop size left) × (longer ≡ text ++ (piece_text piece ++ codes "\n"))) → rest ≡ drop size left
    → (before : List Piece) × IsReadTo bytes rest longer before
read_on bytes left rest text longer size (before, read) (piece, first, added) is =
    (before ++ piece ∷ [], piece_read bytes left rest text longer before piece read (subst (λ (r : List ℕ). IsFirst left piece r) (sym is) first) added)

-- The remaining bytes are whole units.
pub whole_left : (left rest : List ℕ) (size : ℕ) → length left % 8 ≡ 0 → size % 8 ≡ 0 → size ≤ length left → rest ≡ drop size left → length rest % 8 ≡ 0
whole_left left rest size whole units within is = let long = length-drop size left in let same : length rest ≡ length (drop size left) = ap length is in omega arith

pub unit_left : (left : List ℕ) → length left % 8 ≡ 0 → 0 < length left → 8 ≤ length left
unit_left left whole some = omega arith
