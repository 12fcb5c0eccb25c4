-- Eight bytes and their fields: each is read back from the other.
use Rattle.std.proofs.Common.{◌≡◌, ◌≤◌, ◌<◌, ◌+◌, ◌*◌, ◌/◌, ◌%◌, ◌^◌, ℕ, zero, suc, List, [], ◌∷◌, ◌++◌, length, take, drop, get_or, refl, sym, ◌∙◌, arith}
use Rattle.std.specs.Prelude.{slice_index}
use Rattle.std.proofs.lemmas.Nat.{le_bytes_2, le_bytes_4, from_le_bytes-to_le_bytes_2, from_le_bytes-to_le_bytes_4}
use Rattle.codec.specs.declared.fields.Fields.{Fields}
use Rattle.codec.specs.Spelling.{fields, unit_bytes}
use Rattle.codec.specs.Reading.{fields_of}

-- The registers fit in four bits each, and the numbers in their bytes.
pub record IsUnit (f : Fields) : Type 0 where
  pub dst : f.dst < 16
  pub src : f.src < 16
  pub offset : f.offset < 2 ^ 16
  pub imm : f.imm < 2 ^ 32

same_fields : (f : Fields) (dst src offset imm : ℕ) → dst ≡ f.dst → src ≡ f.src → offset ≡ f.offset → imm ≡ f.imm → fields f.opcode dst src offset imm ≡ f
same_fields f dst src offset imm d s o i = rw (d, s, o, i) refl

-- Fields are read back from their bytes.
pub fields_back : (f : Fields) (rest : List ℕ) → IsUnit f → fields_of (unit_bytes f ++ rest) ≡ f
fields_back f rest fits =
    same_fields f _ _ _ _ (omega (arith, fits.dst)) (omega (arith, fits.dst)) (from_le_bytes-to_le_bytes_2 f.offset fits.offset) (from_le_bytes-to_le_bytes_4 f.imm fits.imm)

-- The bytes after those of a unit.
pub behind_unit : (f : Fields) (rest : List ℕ) → drop 8 (unit_bytes f ++ rest) ≡ rest
behind_unit f rest = refl

pub length-unit_bytes : (f : Fields) → length (unit_bytes f) ≡ 8
length-unit_bytes f = refl

two_bytes : (a b : ℕ) → a < 256 → b < 256 → (i : ℕ) → get_or (a ∷ b ∷ []) i 0 < 256
two_bytes a b p q zero = p
two_bytes a b p q (suc zero) = q
two_bytes a b p q (suc (suc i)) = omega arith

four_bytes : (a b c d : ℕ) → a < 256 → b < 256 → c < 256 → d < 256 → (i : ℕ) → get_or (a ∷ b ∷ c ∷ d ∷ []) i 0 < 256
four_bytes a b c d p q r s zero = p
four_bytes a b c d p q r s (suc zero) = q
four_bytes a b c d p q r s (suc (suc zero)) = r
four_bytes a b c d p q r s (suc (suc (suc zero))) = s
four_bytes a b c d p q r s (suc (suc (suc (suc i)))) = omega arith

-- The first eight items of a list.
first_eight : (bytes : List ℕ) → 8 ≤ length bytes → take 8 bytes ≡
    slice_index bytes 0 ∷ slice_index bytes 1 ∷ slice_index bytes 2 ∷ slice_index bytes 3 ∷ slice_index bytes 4 ∷ slice_index bytes 5 ∷ slice_index bytes 6 ∷ slice_index bytes 7 ∷ []
first_eight [] long = absurd (omega arith)
first_eight (a ∷ []) long = absurd (omega arith)
first_eight (a ∷ b ∷ []) long = absurd (omega arith)
first_eight (a ∷ b ∷ c ∷ []) long = absurd (omega arith)
first_eight (a ∷ b ∷ c ∷ d ∷ []) long = absurd (omega arith)
first_eight (a ∷ b ∷ c ∷ d ∷ e ∷ []) long = absurd (omega arith)
first_eight (a ∷ b ∷ c ∷ d ∷ e ∷ f ∷ []) long = absurd (omega arith)
first_eight (a ∷ b ∷ c ∷ d ∷ e ∷ f ∷ g ∷ []) long = absurd (omega arith)
first_eight (a ∷ b ∷ c ∷ d ∷ e ∷ f ∷ g ∷ h ∷ rest) long = refl

same_bytes : (o r s : ℕ) (offset offset' imm imm' : List ℕ) → r ≡ s → offset ≡ offset' → imm ≡ imm' → o ∷ r ∷ (offset ++ imm) ≡ o ∷ s ∷ (offset' ++ imm')
same_bytes o r s offset offset' imm imm' p q t = rw (p, q, t) refl

-- Eight bytes are written back from their fields.
pub bytes_back : (bytes : List ℕ) → 8 ≤ length bytes → ((i : ℕ) → get_or bytes i 0 < 256) → unit_bytes (fields_of bytes) ≡ take 8 bytes
bytes_back bytes long small =
    same_bytes _ _ _ _ _ _ _ registers
    (le_bytes_2 (slice_index bytes 2 ∷ slice_index bytes 3 ∷ []) _ refl (two_bytes _ _ (small 2) (small 3)) refl)
    (le_bytes_4 (slice_index bytes 4 ∷ slice_index bytes 5 ∷ slice_index bytes 6 ∷ slice_index bytes 7 ∷ []) _ refl (four_bytes _ _ _ _ (small 4) (small 5) (small 6) (small 7)) refl)
    ∙ sym (first_eight bytes long)
  where
    registers : slice_index bytes 1 % 16 + 16 * (slice_index bytes 1 / 16) ≡ slice_index bytes 1
    registers = omega arith
