-- The bytes of a well-formed instruction begin with its units, so no other instruction begins there.
use Rattle.std.proofs.Common.{◌≡◌, ◌≤◌, ◌<◌, ◌+◌, ◌*◌, ◌/◌, ◌%◌, ◌^◌, ℕ, ℤ, List, [], ◌∷◌, ◌++◌, length, take, drop, get_or, refl, sym, ap, subst, ◌∙◌, arith}
use Rattle.std.proofs.lemmas.List.{append_cancel_left, get_or-drop}
use Rattle.std.proofs.Math.Facts.{Fits-of_z, Fits-lt-pow}
use Rattle.std.proofs.Math.Seq.{take-add}
use Rattle.std.specs.Prelude.{FitsSigned}
use Rattle.std.specs.List.{flat_map, AllByRecursion}
use Rattle.std.specs.Int.{w16, w32, cast_unsigned}
use Rattle.word.specs.declared.Operation.{Operation}
use Rattle.word.specs.declared.Operation.TheVariants as op
use Rattle.word.specs.declared.Narrow.{Narrow}
use Rattle.word.specs.declared.Narrow.TheVariants as narrow
use Rattle.word.specs.declared.SwapSize.{SwapSize}
use Rattle.word.specs.declared.SwapSize.TheVariants as swap
use Rattle.word.specs.Arithmetic.{swapped_bytes}
use Rattle.insn.specs.declared.insn.Insn.{Insn}
use Rattle.insn.specs.declared.insn.Insn.TheVariants as i
use Rattle.insn.specs.declared.insn.Operand.TheVariants.{Register, Immediate}
use Rattle.insn.specs.Insn.{IsInsn, units_of, part_bytes}
use Rattle.codec.specs.declared.fields.Fields.{Fields}
use Rattle.codec.specs.Spelling.{spelling, operation_offset, unit_bytes, instruction_bytes}
use Rattle.codec.specs.Reading.{fields_of, AreUnits}
use Rattle.codec.proofs.Reading.{same_insn}
use Rattle.codec.proofs.UnitLemmas.{IsUnit, fields_back, bytes_back}

-- An instruction has as many units as `units_of` says.
pub length-spelling : (insn : Insn) → length (spelling insn) ≡ units_of insn
length-spelling (i.Arithmetic w o dst (Immediate n)) = refl
length-spelling (i.Arithmetic w o dst (Register src)) = refl
length-spelling (i.Negate w dst) = refl
length-spelling (i.SignExtend w part dst src) = refl
length-spelling (i.Swap order size dst) = refl
length-spelling (i.LoadImmediate dst number) = refl
length-spelling (i.Jump distance) = refl
length-spelling (i.LongJump distance) = refl
length-spelling (i.Branch w c dst (Immediate n) distance) = refl
length-spelling (i.Branch w c dst (Register src) distance) = refl
length-spelling (i.Load size dst base offset) = refl
length-spelling (i.LoadSigned part dst base offset) = refl
length-spelling (i.Store size base offset (Immediate n)) = refl
length-spelling (i.Store size base offset (Register src)) = refl
length-spelling (i.Call helper) = refl
length-spelling i.Exit = refl

-- An instruction has one unit, or two if it is the wide one.
pub units_few : (insn : Insn) → (1 ≤ units_of insn) × (units_of insn ≤ 2)
units_few (i.Arithmetic w o dst operand) = (omega arith, omega arith)
units_few (i.Negate w dst) = (omega arith, omega arith)
units_few (i.SignExtend w part dst src) = (omega arith, omega arith)
units_few (i.Swap order size dst) = (omega arith, omega arith)
units_few (i.LoadImmediate dst number) = (omega arith, omega arith)
units_few (i.Jump distance) = (omega arith, omega arith)
units_few (i.LongJump distance) = (omega arith, omega arith)
units_few (i.Branch w c dst operand distance) = (omega arith, omega arith)
units_few (i.Load size dst base offset) = (omega arith, omega arith)
units_few (i.LoadSigned part dst base offset) = (omega arith, omega arith)
units_few (i.Store size base offset source) = (omega arith, omega arith)
units_few (i.Call helper) = (omega arith, omega arith)
units_few i.Exit = (omega arith, omega arith)

small_offset : (o : Operation) → operation_offset o < 2 ^ 16
small_offset op.Add = omega arith
small_offset op.Sub = omega arith
small_offset op.Mul = omega arith
small_offset op.Div = omega arith
small_offset op.SignedDiv = omega arith
small_offset op.Or = omega arith
small_offset op.And = omega arith
small_offset op.ShiftLeft = omega arith
small_offset op.ShiftRight = omega arith
small_offset op.Mod = omega arith
small_offset op.SignedMod = omega arith
small_offset op.Xor = omega arith
small_offset op.Move = omega arith
small_offset op.ArithmeticShiftRight = omega arith

small_part : (part : Narrow) → 8 * part_bytes part < 2 ^ 16
small_part narrow.Byte = omega arith
small_part narrow.Half = omega arith
small_part narrow.Word = omega arith

small_swap : (size : SwapSize) → 8 * swapped_bytes size < 2 ^ 32
small_swap swap.Half = omega arith
small_swap swap.Word = omega arith
small_swap swap.Double = omega arith

half : (z : ℤ) → FitsSigned w16 z → cast_unsigned w16 z < 2 ^ 16
half z fits = Fits-lt-pow {w = w16} (Fits-of_z {w = w16} fits)

word : (z : ℤ) → FitsSigned w32 z → cast_unsigned w32 z < 2 ^ 32
word z fits = Fits-lt-pow {w = w32} (Fits-of_z {w = w32} fits)

unit : (f : Fields) → f.dst ≤ 10 → f.src ≤ 10 → f.offset < 2 ^ 16 → f.imm < 2 ^ 32 → IsUnit f
unit f d s o m = record { dst = omega arith; src = omega arith; offset = o; imm = m }

-- The fields of a well-formed instruction fit in their bits.
pub spelling_fits : (insn : Insn) → IsInsn insn → AllByRecursion IsUnit (spelling insn)
spelling_fits (i.Arithmetic w o dst (Immediate n)) p = (unit _ p.0 (omega arith) (small_offset o) (word n p.1), tt)
spelling_fits (i.Arithmetic w o dst (Register src)) p = (unit _ p.0 p.1 (small_offset o) (omega arith), tt)
spelling_fits (i.Negate w dst) p = (unit _ p (omega arith) (omega arith) (omega arith), tt)
spelling_fits (i.SignExtend w part dst src) p = (unit _ p.1 p.2 (small_part part) (omega arith), tt)
spelling_fits (i.Swap order size dst) p = (unit _ p (omega arith) (omega arith) (small_swap size), tt)
spelling_fits (i.LoadImmediate dst number) p =
    let low : number % 2 ^ 32 < 2 ^ 32 = omega arith in
    let high : number / 2 ^ 32 < 2 ^ 32 = omega (arith, p.1) in
    (unit _ p.0 (omega arith) (omega arith) low, (unit _ (omega arith) (omega arith) (omega arith) high, tt))
spelling_fits (i.Jump distance) p = (unit _ (omega arith) (omega arith) (half distance p) (omega arith), tt)
spelling_fits (i.LongJump distance) p = (unit _ (omega arith) (omega arith) (omega arith) (word distance p), tt)
spelling_fits (i.Branch w c dst (Immediate n) distance) p = (unit _ p.0 (omega arith) (half distance p.2) (word n p.1), tt)
spelling_fits (i.Branch w c dst (Register src) distance) p = (unit _ p.0 p.1 (half distance p.2) (omega arith), tt)
spelling_fits (i.Load size dst base offset) p = (unit _ p.0 p.1 (half offset p.2) (omega arith), tt)
spelling_fits (i.LoadSigned part dst base offset) p = (unit _ p.0 p.1 (half offset p.2) (omega arith), tt)
spelling_fits (i.Store size base offset (Immediate n)) p = (unit _ p.0 (omega arith) (half offset p.1) (word n p.2), tt)
spelling_fits (i.Store size base offset (Register src)) p = (unit _ p.0 p.2 (half offset p.1) (omega arith), tt)
spelling_fits (i.Call helper) p = (unit _ (omega arith) (omega arith) (omega arith) (word helper p), tt)
spelling_fits i.Exit p = (unit _ (omega arith) (omega arith) (omega arith) (omega arith), tt)

-- One or two units are read back from the beginning of bytes.
front : (fs : List Fields) (rest : List ℕ) → 1 ≤ length fs → length fs ≤ 2 → AllByRecursion IsUnit fs →
    AreUnits fs (fields_of (flat_map unit_bytes fs ++ rest)) (drop 8 (flat_map unit_bytes fs ++ rest))
front [] rest some few fits = absurd (omega arith)
front (f ∷ []) rest some few fits = sym (fields_back f rest fits.0)
front (f ∷ g ∷ []) rest some few fits = (sym (fields_back f (unit_bytes g ++ rest) fits.0), omega arith, sym (fields_back g rest fits.1.0))
front (f ∷ g ∷ h ∷ fs) rest some few fits = absurd (omega arith)

pub insn_front : (insn : Insn) (rest : List ℕ) → IsInsn insn → AreUnits (spelling insn) (fields_of (instruction_bytes insn ++ rest)) (drop 8 (instruction_bytes insn ++ rest))
insn_front insn rest p =
    let n = length-spelling insn in
    let few = units_few insn in
    front (spelling insn) rest (omega arith) (omega arith) (spelling_fits insn p)

-- The first two units of bytes, whatever they are.
abbrev two : List ℕ → List Fields
two bytes = fields_of bytes ∷ fields_of (drop 8 bytes) ∷ []

two_front : (fs : List Fields) (bytes : List ℕ) → AreUnits fs (fields_of bytes) (drop 8 bytes) → (more : List Fields) × (two bytes ≡ fs ++ more)
two_front [] bytes units = absurd units
two_front (f ∷ []) bytes units = (fields_of (drop 8 bytes) ∷ [], rw units refl)
two_front (f ∷ g ∷ []) bytes units = ([], rw (units.0, units.2) refl)
two_front (f ∷ g ∷ h ∷ fs) bytes units = absurd units

-- If bytes begin with the bytes of two instructions, the two are the same.
pub same_front : (a b : Insn) (xs ys : List ℕ) → IsInsn a → IsInsn b → instruction_bytes a ++ xs ≡ instruction_bytes b ++ ys → a ≡ b
same_front a b xs ys p q e =
    let left = two_front (spelling a) (instruction_bytes a ++ xs) (insn_front a xs p) in
    let right = two_front (spelling b) (instruction_bytes b ++ ys) (insn_front b ys q) in
    same_insn a b left.0 right.0 p q (sym left.1 ∙ ap two e ∙ right.1)

-- The bytes after them are the same too.
pub same_behind : (a b : Insn) (xs ys : List ℕ) → a ≡ b → instruction_bytes a ++ xs ≡ instruction_bytes b ++ ys → xs ≡ ys
same_behind a b xs ys same e = append_cancel_left (instruction_bytes a) xs ys (e ∙ ap (λ (i : Insn). instruction_bytes i ++ ys) (sym same))

length-units : (fs : List Fields) → length (flat_map unit_bytes fs) ≡ 8 * length fs
length-units [] = refl
length-units (f ∷ fs) = omega (arith, length-units fs)

pub length-instruction_bytes : (insn : Insn) → length (instruction_bytes insn) ≡ 8 * units_of insn
length-instruction_bytes insn = length-units (spelling insn) ∙ ap (λ (n : ℕ). 8 * n) (length-spelling insn)

-- Bytes that are read as units are written by these units.
written : (fs : List Fields) (bytes : List ℕ) → 8 ≤ length bytes → ((k : ℕ) → get_or bytes k 0 < 256) → AreUnits fs (fields_of bytes) (drop 8 bytes) → take (8 * length fs) bytes ≡ flat_map unit_bytes fs
written [] bytes long small units = absurd units
written (f ∷ []) bytes long small units = sym (bytes_back bytes long small) ∙ ap unit_bytes (sym units)
written (f ∷ g ∷ []) bytes long small units =
    take-add 8 8 bytes ∙ ap (λ (xs : List ℕ). xs ++ take 8 (drop 8 bytes)) low ∙ ap (λ (xs : List ℕ). unit_bytes f ++ xs) high
  where
    behind : (k : ℕ) → get_or (drop 8 bytes) k 0 < 256
    behind k = subst (λ (n : ℕ). n < 256) (sym (get_or-drop 8 bytes k 0)) (small (8 + k))

    low : take 8 bytes ≡ unit_bytes f
    low = sym (bytes_back bytes long small) ∙ ap unit_bytes (sym units.0)

    high : take 8 (drop 8 bytes) ≡ unit_bytes g
    high = sym (bytes_back (drop 8 bytes) units.1 behind) ∙ ap unit_bytes (sym units.2)
written (f ∷ g ∷ h ∷ fs) bytes long small units = absurd units

pub insn_written : (insn : Insn) (bytes : List ℕ) → 8 ≤ length bytes → ((k : ℕ) → get_or bytes k 0 < 256) → AreUnits (spelling insn) (fields_of bytes) (drop 8 bytes) → take (8 * units_of insn) bytes ≡ instruction_bytes insn
insn_written insn bytes long small units = ap (λ (n : ℕ). take (8 * n) bytes) (sym (length-spelling insn)) ∙ written (spelling insn) bytes long small units
