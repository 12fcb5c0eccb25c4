-- Instructions as they are written: a mnemonic and its operands.
use Rattle.std.specs.Prelude.{ℕ, ◌^◌, List, [], ◌∷◌, if◌then◌else◌, Option, Some, None, Result, Ok, slice_index}
use Rattle.std.specs.Option.{ok_or}
use Rattle.word.specs.declared.Width.{Width}
use Rattle.word.specs.declared.Condition.{Condition}
use Rattle.insn.specs.declared.insn.Operand.{Operand}
use Rattle.insn.specs.declared.insn.Operand.TheVariants as seconds
use Rattle.insn.specs.declared.insn.Insn.{Insn}
use Rattle.insn.specs.declared.insn.Insn.TheVariants as insns
use Rattle.insn.specs.Insn.{IsWell}
use Rattle.asm.specs.declared.mnemonic.Mnemonic.{Mnemonic}
use Rattle.asm.specs.declared.mnemonic.Mnemonic.TheVariants as words
use Rattle.asm.specs.declared.fault.AsmFault.{AsmFault}
use Rattle.asm.specs.declared.fault.AsmFault.TheVariants as faults
use Rattle.asm.specs.Faults.{◌>>=◌}
use Rattle.asm.specs.Table.{mnemonic_of}
use Rattle.asm.specs.Helper.{helper_of}
use Rattle.asm.specs.Number.{number_of, signed_within, bits_within}
use Rattle.asm.specs.Operand.{register_of, raw_of, fitted, place_of, Goal, goal_of, is_letter}

-- An instruction as it is read from a line. The distance of its jump may not be known yet.
pub data Source : Type 0 where
  Plain : Insn → Source
  Jump : Goal → Source
  LongJump : Goal → Source
  Branch : Width → Condition → ℕ → Operand → Goal → Source

-- States that the instruction is not a sign extension from 32 to 32 bits.
abbrev pub IsWellSource : Source → Type 0
IsWellSource (Plain insn) = IsWell insn
IsWellSource (Jump goal) = Unit {0}
IsWellSource (LongJump goal) = Unit {0}
IsWellSource (Branch width condition dst operand goal) = Unit {0}

-- Returns the empty list, if there are no operands.
unfoldable pub none_of : List (List ℕ) → Option (List ℕ)
none_of [] = Some []
none_of (a ∷ rest) = None

-- Returns the operand, if there is exactly one.
unfoldable pub one_of : List (List ℕ) → Option (List ℕ)
one_of [] = None
one_of (a ∷ []) = Some a
one_of (a ∷ b ∷ rest) = None

-- Returns the operands, if there are exactly two.
unfoldable pub two_of : List (List ℕ) → Option (List ℕ × List ℕ)
two_of [] = None
two_of (a ∷ []) = None
two_of (a ∷ b ∷ []) = Some (a, b)
two_of (a ∷ b ∷ c ∷ rest) = None

-- Returns the operands, if there are exactly three.
unfoldable pub three_of : List (List ℕ) → Option (List ℕ × List ℕ × List ℕ)
three_of [] = None
three_of (a ∷ []) = None
three_of (a ∷ b ∷ []) = None
three_of (a ∷ b ∷ c ∷ []) = Some (a, b, c)
three_of (a ∷ b ∷ c ∷ d ∷ rest) = None

-- Returns the instruction of a mnemonic and its operands. The number and kinds of the operands are checked first (A3),
-- then their ranges (A6).
abbrev pub source_of : Mnemonic → List (List ℕ) → Result Source AsmFault
source_of (words.Arithmetic width operation) operands =
    ok_or (two_of operands) faults.Operand >>= λ o.
    ok_or (register_of o.0) faults.Operand >>= λ dst.
    ok_or (raw_of o.1) faults.Operand >>= λ raw.
    ok_or (fitted raw) faults.Range >>= λ operand.
    Ok (Plain (insns.Arithmetic width operation dst operand))
source_of (words.Negate width) operands =
    ok_or (one_of operands) faults.Operand >>= λ a.
    ok_or (register_of a) faults.Operand >>= λ dst.
    Ok (Plain (insns.Negate width dst))
source_of (words.SignExtend width part) operands =
    ok_or (two_of operands) faults.Operand >>= λ o.
    ok_or (register_of o.0) faults.Operand >>= λ dst.
    ok_or (register_of o.1) faults.Operand >>= λ src.
    Ok (Plain (insns.SignExtend width part dst src))
source_of (words.Swap order bytes) operands =
    ok_or (one_of operands) faults.Operand >>= λ a.
    ok_or (register_of a) faults.Operand >>= λ dst.
    Ok (Plain (insns.Swap order bytes dst))
source_of words.LoadImmediate operands =
    ok_or (two_of operands) faults.Operand >>= λ o.
    ok_or (register_of o.0) faults.Operand >>= λ dst.
    ok_or (number_of o.1) faults.Operand >>= λ n.
    ok_or (bits_within n) faults.Range >>= λ number.
    Ok (Plain (insns.LoadImmediate dst number))
source_of words.Jump operands =
    ok_or (one_of operands) faults.Operand >>= λ a.
    ok_or (goal_of a) faults.Operand >>= λ goal.
    Ok (Jump goal)
source_of words.LongJump operands =
    ok_or (one_of operands) faults.Operand >>= λ a.
    ok_or (goal_of a) faults.Operand >>= λ goal.
    Ok (LongJump goal)
source_of (words.Branch width condition) operands =
    ok_or (three_of operands) faults.Operand >>= λ o.
    ok_or (register_of o.0) faults.Operand >>= λ dst.
    ok_or (raw_of o.1) faults.Operand >>= λ raw.
    ok_or (goal_of o.2) faults.Operand >>= λ goal.
    ok_or (fitted raw) faults.Range >>= λ operand.
    Ok (Branch width condition dst operand goal)
source_of (words.Load bytes) operands =
    ok_or (two_of operands) faults.Operand >>= λ o.
    ok_or (register_of o.0) faults.Operand >>= λ dst.
    ok_or (place_of o.1) faults.Operand >>= λ place.
    ok_or (signed_within (2 ^ 15) place.1) faults.Range >>= λ offset.
    Ok (Plain (insns.Load bytes dst place.0 offset))
source_of (words.LoadSigned part) operands =
    ok_or (two_of operands) faults.Operand >>= λ o.
    ok_or (register_of o.0) faults.Operand >>= λ dst.
    ok_or (place_of o.1) faults.Operand >>= λ place.
    ok_or (signed_within (2 ^ 15) place.1) faults.Range >>= λ offset.
    Ok (Plain (insns.LoadSigned part dst place.0 offset))
source_of (words.StoreRegister bytes) operands =
    ok_or (two_of operands) faults.Operand >>= λ o.
    ok_or (place_of o.0) faults.Operand >>= λ place.
    ok_or (register_of o.1) faults.Operand >>= λ src.
    ok_or (signed_within (2 ^ 15) place.1) faults.Range >>= λ offset.
    Ok (Plain (insns.Store bytes place.0 offset (seconds.Register src)))
source_of (words.StoreNumber bytes) operands =
    ok_or (two_of operands) faults.Operand >>= λ o.
    ok_or (place_of o.0) faults.Operand >>= λ place.
    ok_or (number_of o.1) faults.Operand >>= λ n.
    ok_or (signed_within (2 ^ 15) place.1) faults.Range >>= λ offset.
    ok_or (signed_within (2 ^ 31) n) faults.Range >>= λ number.
    Ok (Plain (insns.Store bytes place.0 offset (seconds.Immediate number)))
source_of words.Call operands =
    ok_or (one_of operands) faults.Operand >>= λ a.
    if is_letter (slice_index a 0)
    then (ok_or (helper_of a) faults.Operand >>= λ helper. Ok (Plain (insns.Call helper)))
    else (ok_or (number_of a) faults.Operand >>= λ n. ok_or (signed_within (2 ^ 31) n) faults.Range >>= λ helper. Ok
    (Plain (insns.Call helper)))
source_of words.Exit operands = ok_or (none_of operands) faults.Operand >>= λ o. Ok (Plain insns.Exit)

-- Returns the instruction that these words are, if there are any. The mnemonic is checked first (A2), then the
-- operands.
abbrev pub statement_of : List (List ℕ) → Result (Option Source) AsmFault
statement_of [] = Ok None
statement_of (word ∷ operands) =
    ok_or (mnemonic_of word) faults.Mnemonic >>= λ m. source_of m operands >>= λ source. Ok (Some source)
