-- What is known of registers is well-formed, and contains the registers' values.
use Rattle.std.proofs.Common.{ℕ, zero, suc, ◌^◌, ◌<◌, List, [], ◌∷◌, arith}
use Rattle.std.specs.Prelude.{slice_set}
use Rattle.std.specs.Int.{w64, cast_unsigned}
use Rattle.word.specs.declared.Operation.{Operation}
use Rattle.word.specs.declared.Operation.TheVariants.{Add, Sub, Mul, Div, SignedDiv, Or, And, ShiftLeft, ShiftRight, Mod, SignedMod, Xor, Move, ArithmeticShiftRight}
use Rattle.insn.specs.declared.insn.Operand.{Operand}
use Rattle.insn.specs.declared.insn.Operand.TheVariants.{Register, Immediate}
use Rattle.semantics.specs.declared.value.Value.{Value}
use Rattle.semantics.specs.State.{value_at, operand_value}
use Rattle.semantics.specs.Step.{first_operand}
use Rattle.absval.specs.declared.value.AbsVal.{AbsVal}
use Rattle.absval.specs.Contains.{Contains}
use Rattle.verify.specs.Describes.{RegistersDescribe}
use Rattle.verify.specs.Registers.{known_at, operand_known, first_known}
use Rattle.absval.proofs.SetRows.{single_set, single_of}
use Rattle.absval.proofs.ValueRows.{IsWell}

abbrev pub AllWell : List AbsVal → Type 0
AllWell [] = Unit {0}
AllWell (a ∷ known) = IsWell a × AllWell known

pub meant_at : (known : List AbsVal) (r : ℕ) → AllWell known → IsWell (known_at known r)
meant_at [] r all = tt
meant_at (a ∷ known) zero all = all.0
meant_at (a ∷ known) (suc r) all = meant_at known r all.1

pub stands_at : (known : List AbsVal) (vs : List Value) (r : ℕ) → RegistersDescribe known vs → Contains (known_at known r) (value_at vs r)
stands_at [] [] r z = tt
stands_at [] (v ∷ vs) r z = absurd z
stands_at (a ∷ known) [] r z = absurd z
stands_at (a ∷ known) (v ∷ vs) zero z = z.0
stands_at (a ∷ known) (v ∷ vs) (suc r) z = stands_at known vs r z.1

pub all_set : (known : List AbsVal) (r : ℕ) (a : AbsVal) → AllWell known → IsWell a → AllWell (slice_set known r a)
all_set [] r a all h = tt
all_set (b ∷ known) zero a all h = (h, all.1)
all_set (b ∷ known) (suc r) a all h = (all.0, all_set known r a all.1 h)

-- ---- operands

-- An immediate number is a 64-bit number.
abbrev pub IsWord : Operand → Type 0
IsWord (Register r) = Unit {0}
IsWord (Immediate n) = cast_unsigned w64 n < 2 ^ 64

pub operand_meant : (known : List AbsVal) (operand : Operand) → IsWord operand → AllWell known → IsWell (operand_known known operand)
operand_meant known (Register r) fits all = meant_at known r all
operand_meant known (Immediate n) fits all = single_set (cast_unsigned w64 n) fits

pub operand_stands : (known : List AbsVal) (vs : List Value) (operand : Operand) → IsWord operand → RegistersDescribe known vs → Contains (operand_known known operand) (operand_value vs operand)
operand_stands known vs (Register r) fits z = stands_at known vs r z
operand_stands known vs (Immediate n) fits z = single_of (cast_unsigned w64 n) fits

pub first_meant : (known : List AbsVal) (operation : Operation) (dst : ℕ) → AllWell known → IsWell (first_known known operation dst)
first_meant known Move dst all = single_set 0 (omega arith)
first_meant known operation dst all = meant_at known dst all

pub first_stands : (known : List AbsVal) (vs : List Value) (operation : Operation) (dst : ℕ) → RegistersDescribe known vs →
    Contains (first_known known operation dst) (first_operand operation (value_at vs dst))
first_stands known vs Move dst z = single_of 0 (omega arith)
first_stands known vs Add dst z = stands_at known vs dst z
first_stands known vs Sub dst z = stands_at known vs dst z
first_stands known vs Mul dst z = stands_at known vs dst z
first_stands known vs Div dst z = stands_at known vs dst z
first_stands known vs SignedDiv dst z = stands_at known vs dst z
first_stands known vs Or dst z = stands_at known vs dst z
first_stands known vs And dst z = stands_at known vs dst z
first_stands known vs ShiftLeft dst z = stands_at known vs dst z
first_stands known vs ShiftRight dst z = stands_at known vs dst z
first_stands known vs Mod dst z = stands_at known vs dst z
first_stands known vs SignedMod dst z = stands_at known vs dst z
first_stands known vs Xor dst z = stands_at known vs dst z
first_stands known vs ArithmeticShiftRight dst z = stands_at known vs dst z
