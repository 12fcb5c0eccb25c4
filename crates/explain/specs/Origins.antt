-- The register from which a number of either sign was computed. A number has either sign if, read as signed, it may be
-- above or below 0. It is asked for only where no rule explains the sign (own).
use Rattle.std.specs.Prelude.{ℕ, zero, suc, is_none, Bool, true, false, if◌then◌else◌, List, Option, Some, None, [], option_map, option_and_then, slice_get}
use Rattle.std.specs.Option.{option_or}
use Rattle.word.specs.declared.Width.TheVariants.{W64}
use Rattle.word.specs.declared.Operation.TheVariants.{Add, ArithmeticShiftRight}
use Rattle.insn.specs.declared.insn.Insn.{Insn}
use Rattle.insn.specs.declared.insn.Insn.TheVariants.{Arithmetic}
use Rattle.insn.specs.declared.insn.Operand.TheVariants.{Register as Source}
use Rattle.insn.specs.Program.{instruction_at}
use Rattle.absval.specs.declared.value.AbsVal.{AbsVal}
use Rattle.absval.specs.declared.value.AbsVal.TheVariants.{Number}
use Rattle.absval.specs.Table.{in_a_row}
use Rattle.verify.specs.declared.state.AbsState.{AbsState}
use Rattle.verify.specs.Registers.{known_at}
use Rattle.reaching.specs.declared.mark.UnitMark.{UnitMark}
use Rattle.reaching.specs.declared.mark.UnitMark.TheVariants.{Sets}
use Rattle.reaching.specs.Marks.{KnownByUnit, known_by}
use Rattle.explain.specs.declared.sentence.Sentence.{Sentence}
use Rattle.explain.specs.declared.sentence.Sentence.TheVariants.{Register}
use Rattle.explain.specs.declared.sentence.RegisterMisuse.TheVariants.{Computed}
use Rattle.helper.specs.Reads.{of_first, of_operand}

-- Returns whether the value is a number that, read as signed, may be above or below 0.
abbrev pub is_either_sign : AbsVal → Bool
is_either_sign (Number n) = is_none (in_a_row n.range)
is_either_sign value = false

-- Returns the register if its number may be above or below 0.
abbrev pub number_at : List AbsVal → Option ℕ → Option ℕ
number_at registers None = None
number_at registers (Some r) = if is_either_sign (known_at registers r) then Some r else None

-- Returns the first register that an arithmetic instruction reads and whose number may be above or below 0. `arsh` is
-- explained by a rule of its own.
abbrev pub computed_of : Insn → List AbsVal → Option ℕ
computed_of (Arithmetic w ArithmeticShiftRight dst operand) registers = None
computed_of (Arithmetic w operation dst operand) registers =
    option_or (number_at registers (of_first operation dst)) (number_at registers (of_operand operand))
computed_of i registers = None

-- Returns whether a unit is marked as setting the subject, the register or stack cell in question.
abbrev pub is_set : Option UnitMark → Bool
is_set (Some Sets) = true
is_set _ = false

-- Returns the last unit below `n` that is marked as setting the subject.
abbrev pub last_set : List UnitMark → ℕ → Option ℕ
last_set marks zero = None
last_set marks (suc n) = if is_set (slice_get marks n) then Some n else last_set marks n

-- Returns the register from which the instruction at `unit` computes its result, whose number may be above or below 0,
-- and `unit`.
abbrev pub origin_at : ℕ → Option Insn → Option AbsState → Option (ℕ × ℕ)
origin_at unit (Some i) (Some a) = option_map (λ r. (r, unit)) (computed_of i a.registers)
origin_at unit i known = None

-- Returns the register from which the subject was computed at the last unit that set it, and that unit.
abbrev pub origin_of : List Insn → KnownByUnit → List UnitMark → ℕ → Option (ℕ × ℕ)
origin_of program survey marks unit =
    option_and_then (λ n. origin_at n (instruction_at program n) (known_by (survey n))) (last_set marks unit)

-- Writes about an origin, which is a register and a unit, if there is one.
abbrev pub from_origin : (ℕ → ℕ → List ℕ) → Option (ℕ × ℕ) → List ℕ
from_origin tells None = []
from_origin tells (Some origin) = tells origin.0 origin.1

-- Returns the register of the number, if an instruction is rejected because it adds a pointer to a number.
abbrev pub summed : Insn → Sentence → Option ℕ
summed (Arithmetic W64 Add dst (Source src)) (Register (Computed r value)) = Some dst
summed i s = None

-- Returns the register of the number to which an instruction adds a pointer, if the number may be above or below 0.
abbrev pub other_number : Insn → Option AbsState → Sentence → Option ℕ
other_number i None s = None
other_number i (Some a) s = number_at a.registers (summed i s)
