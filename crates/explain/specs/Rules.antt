-- The verifier's rule by which it knows little of an instruction's result, or learns nothing from a test (own).
use Rattle.std.specs.Prelude.{ℕ, ◌-◌, ◌==◌, ◌^◌, ◌&&◌, ◌||◌, nat_lt, Bool, true, false, if◌then◌else◌, List, [], ◌++◌, Option, Some, None, codes, decimal}
use Rattle.word.specs.declared.Width.{Width}
use Rattle.word.specs.declared.Width.TheVariants.{W64}
use Rattle.word.specs.declared.Operation.{Operation}
use Rattle.word.specs.declared.Operation.TheVariants.{Add, Sub, Mul, ShiftLeft, ArithmeticShiftRight, Move}
use Rattle.word.specs.declared.Condition.{Condition}
use Rattle.word.specs.declared.Condition.TheVariants.{SignedAbove, SignedAtLeast, SignedBelow, SignedAtMost}
use Rattle.word.specs.Arithmetic.{bits_of}
use Rattle.insn.specs.declared.insn.Insn.{Insn}
use Rattle.insn.specs.declared.insn.Insn.TheVariants.{Arithmetic, Negate, SignExtend, Load, LoadSigned, Call, Branch}
use Rattle.insn.specs.declared.insn.Operand.{Operand}
use Rattle.insn.specs.declared.insn.Operand.TheVariants.{Register, Immediate}
use Rattle.explain.specs.declared.rules.Passing.{Passing}
use Rattle.explain.specs.declared.rules.Passing.TheVariants.{Test, Copied}
use Rattle.absval.specs.declared.number_set.NumberSet.{NumberSet}
use Rattle.absval.specs.NumberSets.{greatest}
use Rattle.absval.specs.declared.value.AbsVal.{AbsVal}
use Rattle.absval.specs.declared.value.AbsVal.TheVariants.{Unset, Number, Pointer}

-- ---- the rule for an instruction that sets a register

-- Returns whether a result of the operation may be too large for its width, and then wraps around.
abbrev pub may_wrap : Operation → Bool
may_wrap Add = true
may_wrap Sub = true
may_wrap Mul = true
may_wrap ShiftLeft = true
may_wrap operation = false

-- Returns whether the range contains every number of this many bits.
abbrev pub is_all : ℕ → ℕ × ℕ → Bool
is_all bits p = p.0 == 0 && p.1 == 2 ^ bits - 1

-- Returns the rule by which little is known of a result that is a number.
abbrev pub number_rule : Insn → NumberSet → List ℕ
number_rule (Arithmetic w ArithmeticShiftRight dst operand) n =
    codes ": the sign is copied, so numbers on both sides of 2^63 may give any number"
number_rule (Arithmetic w operation dst operand) n =
    if may_wrap operation && is_all (bits_of w) n.range
    then codes ": a result that may wrap around is any number of its width" else []
number_rule (Call number) n = codes ": of an answer only its range is known"
number_rule (Negate w dst) n = codes ": 0 stays 0, and numbers above it become numbers just below 2^64"
number_rule (SignExtend w part dst src) n = codes ": the sign is extended, so the result is small or just below 2^64"
number_rule (LoadSigned part dst base offset) n =
    codes ": the sign is extended, so the result is small or just below 2^64"
number_rule (Load size dst base offset) n = codes ": a load gives any number of its size"
number_rule i n = []

-- Returns the rule by which a register is unset after an instruction.
abbrev pub unset_rule : Insn → List ℕ
unset_rule (Call number) = codes ": after a call r1 to r5 are unset, so keep values in r6 to r9"
unset_rule i = []

-- Returns the rule by which little is known of a result. The value is what is known of it.
abbrev pub rule_text : Insn → AbsVal → List ℕ
rule_text i Unset = unset_rule i
rule_text i (Number n) = number_rule i n
rule_text i (Pointer region offsets) = []

-- ---- the rule for a test that says nothing about a register

-- Returns whether the condition compares its numbers as signed.
abbrev pub is_signed : Condition → Bool
is_signed SignedAbove = true
is_signed SignedAtLeast = true
is_signed SignedBelow = true
is_signed SignedAtMost = true
is_signed condition = false

-- Returns the exponent of a test's limit. The verifier learns something about a number from the test only if the number
-- is known to be below 2 to this power.
abbrev pub limit_bits : Width → Bool → ℕ
limit_bits w true = bits_of w - 1
limit_bits w false = bits_of w

-- Returns whether the value may be a number of 2 to the power of `bits` or more.
abbrev pub is_past : ℕ → AbsVal → Bool
is_past bits (Number n) = nat_lt (2 ^ bits - 1) (greatest n)
is_past bits value = false

-- Returns whether the operand is register `r`.
abbrev pub is_operand : ℕ → Operand → Bool
is_operand r (Register src) = src == r
is_operand r (Immediate n) = false

-- Returns why the verifier learns nothing about `r` from an instruction: it tests `r`, which may be past the limit of
-- the test, or it copies `r`, and a test of the copy says nothing about `r`.
abbrev pub passed_by : ℕ → Insn → AbsVal → Option Passing
passed_by r (Branch w condition dst operand distance) value =
    if (dst == r || is_operand r operand) && is_past (limit_bits w (is_signed condition)) value
    then Some (Test (limit_bits w (is_signed condition))) else None
passed_by r (Arithmetic W64 Move dst (Register src)) value = if src == r then Some (Copied dst) else None
passed_by r i value = None

-- The text that a test says nothing about a register. The exponent of its limit must follow.
unfoldable pub tested_text : List ℕ
tested_text = codes ": such a test narrows only numbers that are known to be below 2^"

-- Returns the text that a test or a copy says nothing about a register.
abbrev pub passing_text : Passing → List ℕ
passing_text (Test bits) = tested_text ++ decimal bits
passing_text (Copied dst) = codes ": a test of r" ++ decimal dst ++ codes " does not narrow it"
