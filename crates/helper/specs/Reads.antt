-- Defines the registers that an instruction reads (RFC 9669, sections 4 and 5). A call reads those in which its helper
-- takes arguments.
use Rattle.std.specs.Prelude.{ℕ, List, [], ◌∷◌, Option, Some, None}
use Rattle.word.specs.declared.Operation.{Operation}
use Rattle.word.specs.declared.Operation.TheVariants.{Move}
use Rattle.insn.specs.declared.insn.Insn.{Insn}
use Rattle.insn.specs.declared.insn.Insn.TheVariants.{Arithmetic, Negate, SignExtend, Swap, Branch, Load, LoadSigned, Store, Call, Exit}
use Rattle.insn.specs.declared.insn.Operand.{Operand}
use Rattle.insn.specs.declared.insn.Operand.TheVariants.{Register, Immediate}
use Rattle.semantics.specs.declared.request.Helper.{Helper}
use Rattle.semantics.specs.Call.{helper_of}
use Rattle.helper.specs.declared.argument.Argument.{Argument}
use Rattle.helper.specs.Table.{arguments_of}

-- Returns the register that an operand reads, if it is one.
abbrev pub of_operand : Operand → Option ℕ
of_operand (Register r) = Some r
of_operand (Immediate n) = None

-- Returns `dst` if the operation reads it. A move does not.
abbrev pub of_first : Operation → ℕ → Option ℕ
of_first Move dst = None
of_first _ dst = Some dst

-- Returns the register `r`, if the helper takes an argument there.
abbrev pub of_argument : ℕ → Option Argument → Option ℕ
of_argument r None = None
of_argument r (Some argument) = Some r

-- Returns the registers in which three arguments are taken, of r1, r2 and r3.
abbrev pub of_arguments : List (Option Argument) → List (Option ℕ)
of_arguments (first ∷ second ∷ third ∷ []) = of_argument 1 first ∷ of_argument 2 second ∷ of_argument 3 third ∷ []
of_arguments _ = None ∷ None ∷ None ∷ []

-- Returns the registers in which a helper takes its arguments.
abbrev pub of_helper : Option Helper → List (Option ℕ)
of_helper None = None ∷ None ∷ None ∷ []
of_helper (Some helper) = of_arguments (arguments_of helper)

-- Returns the registers that an instruction reads, at most three, in the order in which the verifier checks that they
-- are set.
abbrev pub read_by : Insn → List (Option ℕ)
read_by (Arithmetic w operation dst operand) = of_first operation dst ∷ of_operand operand ∷ None ∷ []
read_by (Negate w dst) = Some dst ∷ None ∷ None ∷ []
read_by (SignExtend w part dst src) = Some src ∷ None ∷ None ∷ []
read_by (Swap order size dst) = Some dst ∷ None ∷ None ∷ []
read_by (Branch w condition dst operand distance) = Some dst ∷ of_operand operand ∷ None ∷ []
read_by (Load size dst base offset) = Some base ∷ None ∷ None ∷ []
read_by (LoadSigned part dst base offset) = Some base ∷ None ∷ None ∷ []
read_by (Store size base offset source) = Some base ∷ of_operand source ∷ None ∷ []
read_by (Call number) = of_helper (helper_of number)
read_by Exit = Some 0 ∷ None ∷ None ∷ []
read_by _ = None ∷ None ∷ None ∷ []
