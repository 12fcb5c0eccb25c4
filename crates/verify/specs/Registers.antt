-- Defines what is known of the registers, and how a conditional jump narrows it (own).
use Rattle.std.specs.Prelude.{ℕ, pos, ◌==◌, Bool, if◌then◌else◌, List, [], ◌∷◌, Option, Some, option_map, slice_index_or, slice_set}
use Rattle.std.specs.Int.{w64, cast_unsigned}
use Rattle.word.specs.declared.Width.{Width}
use Rattle.word.specs.declared.Operation.{Operation}
use Rattle.word.specs.declared.Operation.TheVariants.{Move}
use Rattle.word.specs.declared.Condition.{Condition}
use Rattle.word.specs.Arithmetic.{taken}
use Rattle.absval.specs.NumberSets.{single, refined}
use Rattle.insn.specs.declared.insn.Operand.{Operand}
use Rattle.insn.specs.declared.insn.Operand.TheVariants.{Register, Immediate}
use Rattle.semantics.specs.declared.value.Region.TheVariants.{Stack, Context}
use Rattle.absval.specs.declared.value.AbsVal.{AbsVal}
use Rattle.absval.specs.Table.{joined, immediate_known}
use Rattle.verify.specs.declared.comparison.Comparison.{Comparison}
use Rattle.absmem.specs.Tables.{table}
use Rattle.absval.specs.declared.value.AbsVal.TheVariants.{Unset, Number, Pointer}

-- Returns what is known of a register.
abbrev pub known_at : List AbsVal → ℕ → AbsVal
known_at known r = slice_index_or known r Unset

-- Returns what is known of an operand.
abbrev pub operand_known : List AbsVal → Operand → AbsVal
operand_known known (Register r) = known_at known r
operand_known known (Immediate n) = immediate_known n

-- Returns what is known of the value of `dst` before an operation on it. For a move, which does not read `dst`, returns
-- the number 0.
abbrev pub first_known : List AbsVal → Operation → ℕ → AbsVal
first_known known Move dst = Number (single 0)
first_known known _ dst = known_at known dst

-- Returns what is known of the registers at the entry: r1 points to the context and r10 to the end of the stack.
abbrev pub entry_known : List AbsVal
entry_known =
    Unset ∷ Pointer Context (pos 0, pos 0) ∷ Unset ∷ Unset ∷ Unset ∷ Unset ∷ Unset ∷ Unset ∷ Unset ∷ Unset
    ∷ Pointer Stack (pos 0, pos 0) ∷ []

-- Joins what is known of each register on two paths.
abbrev pub joined_all : List AbsVal → List AbsVal → List AbsVal
joined_all known other = table 11 (λ r. joined (known_at known r) (known_at other r))

-- ---- Conditional jumps. `way` says whether the jump is taken. No result means that this is impossible.

-- Narrows two compared values. Only numbers are narrowed.
abbrev pub refined_known : Width → Condition → Bool → AbsVal → AbsVal → Option (AbsVal × AbsVal)
refined_known w condition way (Number m) (Number n) =
    option_map (λ e. (Number e.0, Number e.1)) (refined w condition way m n)
refined_known w condition way a b = Some (a, b)

-- Narrows register `dst`, which is compared with a number. Only the low bits of the number that the jump's width uses
-- count.
abbrev pub number_edge : Width → Condition → Bool → List AbsVal → ℕ → ℕ → Option (List AbsVal)
number_edge w condition way known dst n =
    option_map (λ e. slice_set known dst e.0)
    (refined_known w condition way (known_at known dst) (Number (single (taken w n))))

-- Narrows two compared registers. Nothing is learned if they are the same.
abbrev pub register_edge : Width → Condition → Bool → List AbsVal → ℕ → ℕ → Option (List AbsVal)
register_edge w condition way known dst src =
    if dst == src then Some known
    else option_map (λ e. slice_set (slice_set known dst e.0) src e.1)
    (refined_known w condition way (known_at known dst) (known_at known src))

-- Narrows the registers that are compared: `dst` with an operand.
abbrev pub edge_by : Width → Condition → Bool → List AbsVal → ℕ → Operand → Option (List AbsVal)
edge_by w condition way known dst (Register src) = register_edge w condition way known dst src
edge_by w condition way known dst (Immediate n) = number_edge w condition way known dst (cast_unsigned w64 n)

-- Returns what is known of the registers if the jump is taken, or if it is not.
abbrev pub edge_known : Comparison → Bool → List AbsVal → Option (List AbsVal)
edge_known c way known = edge_by c.width c.condition way known c.dst c.operand
