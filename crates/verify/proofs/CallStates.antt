-- What calls do to states that an abstract state describes (own).
use Rattle.std.specs.Prelude.{ℕ, pos, ◌≡◌, ◌+◌, ◌*◌, ◌≤◌, List, ◌∷◌, drop, length, IsOk}
use Rattle.range.specs.Interval.{IsIn}
use Rattle.semantics.specs.declared.value.Value.{Value}
use Rattle.semantics.specs.declared.value.Value.TheVariants.{Unset, Number}
use Rattle.semantics.specs.declared.value.Cell.{Cell}
use Rattle.semantics.specs.declared.request.Helper.{Helper}
use Rattle.semantics.specs.declared.request.Helper.TheVariants.{BoardCopy, SendRow}
use Rattle.semantics.specs.State.{given}
use Rattle.semantics.specs.Memory.{stack_place, cells_at, bytes_in, with_words}
use Rattle.semantics.specs.Run.{IsContext}
use Rattle.absval.specs.declared.value.AbsVal.{AbsVal}
use Rattle.absval.specs.Contains.{Contains}
use Rattle.absmem.specs.Known.{Known}
use Rattle.absmem.specs.Describes.{Describes as StackDescribes}
use Rattle.verify.specs.declared.state.AbsState.{AbsState}
use Rattle.verify.specs.Describes.{RegistersDescribe}
use Rattle.verify.specs.Registers.{known_at}

-- The registers after a call that returns n.
abbrev pub values_behind : ℕ → List Value → List Value
values_behind n vs = Number n ∷ Unset ∷ Unset ∷ Unset ∷ Unset ∷ Unset ∷ drop 6 vs

-- For each returned number in the range, what is known describes the registers.
abbrev pub Puts : ℕ → ℕ → List AbsVal → List Value → Type 0
Puts lo hi known vs = (n : ℕ) → IsIn lo hi n → RegistersDescribe known (values_behind n vs)

-- The words fit into the stack at the pointer, and what is known describes the stack with them.
pub record WordsStand (new : Known) (cells : List Cell) (p : Value) (words : List ℕ) : Type 0 where
  pub room : IsOk (stack_place p (pos 0) (8 * length words))
  pub stack : StackDescribes new (with_words cells p words)
  pub size : length (with_words cells p words) ≡ 512

-- The words to copy are on the board, and then on the stack.
abbrev pub CopyStands : AbsVal → AbsVal → AbsVal → Known → Known → Type 0
CopyStands slots target counts old new = (cells : List Cell) (slot : ℕ) (p : Value) (words : List ℕ) → StackDescribes old cells → length cells ≡ 512 → Contains slots (Number slot) →
    Contains target p → Contains counts (Number (length words)) → (slot + length words ≤ 64) × WordsStand new cells p words

-- The orders that are read are bytes.
abbrev pub RowStands : AbsVal → AbsVal → Known → Type 0
RowStands source counts known = (context : List ℕ) (cells : List Cell) (p : Value) (count : ℕ) → IsContext context → StackDescribes known cells → length cells ≡ 512 →
    Contains source p → Contains counts (Number count) → IsOk (given (cells_at context cells p (pos 0) (4 * count)) bytes_in)

-- What a helper reads and writes at its pointer.
abbrev pub WindowStands : Helper → AbsState → Known → Type 0
WindowStands BoardCopy a new = CopyStands (known_at a.registers 1) (known_at a.registers 2) (known_at a.registers 3) a.stack new
WindowStands SendRow a new = (new ≡ a.stack) × RowStands (known_at a.registers 2) (known_at a.registers 3) a.stack
WindowStands _ a new = new ≡ a.stack
