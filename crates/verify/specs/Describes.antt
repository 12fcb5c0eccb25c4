-- Defines the concretization: the states that an abstract state describes (own).
use Rattle.std.specs.Prelude.{◌≡◌, List, Option, Some, None, length}
use Rattle.std.specs.List.{AllZip}
use Rattle.semantics.specs.declared.value.Value.{Value}
use Rattle.semantics.specs.State.{State}
use Rattle.absval.specs.declared.value.AbsVal.{AbsVal}
use Rattle.absval.specs.Contains.{Contains}
use Rattle.absmem.specs.Describes.{Describes as StackDescribes}
use Rattle.verify.specs.declared.state.AbsState.{AbsState}

-- States that what is known of each register includes its value.
abbrev pub RegistersDescribe : List AbsVal → List Value → Type 0
RegistersDescribe known registers = AllZip Contains known registers

-- States that the abstract state describes the state: its registers, and its 512 stack cells.
pub record Describes (a : AbsState) (s : State) : Type 0 where
  pub registers : RegistersDescribe a.registers s.registers
  pub stack : StackDescribes a.stack s.cells
  pub size : length s.cells ≡ 512

-- States that the verifier reaches the unit, a path leads there, and what is known there describes the state.
abbrev pub IsAsKnown : Option (Option AbsState) → State → Type 0
IsAsKnown (Some (Some a)) s = Describes a s
IsAsKnown (Some None) s = ⊥
IsAsKnown None s = ⊥
