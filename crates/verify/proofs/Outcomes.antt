-- Where an instruction leads, for abstract states (own).
use Rattle.std.specs.Prelude.{ℕ, ◌≡◌, ◌+◌, true, List}
use Rattle.insn.specs.declared.insn.Insn.{Insn}
use Rattle.insn.specs.Insn.{units_of}
use Rattle.semantics.specs.State.{State, Outcome, Next, Ask, Trap}
use Rattle.semantics.specs.State.{Exit as Exited}
use Rattle.semantics.specs.Call.{fits, resumed}
use Rattle.semantics.specs.Execution.{executed}
use Rattle.semantics.specs.Relay.{IsSetting, Relay}
use Rattle.verify.specs.declared.state.AbsState.{AbsState}
use Rattle.verify.specs.Describes.{Describes}

-- The state is at the unit, and described.
abbrev pub DescribesAt : AbsState → ℕ → State → Type 0
DescribesAt a unit t = (t.unit ≡ unit) × Describes a t

-- The program continues there, for every answer that fits.
abbrev pub GoesOn : AbsState → ℕ → Outcome → Type 0
GoesOn a unit (Next t) = DescribesAt a unit t
GoesOn a unit (Ask request t) = (answer : List ℕ) → fits request answer ≡ true → DescribesAt a unit (resumed request answer t)
GoesOn a unit (Exited r0 t) = ⊥
GoesOn a unit (Trap cause) = ⊥

-- From each described state, the instruction continues with the next one, in a described state.
abbrev pub Follows : AbsState → Insn → AbsState → Type 0
Follows old i new = (context : List ℕ) (relay : Relay) (s : State) → IsSetting context relay → Describes old s → GoesOn new (s.unit + units_of i) (executed context relay i s)
