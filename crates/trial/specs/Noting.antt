-- What is known after a step of a run in which slips are noted (own).
use Rattle.std.specs.Prelude.{◌≡◌, ◌+◌, ℕ, List, [], ◌++◌, Some}
use Rattle.insn.specs.declared.insn.Insn.{Insn}
use Rattle.insn.specs.Program.{instruction_at}
use Rattle.semantics.specs.declared.request.Request.{Request}
use Rattle.semantics.specs.Call.{resumed}
use Rattle.semantics.specs.State.{State, Outcome, Next, Ask, Exit, Trap}
use Rattle.semantics.specs.Execution.{step}
use Rattle.board.specs.Board.{Access}
use Rattle.machine.specs.Standing.{Standing}
use Rattle.machine.specs.Advance.{IsAskOfRun, IsOfRun}
use Rattle.trial.specs.declared.helper_call.HelperCall.{HelperCall}
use Rattle.trial.specs.declared.turn.Turn.{Turn}
use Rattle.trial.specs.declared.turn.Turn.TheVariants.{Onward, Asked, Ended}
use Rattle.trial.specs.Slips.{by_replies, slip_at}

-- States that a run ends with this outcome.
abbrev pub EndsRun : Outcome → Type 0
EndsRun (Exit r0 t) = Unit {0}
EndsRun (Trap cause) = Unit {0}
EndsRun _ = ⊥

-- Returns the slip of the next step, if it is one.
abbrev pub slip_next : List Insn → List ℕ → Standing → List HelperCall
slip_next program context a = slip_at context a.relay a.state (instruction_at program a.state.unit)

-- States that a step led from `a` to `b`, and that its slip was added to the calls.
pub record HasGone (program : List Insn) (context : List ℕ) (a b : Standing) (old new : List HelperCall) : Type 0 where
  pub outcome : step program context a.relay a.state ≡ Next b.state
  pub noted : new ≡ old ++ slip_next program context a
  pub counted : b.state.steps ≡ a.state.steps + 1
  pub of_run : IsOfRun program context b

-- States that a step from `a` made this request, and now waits in `b` for the answer. A request is no slip.
pub record HasAsked (program : List Insn) (context : List ℕ) (request : Request) (a b : Standing)
    (old new : List HelperCall) : Type 0 where
  pub outcome : step program context a.relay a.state ≡ Ask request b.state
  pub noted : new ≡ old
  pub none : slip_next program context a ≡ []
  pub counted : b.state.steps ≡ a.state.steps + 1
  pub of_run : IsAskOfRun program context request b

-- States that the run ends with the step from `a`, which is no slip.
pub record HasEnded (program : List Insn) (context : List ℕ) (a : Standing) (old new : List HelperCall) : Type 0 where
  pub ends : EndsRun (step program context a.relay a.state)
  pub noted : new ≡ old
  pub none : slip_next program context a ≡ []

-- States that a turn says what the step from `a` to `b` did, and that its slip was added to the calls.
abbrev pub IsNoted : List Insn → List ℕ → Standing → List HelperCall → Turn → Standing → List HelperCall → Type 0
IsNoted program context a old Onward b new = HasGone program context a b old new
IsNoted program context a old (Asked request) b new = HasAsked program context request a b old new
IsNoted program context a old Ended b new = HasEnded program context a old new

-- States that the first of these replies is the answer to a request that led to the state s, that `rest` are the others,
-- and that the answer leads to the state t.
pub record IsAnswered (replies : List Access) (request : Request) (s : State) (rest : List Access)
    (t : State) : Type 0 where
  pub answer : List ℕ
  pub first : by_replies replies request ≡ Some (answer, rest)
  pub state : t ≡ resumed request answer s
