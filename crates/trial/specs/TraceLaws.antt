-- Laws of traces, and of the reasons why calls set no order. Each is the contract of a function of this crate.
use Rattle.std.specs.Prelude.{ℕ, ◌≡◌, ◌≢◌, ◌<◌, ◌++◌, true, List, [], ◌∷◌, Some, codes, decimal, flat_map, length, slice_get}
use Rattle.insn.specs.declared.insn.Insn.{Insn}
use Rattle.insn.specs.Program.{instruction_at}
use Rattle.label.specs.Labels.{on}
use Rattle.label.specs.Relay.{receivers}
use Rattle.semantics.specs.Relay.{Relay, relayed}
use Rattle.semantics.specs.State.{State, Outcome, Next, Ask, Exit, entry}
use Rattle.semantics.specs.Outbox.{along_row, as_taken, at_place, at_receiver, empty_outbox, places_set}
use Rattle.semantics.specs.Call.{resumed}
use Rattle.semantics.specs.Execution.{step}
use Rattle.board.specs.Board.{reply, next}
use Rattle.trial.specs.Trial.{Ending, trial_on}
use Rattle.trial.specs.StepLines.{before_told}
use Rattle.trial.specs.Trace.{trace_on}

-- States that the outcome of a step leads to the state t, and changes the board's words from `words` to `left`. The
-- board answers a request at once.
abbrev pub LeadsTo : List ℕ → List ℕ → State → Outcome → Type 0
LeadsTo words left t (Next u) = (t ≡ u) × (left ≡ words)
LeadsTo words left t (Ask request u) = (t ≡ resumed request (reply words request) u) × (left ≡ next words request)
LeadsTo words left t outcome = ⊥

-- States that a run from the state s, with these words on the board, goes through the states of the list in order,
-- and then ends with e.
abbrev pub IsRun : List Insn → List ℕ → Relay → List ℕ → State → List State → Ending → Type 0
IsRun program context relay words s [] e = (step program context relay s ≡ Exit e.r0 e.state) × (e.words ≡ words)
IsRun program context relay words s (t ∷ ts) e =
    (left : List ℕ) × LeadsTo words left t (step program context relay s) × IsRun program context relay left t ts e

-- States that a line of a trace begins with a state's unit, the instruction there, and what it reads.
pub record Tells (program : List Insn) (s : State) (line : List ℕ) : Type 0 where
  pub insn : Insn
  pub stands : instruction_at program s.unit ≡ Some insn
  pub behind : List ℕ
  pub split : line ≡ before_told s.unit s.registers insn ++ behind

-- States that there is a line for each state in order, and that the last line shows the exit with the value r0.
abbrev pub AreLinesOf : List Insn → ℕ → State → List State → List (List ℕ) → Type 0
AreLinesOf program r0 s [] (line ∷ []) = line ≡ decimal s.unit ++ codes " exit ; r0 " ++ decimal r0
AreLinesOf program r0 s (t ∷ ts) (line ∷ lines) = Tells program s line × AreLinesOf program r0 t ts lines
AreLinesOf program r0 s later lines = ⊥

-- States that the text has a line for each step of the run that ends with e. Each line shows the state before its
-- step.
pub record IsTraceOf (words : List ℕ) (program : List Insn) (context : List ℕ) (relay : Relay) (e : Ending)
    (text : List ℕ) : Type 0 where
  pub later : List State
  pub run : IsRun program context relay words (entry (empty_outbox relay)) later e
  pub lines : List (List ℕ)
  pub each : AreLinesOf program e.r0 (entry (empty_outbox relay)) later lines
  pub counted : length lines ≡ e.state.steps
  pub whole : text ≡ flat_map (λ line. line ++ codes "\n") lines

-- States that the trace of a program whose trial ends is a trace of that trial.
abbrev pub TracesAreTrials : Type 0
TracesAreTrials =
    (words : List ℕ) (program : List Insn) (context : List ℕ) (relay : Relay) (e : Ending)
    → trial_on words program context relay ≡ Some e →
    IsTraceOf words program context relay e (trace_on words program context relay)

-- States that the reasons why calls set no order, although the label is relayed, are true. If the receiver is another
-- existing general, he is on the label. If `send_row` was passed orders, nobody receives the label.
pub record ReasonsHold : Type 0 where
  pub place : (r : Relay) (rank receiver order : ℕ) (label : List ℕ) → slice_get (relayed r) rank ≡ Some label →
      places_set r (at_place rank receiver order) ≡ 0
      → receiver < r.shape.generals → receiver ≢ r.shape.general → on label receiver ≡ true
  pub row : (r : Relay) (rank : ℕ) (orders label : List ℕ) → slice_get (relayed r) rank ≡ Some label →
      places_set r (along_row rank orders) ≡ 0
      → length orders ≢ 0 → receivers r.shape label ≡ []
  pub same : (r : Relay) (receiver order rank : ℕ) (label : List ℕ) → slice_get (relayed r) rank ≡ Some label →
      places_set r (at_receiver receiver order) ≡ 0
      → receiver < r.shape.generals → receiver ≢ r.shape.general → on label receiver ≡ true
  pub taken : (r : Relay) (context : List ℕ) (receiver rank : ℕ) (label : List ℕ) →
      slice_get (relayed r) rank ≡ Some label → places_set r (as_taken context receiver) ≡ 0
      → receiver < r.shape.generals → receiver ≢ r.shape.general → on label receiver ≡ true
