-- The trace of a run: a line for each step, with a board that no other run uses.
use Rattle.std.specs.Prelude.{ℕ, zero, suc, List, [], ◌++◌, Option, Some, None, codes, length}
use Rattle.insn.specs.declared.insn.Insn.{Insn}
use Rattle.insn.specs.Program.{instruction_at}
use Rattle.semantics.specs.Relay.{Relay}
use Rattle.semantics.specs.State.{State, Outcome, Next, Ask, Exit, Trap, entry}
use Rattle.semantics.specs.Outbox.{empty_outbox}
use Rattle.semantics.specs.Call.{resumed}
use Rattle.semantics.specs.Execution.{step}
use Rattle.board.specs.Board.{reply, next}
use Rattle.trial.specs.StepLines.{before_told, after_told, request_told}

-- The type of a function that writes the lines of all further steps, from the board's words and the state.
abbrev pub Rest : Type 0
Rest = List ℕ → State → List ℕ

-- Writes the line of an instruction from the outcome of its step, and the lines of the steps after it. The board
-- answers a request at once.
abbrev pub line_of : Rest → List ℕ → State → Insn → Outcome → List ℕ
line_of rest words s i (Next t) =
    before_told s.unit s.registers i ++ (after_told t.unit t.registers i ++ (codes "\n" ++ rest words t))
line_of rest words s i (Ask request t) =
    before_told s.unit s.registers i
    ++ (after_told (resumed request (reply words request) t).unit (resumed request (reply words request) t).registers i
    ++ (request_told request words (next words request)
    ++ (codes "\n" ++ rest (next words request) (resumed request (reply words request) t))))
line_of rest words s i (Exit r0 t) = before_told s.unit s.registers i ++ codes "\n"
line_of rest words s i (Trap cause) = []

-- Writes the line of an instruction and the lines of the steps after it, or nothing if there is no instruction.
abbrev pub told : Rest → List ℕ → State → Option Insn → Outcome → List ℕ
told rest words s None outcome = []
told rest words s (Some i) outcome = line_of rest words s i outcome

-- Writes the line of the instruction at a state's unit, and the lines of the steps after it.
abbrev pub told_at : List Insn → List ℕ → Relay → Rest → List ℕ → State → List ℕ
told_at program context relay rest words s =
    told rest words s (instruction_at program s.unit) (step program context relay s)

-- Writes the lines of at most k steps from a state on, with these words on the board.
unfoldable pub lines_from : List Insn → List ℕ → Relay → ℕ → List ℕ → State → List ℕ
lines_from program context relay zero words s = []
lines_from program context relay (suc k) words s =
    told_at program context relay (λ left t. lines_from program context relay k left t) words s

-- Writes the lines of a whole run, with these words on the board at the start. The run takes at most as many steps as
-- the program has instructions.
abbrev pub trace_on : List ℕ → List Insn → List ℕ → Relay → List ℕ
trace_on words program context relay =
    lines_from program context relay (length program) words (entry (empty_outbox relay))
