-- A trial: one run of a program with a board that no other run uses (own).
use Rattle.std.specs.Prelude.{ℕ, ◌≡◌, ◌++◌, zero, suc, List, [], ◌∷◌, All, Option, None, Some, length, replicate}
use Rattle.insn.specs.declared.insn.Insn.{Insn}
use Rattle.semantics.specs.Limits.{board_words}
use Rattle.semantics.specs.Relay.{Relay, oral}
use Rattle.semantics.specs.State.{State, Outcome, Next, Ask, Exit, Trap, entry}
use Rattle.semantics.specs.Outbox.{empty_outbox}
use Rattle.semantics.specs.Call.{resumed}
use Rattle.semantics.specs.Execution.{step}
use Rattle.label.specs.declared.shape.Shape.{Shape}
use Rattle.board.specs.Board.{Access, reply, next}
use Rattle.board.specs.Ledger.{RecordedBoard}
use Rattle.trial.specs.Setting.{Setting, context_in}

-- How a run ends: with which exit value, in which state, and with which words on the board.
pub record Ending : Type 0 where
  pub r0 : ℕ
  pub state : State
  pub words : List ℕ

-- Returns the ending of a run after the outcome of a step, where `rest` gives the ending from a later state on. The
-- board answers a request at once.
abbrev pub served : (List ℕ → State → Option Ending) → List ℕ → Outcome → Option Ending
served rest words (Next s) = rest words s
served rest words (Ask request s) = rest (next words request) (resumed request (reply words request) s)
served rest words (Exit r0 s) = Some (record { r0 = r0; state = s; words = words })
served rest words (Trap cause) = None

-- Returns the ending of a run that takes at most k steps from a state on, with these words on the board. Returns None
-- if it does not exit by then, or traps.
unfoldable pub ending : List Insn → List ℕ → Relay → ℕ → List ℕ → State → Option Ending
ending program context relay zero words s = None
ending program context relay (suc k) words s =
    served (λ left t. ending program context relay k left t) words (step program context relay s)

-- Returns the ending of a program's run from its entry, with these words on the board. It may take as many steps as
-- the program has instructions.
abbrev pub trial_on : List ℕ → List Insn → List ℕ → Relay → Option Ending
trial_on words program context relay = ending program context relay (length program) words (entry (empty_outbox relay))

-- Returns the ending of a program's run from its entry, with zeros on the board.
abbrev pub trial : List Insn → List ℕ → Relay → Option Ending
trial program context relay = trial_on (replicate board_words 0) program context relay

-- Returns the ending of a program's trial in a setting.
abbrev pub trial_in : Setting → List Insn → Option Ending
trial_in s program = trial_on s.board program (context_in s) (oral s.shape)

-- Returns the accesses that the board records after the outcome of a step, where `rest` gives the accesses from a
-- later state on. An access has the general, the round, his request, and the reply.
abbrev pub entered : Shape → (List ℕ → State → List Access) → List ℕ → Outcome → List Access
entered shape rest words (Next s) = rest words s
entered shape rest words (Ask request s) =
    record { general = shape.general; round = shape.round; request = request; reply = reply words request }
    ∷ rest (next words request) (resumed request (reply words request) s)
entered shape rest words (Exit r0 s) = []
entered shape rest words (Trap cause) = []

-- Returns the accesses of a run that takes at most k steps from a state on, in order, with these words on the board.
unfoldable pub accesses : List Insn → List ℕ → Relay → ℕ → List ℕ → State → List Access
accesses program context relay zero words s = []
accesses program context relay (suc k) words s =
    entered relay.shape (λ left t. accesses program context relay k left t) words (step program context relay s)

-- Returns the accesses of a program's trial, in order, with these words on the board at the start.
abbrev pub accesses_on : List ℕ → List Insn → List ℕ → Relay → List Access
accesses_on words program context relay =
    accesses program context relay (length program) words (entry (empty_outbox relay))

-- Returns the accesses of a program's trial in a setting, in order.
abbrev pub accesses_in : Setting → List Insn → List Access
accesses_in s program = accesses_on s.board program (context_in s) (oral s.shape)

-- States that the board, since it was `old`, has had only accesses of this general in this round.
pub record ServesOne (shape : Shape) (old new : RecordedBoard) : Type 0 where
  pub opening : new.opening ≡ old.opening
  pub more : List Access
  pub ledger : new.ledger ≡ old.ledger ++ more
  pub own : All (λ a. (a.general ≡ shape.general) × (a.round ≡ shape.round)) more

-- States that the board, since it was `old`, has had only accesses that are the first of the list `all`, in its
-- order.
pub record EntersFirst (all : List Access) (old new : RecordedBoard) : Type 0 where
  pub opening : new.opening ≡ old.opening
  pub more : List Access
  pub ledger : new.ledger ≡ old.ledger ++ more
  pub rest : List Access
  pub first : all ≡ more ++ rest

-- States that the board had these words at the start, and has had only accesses of this general in this round.
pub record IsOfOne (shape : Shape) (words : List ℕ) (b : RecordedBoard) : Type 0 where
  pub opening : b.opening ≡ words
  pub own : All (λ a. (a.general ≡ shape.general) × (a.round ≡ shape.round)) b.ledger
