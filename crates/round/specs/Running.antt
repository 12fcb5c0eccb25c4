-- How the code holds an activation, and what a turn does to it and to the board (own). No headline of docs/TRUSTED.md
-- rests on this file. World.antt of `world` says what a tick does.
use Rattle.std.specs.Prelude.{ℕ, ◌≡◌, ◌≤◌, Bool, true, false, ◌||◌, Option, Some, None, min, All, List, [], ◌∷◌, ◌++◌}
use Rattle.semantics.specs.declared.request.Request.{Request}
use Rattle.semantics.specs.State.{State, Outcome, Next, Ask, Exit}
use Rattle.semantics.specs.Relay.{IsContext, Relay}
use Rattle.board.specs.Board.{Access, reply, next}
use Rattle.board.specs.Ledger.{RecordedBoard}
use Rattle.machine.specs.Standing.{Standing, before}
use Rattle.machine.specs.Advance.{IsOfRun}
use Rattle.machine.specs.declared.stop.StopReason.{StopReason}
use Rattle.machine.specs.declared.stop.StopReason.TheVariants.{Asked, Exited, Limit}
use Rattle.insn.specs.declared.insn.Insn.{Insn}
use Rattle.round.specs.Letters.{Letter}
use Rattle.round.specs.Contexts.{relay_told}
use Rattle.round.specs.Runs.{Runs, AreFitting, IsRunOf, IsWithin}
use Rattle.round.specs.Activation.{Activation, Turn, Goes, Asks, Ended, started, is_reached}

-- Returns the relay and the current state of an activation.
abbrev pub standing : Activation → Standing
standing a = record { relay = a.relay; state = a.state }

-- States what holds for every activation in the code. Until it has exited, its state is reached by a run of its
-- program, and its steps are within its patience.
pub record IsLive (a : Activation) : Type 0 where
  pub context : IsContext a.context
  pub of_run : a.over ≡ false → IsOfRun a.program a.context (standing a)
  pub within : IsWithin a.patience a.state.steps

-- States that a machine has stopped for the right reason and in the right state, given the outcome of its step.
abbrev pub Stopped : Outcome → StopReason → State → Type 0
Stopped (Next s) Limit new = new ≡ s
Stopped (Ask request s) (Asked r) new = (r ≡ request) × (new ≡ s)
Stopped (Exit r0 s) (Exited n) new = (n ≡ r0) × (new ≡ s)
Stopped _ _ new = ⊥

-- States that withdrawing a request restores the state before the request.
abbrev pub IsBack : StopReason → State → State → Type 0
IsBack (Asked r) old new = before new ≡ old
IsBack _ old new = Unit {0}

-- Returns the board after it has answered a request and added the access to its ledger.
abbrev pub access_entered : ℕ → ℕ → Request → RecordedBoard → RecordedBoard
access_entered general round request k = record k {
  words = next k.words request;
  ledger = k.ledger ++ record {
    general = general;
    round = round;
    request = request;
    reply = reply k.words request;
  } ∷ [];
}

-- Returns the activation and the board after a turn. If the turn is a request, the board answers it.
abbrev pub moved : ℕ → ℕ → Activation → RecordedBoard → Turn → Activation × RecordedBoard
moved general round a k (Goes b) = (b, k)
moved general round a k (Asks request answered) =
    (answered (reply k.words request), access_entered general round request k)
moved general round a k Ended = (a, k)

-- Returns the activation with these contents.
abbrev pub activation_of : Option ℕ → List Insn → List ℕ → Standing → Bool → Activation
activation_of patience program context standing over =
    record {
      program = program;
      context = context;
      relay = standing.relay;
      patience = patience;
      state = standing.state;
      over = over;
    }

-- States that some number of turns leads from `a` to `b`, none of which is a request.
abbrev pub Silently : Activation → Activation → Type 0
Silently a b = (k : ℕ) × Runs k a [] b

-- States that the activation pauses: it has ended, has taken at least `limit` steps since it began, or its next turn is
-- a request. The next turn is the third argument.
abbrev pub Pauses : ℕ → Activation → Turn → Type 0
Pauses limit a (Goes b) = limit ≤ a.state.steps
Pauses limit a (Asks request answered) = Unit {0}
Pauses limit a Ended = Unit {0}

-- Returns the lesser of `limit` and the patience, or `limit` if there is no patience.
abbrev pub lesser : Option ℕ → ℕ → ℕ
lesser None limit = limit
lesser (Some patience) limit = min patience limit

-- States that `new` is the activation after this turn. The access is the one made in this turn, or `None` if the turn
-- was not a request.
abbrev pub TakesTurn : Turn → Option Access → Activation → Type 0
TakesTurn (Goes b) None new = new ≡ b
TakesTurn (Asks request answered) (Some access) new = (access.request ≡ request) × (new ≡ answered access.reply)
TakesTurn _ _ new = ⊥

-- States that two activations have the same program, context, relay and patience.
pub record IsSameRun (a b : Activation) : Type 0 where
  pub program : b.program ≡ a.program
  pub context : b.context ≡ a.context
  pub relay : b.relay ≡ a.relay
  pub patience : b.patience ≡ a.patience

-- States that all accesses were made by this general in this round.
abbrev pub AreAccessesOf : ℕ → ℕ → List Access → Type 0
AreAccessesOf general round accesses = All (λ a. (a.general ≡ general) × (a.round ≡ round)) accesses

-- States that the activation `start` has run to `a` with exactly the accesses of the transcript, and that their replies
-- fit.
pub record IsOnWay (general round : ℕ) (start a : Activation) (transcript : List Access) : Type 0 where
  pub same : IsSameRun start a
  pub run : (k : ℕ) × Runs k start transcript a
  pub own : AreAccessesOf general round transcript
  pub fitting : AreFitting transcript

-- States that the activation `start` has run to `a`, and that `served` is the list `before` followed by the accesses of
-- this run.
pub record IsWayServed (general round : ℕ) (start a : Activation)
    (before transcript served : List Access) : Type 0 where
  pub way : IsOnWay general round start a transcript
  pub whole : served ≡ before ++ transcript

-- States that a run of the program, begun with this relay, was stopped because memory ran out. `served` is the list
-- `before` followed by the accesses that the run had made.
abbrev pub IsGivenUpIn : ℕ → ℕ → List Insn → List ℕ → Relay → Option ℕ → List Access → List Access → Type 0
IsGivenUpIn general round program context relay patience before served =
    (a : Activation) × (transcript : List Access)
    × IsWayServed general round (started patience program context relay) a before transcript served

-- States that a run of the program in a campaign with oral orders was stopped because memory ran out. `served` is the
-- list `before` followed by the accesses that the run had made.
abbrev pub IsGivenUp : ℕ → ℕ → List Insn → List ℕ → Option ℕ → List Access → List Access → Type 0
IsGivenUp general round program context patience before served =
    IsGivenUpIn general round program context (relay_told general round context) patience before served

-- States that `l` is the letter of an activation that has ended: its program has exited or used up the patience. Its
-- outbox is what the program produced in this context, begun with this relay, with exactly the accesses of the
-- transcript, whose replies fit.
pub record IsLivedIn (general round : ℕ) (program : List Insn) (context : List ℕ) (relay : Relay) (patience : Option ℕ)
    (l : Letter) : Type 0 where
  pub own_general : l.general ≡ general
  pub own_round : l.round ≡ round
  pub own_context : l.context ≡ context
  pub own_program : l.program ≡ Some program
  pub own_relay : l.outbox.relay ≡ relay
  pub run : IsRunOf l (Some program)
  pub accesses : AreAccessesOf general round l.transcript
  pub within : IsWithin patience l.steps
  pub ended : (l.exited || is_reached patience l.steps) ≡ true

-- States that `l` is the letter of an activation that has ended, in a campaign with oral orders. Its outbox is what the
-- program produced in this context, with exactly the accesses of the transcript, whose replies fit.
abbrev pub IsLived : ℕ → ℕ → List Insn → List ℕ → Option ℕ → Letter → Type 0
IsLived general round program context patience l =
    IsLivedIn general round program context (relay_told general round context) patience l

-- Returns the letter made from an activation in its current state and these accesses.
abbrev pub letter_left : ℕ → ℕ → List Access → Activation → Letter
letter_left general round transcript a =
    record {
      general = general;
      round = round;
      context = a.context;
      program = Some a.program;
      transcript = transcript;
      steps = a.state.steps;
      outbox = record { relay = a.relay; rows = a.state.outbox; entries = a.state.entries };
      exited = a.over;
    }
