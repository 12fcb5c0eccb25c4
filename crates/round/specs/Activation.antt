-- An activation of a traitor's program, and its turns (own).
use Rattle.std.specs.Prelude.{ℕ, ◌+◌, nat_le, ◌||◌, Bool, cond, true, false, List, Option, None, Some}
use Rattle.insn.specs.declared.insn.Insn.{Insn}
use Rattle.semantics.specs.declared.request.Request.{Request}
use Rattle.semantics.specs.Relay.{Relay}
use Rattle.semantics.specs.State.{State, Outcome, Next, Ask, Exit, Trap, entry}
use Rattle.semantics.specs.Outbox.{empty_outbox}
use Rattle.semantics.specs.Call.{resumed}
use Rattle.semantics.specs.Execution.{step}

-- An activation: a program with its context and its relay (the labels to relay, and how), how many steps it may take,
-- its current state, and whether it has exited.
pub record Activation : Type 0 where
  pub program : List Insn
  pub context : List ℕ
  pub relay : Relay
  pub patience : Option ℕ
  pub state : State
  pub over : Bool

-- Returns the activation at the start of its program, with an empty outbox.
abbrev pub started : Option ℕ → List Insn → List ℕ → Relay → Activation
started patience program context relay =
    record {
      program = program;
      context = context;
      relay = relay;
      patience = patience;
      state = entry (empty_outbox relay);
      over = false;
    }

-- Returns whether this number of steps uses up the patience. It is false if there is no patience.
abbrev pub is_reached : Option ℕ → ℕ → Bool
is_reached None steps = false
is_reached (Some patience) steps = nat_le patience steps

-- What an activation does next: it goes on, makes a request that needs a reply, or has ended.
pub data Turn : Type 0 where
  Goes : Activation → Turn
  Asks : Request → (List ℕ → Activation) → Turn
  Ended : Turn

-- Returns the turn that a step with this outcome makes. A trap counts as a step and changes nothing else, so without a
-- patience the activation would never end.
abbrev pub turned : Activation → Outcome → Turn
turned a (Next s) = Goes (record a { state = s })
turned a (Ask request s) = Asks request (λ answer. record a { state = resumed request answer s })
turned a (Exit r0 s) = Goes (record a { state = s; over = true })
turned a (Trap cause) = Goes (record a { state = record a.state { steps = a.state.steps + 1 } })

-- Returns whether the activation has ended: its program has exited, or its patience is used up.
abbrev pub has_ended : Activation → Bool
has_ended a = a.over || is_reached a.patience a.state.steps

-- Returns the next turn of an activation: one step of its program, or `Ended` if it has ended.
abbrev pub turn : Activation → Turn
turn a = cond (has_ended a) Ended (turned a (step a.program a.context a.relay a.state))

-- States that a turn is a request.
abbrev pub MakesRequest : Turn → Type 0
MakesRequest (Goes b) = ⊥
MakesRequest (Asks request answered) = Unit {0}
MakesRequest Ended = ⊥
