-- Defines the world of a campaign and what events do to it, for oral and for signed campaigns (own). The kind says
-- which of the two a campaign is.
use Rattle.std.specs.Prelude.{ℕ, zero, suc, nat_lt, ◌==◌, ◌&&◌, cond, Bool, true, List, [], ◌∷◌, ◌++◌, length, drop, filter, slice_get, slice_set, Option, None, Some}
use Rattle.std.specs.List.{list_all}
use Rattle.insn.specs.declared.insn.Insn.{Insn}
use Rattle.board.specs.Board.{Access, reply, next}
use Rattle.semantics.specs.Relay.{Relay}
use Rattle.semantics.specs.declared.entry.Entry.{Entry}
use Rattle.round.specs.Scenario.{Scenario, program_of}
use Rattle.round.specs.Letters.{Letter}
use Rattle.round.specs.Contexts.{faithful_letter_with}
use Rattle.round.specs.Activation.{Activation, started, Turn, Goes, Asks, Ended, turn}
use Rattle.world.specs.declared.event.Event.{Event}
use Rattle.world.specs.declared.event.Event.TheVariants.{Tick, Post, Close}
use Rattle.world.specs.declared.event.EventError.{EventError}
use Rattle.world.specs.declared.event.EventError.TheVariants.{NotOpen, NoGeneral}
use Rattle.world.specs.Part.{Progress, Acting, Silent, Posted, owes_no_letter}

-- What distinguishes oral from signed campaigns. For a general in the round after given closed rounds, it says which
-- context he receives, which labels he relays to whom, and what his outbox contains if he is loyal.
pub record Kind : Type 0 where
  pub context : Scenario → List (List Letter) → ℕ → List ℕ
  pub relay : Scenario → List (List Letter) → ℕ → Relay
  pub rows : Scenario → List (List Letter) → ℕ → List (List (Option ℕ))
  pub entries : Scenario → List (List Letter) → ℕ → List Entry

-- The state of a campaign: the letters of the closed rounds, the board's words and its ledger, and the index in the
-- ledger of the open round's first access. It also has each general's part (what he does in the open round), and
-- whether all loyal generals had posted in each closed round.
pub record World : Type 0 where
  pub scenario : Scenario
  pub closed : List (List Letter)
  pub words : List ℕ
  pub ledger : List Access
  pub opened : ℕ
  pub parts : List Progress
  pub full : Bool

-- Returns the lists `f 0` to `f (n - 1)`, joined into one.
abbrev pub each : {A : Type 0} → ℕ → (ℕ → List A) → List A
each zero f = []
each (suc n) f = each n f ++ f n

-- Returns whether there is a further round after these closed rounds.
abbrev pub round_open : Scenario → List (List Letter) → Bool
round_open s closed = nat_lt (length closed) (suc s.bound)

-- Returns what a general does at the start of the round after these closed rounds: an activation if he is a traitor,
-- `Silent` if he is loyal and so has not posted.
abbrev pub begins : Kind → Scenario → List (List Letter) → ℕ → Option (List Insn) → Progress
begins K s closed g None = Silent
begins K s closed g (Some program) = Acting (started s.patience program (K.context s closed g) (K.relay s closed g))

-- Returns the world at the start of the round after these closed rounds. After the last round the generals do nothing,
-- so `parts` is empty.
abbrev pub begun : Kind → Scenario → List (List Letter) → List ℕ → List Access → Bool → World
begun K s closed words ledger full = record {
  scenario = s;
  closed = closed;
  words = words;
  ledger = ledger;
  opened = length ledger;
  parts = cond (round_open s closed) (each s.generals (λ g. begins K s closed g (program_of s g) ∷ [])) [];
  full = full;
}

-- Returns the world before its first event: round 1 is open, and the board has the scenario's words.
abbrev pub opening : Kind → Scenario → World
opening K s = begun K s [] s.board [] true

-- Returns those accesses that were made by general `g`, in their order.
abbrev pub accesses_of : ℕ → List Access → List Access
accesses_of g accesses = filter (λ a. a.general == g) accesses

-- Returns a traitor's letter of the round after these closed rounds. It contains the accesses and steps of his program,
-- and the outbox that the program has filled so far.
abbrev pub traitor_letter_with : Kind → Scenario → List (List Letter) → ℕ → Option (List Insn) → List Access → ℕ →
    Activation → Letter
traitor_letter_with K s before g program transcript steps a = record {
  general = g;
  round = suc (length before);
  context = K.context s before g;
  program = program;
  transcript = transcript;
  steps = steps;
  outbox = record { relay = K.relay s before g; rows = a.state.outbox; entries = a.state.entries };
  exited = a.over;
}

-- Returns a loyal general's letter of the round after these closed rounds.
abbrev pub loyal_letter : Kind → Scenario → List (List Letter) → ℕ → Letter
loyal_letter K s before g =
    faithful_letter_with g (suc (length before)) (K.context s before g)
    (record { relay = K.relay s before g; rows = K.rows s before g; entries = K.entries s before g })

-- Returns the letter of a general from his part in the round: a traitor has the letter of his activation, and a loyal
-- general has one if he has posted.
abbrev pub letter_of_part : (Activation → Letter) → Letter → Option Progress → List Letter
letter_of_part acted loyal (Some (Acting a)) = acted a ∷ []
letter_of_part acted loyal (Some Silent) = []
letter_of_part acted loyal (Some Posted) = loyal ∷ []
letter_of_part acted loyal None = []

-- Returns a general's letter of the open round as it is now, or the empty list if he is loyal and has not posted.
abbrev pub letters_at : Kind → World → ℕ → Option Progress → List Letter
letters_at K w g part =
    letter_of_part
    (λ a. traitor_letter_with K w.scenario w.closed g (program_of w.scenario g)
    (accesses_of g (drop w.opened w.ledger)) a.state.steps a)
    (loyal_letter K w.scenario w.closed g) part

-- Returns the letters of the open round by general. They are what closing the round now would deliver.
abbrev pub round_letters : Kind → World → List Letter
round_letters K w = each w.scenario.generals (λ g. letters_at K w g (slice_get w.parts g))

-- Returns the world after one turn of general `g`. If the turn is a request, the board answers it in the same event.
abbrev pub served : World → ℕ → Turn → World
served w g (Goes a) = record w { parts = slice_set w.parts g (Acting a) }
served w g (Asks request answered) =
    let answer = reply w.words request in
    record w {
      words = next w.words request;
      ledger =
          w.ledger ++ record { general = g; round = suc (length w.closed); request = request; reply = answer } ∷ [];
      parts = slice_set w.parts g (Acting (answered answer));
    }
served w g Ended = w

-- Returns the world after one tick of a traitor's activation. For a loyal general nothing changes.
abbrev pub ticked : World → ℕ → Option Progress → World
ticked w g (Some (Acting a)) = served w g (turn a)
ticked w g _ = w

-- Returns the world after a loyal general posts his letter of the open round.
abbrev pub posting : World → ℕ → Option Progress → World
posting w g (Some Silent) = record w { parts = slice_set w.parts g Posted }
posting w g _ = w

-- Returns the world after its open round is closed: its letters are kept, and the next round begins.
abbrev pub closing : Kind → World → World
closing K w =
    begun K w.scenario (w.closed ++ round_letters K w ∷ []) w.words w.ledger (w.full && list_all owes_no_letter w.parts)

-- Returns the world after an event. Rejected events, ticks of an activation that has ended, and second posts of a
-- general change nothing.
abbrev pub happen : Kind → World → Event → World
happen K w (Tick g) = ticked w g (slice_get w.parts g)
happen K w (Post g) = posting w g (slice_get w.parts g)
happen K w Close = cond (round_open w.scenario w.closed) (closing K w) w

-- Returns the world after these events, one after another.
abbrev pub run : Kind → World → List Event → World
run K w [] = w
run K w (e ∷ events) = run K (happen K w e) events

-- Returns `NoGeneral` if the event's general does not exist or is of the wrong kind: a tick needs a traitor, and a post
-- needs a loyal general. Otherwise returns `None`.
abbrev pub unfit : Event → Option Progress → Option EventError
unfit (Tick g) (Some (Acting a)) = None
unfit (Post g) (Some Silent) = None
unfit (Post g) (Some Posted) = None
unfit Close part = None
unfit _ _ = Some NoGeneral

-- Returns the general that an event names, or 0 for a close, which names none.
abbrev pub named_by : Event → ℕ
named_by (Tick g) = g
named_by (Post g) = g
named_by Close = 0

-- Returns why an event is rejected: all rounds are closed, the general does not exist, or he is of the wrong kind.
-- Returns `None` if the event is accepted.
abbrev pub refusal : World → Event → Option EventError
refusal w e = cond (round_open w.scenario w.closed) (unfit e (slice_get w.parts (named_by e))) (Some NotOpen)
