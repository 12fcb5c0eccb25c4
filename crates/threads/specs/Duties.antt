-- What a general must do in a round (own; TOPLAS 1982, sections 3 and 4: a loyal general relays what he took, a traitor
-- does what he likes).
use Rattle.std.specs.Prelude.{ℕ, ◌≡◌, suc, List, [], length, Option, None, Some}
use Rattle.insn.specs.declared.insn.Insn.{Insn}
use Rattle.semantics.specs.Outbox.{empty_outbox}
use Rattle.semantics.specs.Relay.{Oral, Relay}
use Rattle.outbox.specs.Contents.{Contents}
use Rattle.round.specs.Scenario.{Scenario, program_of}
use Rattle.round.specs.Letters.{Letter}
use Rattle.round.specs.Contexts.{faithful_letter_with, outbox_told, relay_told, rows_told, shape_told, tells_oral}
use Rattle.round.specs.Running.{IsLivedIn}
use Rattle.world.specs.Kind.{Kind}

-- What a general must do in a round, from his context, with his program (`None` if he is loyal), his patience, and the
-- outbox with which he begins. A traitor begins with an empty one, and a loyal general with all that he sends.
pub record Duty : Type 0 where
  pub general : ℕ
  pub round : ℕ
  pub context : List ℕ
  pub program : Option (List Insn)
  pub patience : Option ℕ
  pub outbox : Contents

-- Returns the empty outbox for this relay.
abbrev pub empty_contents : Relay → Contents
empty_contents relay = record { relay = relay; rows = empty_outbox relay; entries = [] }

-- Returns the outbox with which general `g`, who has this program, begins the round after these closed rounds.
abbrev pub begun_outbox : Kind → Scenario → List (List Letter) → ℕ → Option (List Insn) → Contents
begun_outbox K s before g None =
    record { relay = K.relay s before g; rows = K.rows s before g; entries = K.entries s before g }
begun_outbox K s before g (Some program) = empty_contents (K.relay s before g)

-- Returns the duty of general `g` in the round after these closed rounds, in a campaign of this kind.
abbrev pub duty_of : Kind → Scenario → List (List Letter) → ℕ → Duty
duty_of K s before g =
    record {
      general = g;
      round = suc (length before);
      context = K.context s before g;
      program = program_of s g;
      patience = s.patience;
      outbox = begun_outbox K s before g (program_of s g);
    }

-- States that this letter fulfils the duty. A loyal general's letter sends what his outbox contains. A traitor's
-- program was run in his context and for his relay until it exited or used up the patience.
abbrev pub IsDoneBy : Option (List Insn) → Duty → Letter → Type 0
IsDoneBy None d l = l ≡ faithful_letter_with d.general d.round d.context d.outbox
IsDoneBy (Some program) d l = IsLivedIn d.general d.round program d.context d.outbox.relay d.patience l

abbrev pub IsDone : Duty → Letter → Type 0
IsDone d l = IsDoneBy d.program d l

-- Returns the outbox with which a general begins: the given one or, if there is none, the one that follows from his
-- context where orders are oral.
abbrev pub outbox_by : ℕ → ℕ → List ℕ → Option (List Insn) → Option Contents → Contents
outbox_by g round context program (Some outbox) = outbox
outbox_by g round context None None = outbox_told (shape_told g round context) context
outbox_by g round context (Some program) None = empty_contents (relay_told g round context)

-- States that the orders in an outbox are those with which a general with this program begins.
abbrev pub HasBegun : List ℕ → Option (List Insn) → Contents → Type 0
HasBegun context None o = (o.rows ≡ rows_told o.relay context) × (tells_oral context → o.entries ≡ [])
HasBegun context (Some program) o = (o.rows ≡ empty_outbox o.relay) × (o.entries ≡ [])

-- States that a general with this context and program can begin with the outbox.
pub record IsOutset (g round : ℕ) (context : List ℕ) (program : Option (List Insn)) (o : Contents) : Type 0 where
  pub shape : o.relay.shape ≡ shape_told g round context
  pub kind : tells_oral context → o.relay.kind ≡ Oral
  pub begun : HasBegun context program o

-- States that a general with this context and program can begin with the given outbox, if there is one.
abbrev pub IsOutsetIf : ℕ → ℕ → List ℕ → Option (List Insn) → Option Contents → Type 0
IsOutsetIf g round context program None = Unit {0}
IsOutsetIf g round context program (Some o) = IsOutset g round context program o
