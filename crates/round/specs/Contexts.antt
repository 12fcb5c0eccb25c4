-- The context that a general receives when a round begins, and the letter that a loyal general then sends (own; TOPLAS
-- 1982, algorithm OM).
use Rattle.std.specs.Prelude.{ℕ, suc, ◌<◌, ◌≡◌, ◌^◌, true, List, [], length, map, slice_get, Some, None}
use Rattle.label.specs.declared.shape.Shape.{Shape}
use Rattle.label.specs.Relay.{relay}
use Rattle.label.specs.Oral.{heard}
use Rattle.semantics.specs.Relay.{Relay, oral}
use Rattle.semantics.specs.State.{Outbox}
use Rattle.semantics.specs.Outbox.{places, taken_value}
use Rattle.outbox.specs.Contents.{Contents}
pub use Rattle.mem.specs.ContextLayout.{context_bytes, context_numbers, number_told, at_generals, at_general, at_commander, at_round, at_kind}
use Rattle.round.specs.Scenario.{Scenario, shape_of}
use Rattle.round.specs.Letters.{Letter, messages, telling}

-- Returns the order that general `g` took for the label `u`. It is what the label's last general sent him about the
-- rest of the label, or RETREAT if he sent nothing. For example, for `0.2` it is what 2 reported about `0`. For the
-- empty label, which only the commander relays, it is the scenario's order.
abbrev pub took : Scenario → List (List Letter) → ℕ → List ℕ → ℕ
took s before g u = heard (messages before) s.order u g

-- Returns the context that general `g` receives at the start of the round after these closed rounds.
abbrev pub context_of : Scenario → List (List Letter) → ℕ → List ℕ
context_of s before g =
    let shape = shape_of s g (suc (length before)) in
    context_bytes (context_numbers shape s.bound (map (took s before g) (relay shape)))

-- States that every order that the general took for the labels that he relays has 32 bits.
abbrev pub AreWords : Scenario → List (List Letter) → ℕ → Type 0
AreWords s before g = (rank : ℕ) (u : List ℕ) → slice_get (relay (shape_of s g (suc (length before)))) rank ≡ Some u →
    took s before g u < 2 ^ 32

-- States that a context contains this general's number and the number of this round.
abbrev pub IsToldTo : ℕ → ℕ → List ℕ → Type 0
IsToldTo g round context = (number_told context at_general ≡ g) × (number_told context at_round ≡ round)

-- Returns which labels a general relays in a round, and to whom, in the campaign that his context describes.
abbrev pub shape_told : ℕ → ℕ → List ℕ → Shape
shape_told g round context = record {
  generals = number_told context at_generals;
  commander = number_told context at_commander;
  general = g;
  round = round;
}

-- Returns the oral relay of a general in a round, in the campaign that his context describes.
abbrev pub relay_told : ℕ → ℕ → List ℕ → Relay
relay_told g round context = oral (shape_told g round context)

-- States that the context says that orders are oral: its number for the kind of campaign is 0.
abbrev pub tells_oral : List ℕ → Type 0
tells_oral context = number_told context at_kind ≡ 0

-- Returns the rows of an outbox in which each receiver of a label has the order that the context contains for this
-- label. A signed relay has no labels.
abbrev pub rows_told : Relay → List ℕ → Outbox
rows_told relay context = map (λ row. map (λ place. Some (taken_value context place.rank)) row) (places relay)

-- Returns the outbox that sends each receiver of a label the order that the context contains for this label.
abbrev pub outbox_told : Shape → List ℕ → Contents
outbox_told shape context = record { relay = oral shape; rows = rows_told (oral shape) context; entries = [] }

-- Returns a loyal general's letter with this context and this outbox.
abbrev pub faithful_letter_with : ℕ → ℕ → List ℕ → Contents → Letter
faithful_letter_with g round context outbox =
    record {
      general = g;
      round = round;
      context = context;
      program = None;
      transcript = [];
      steps = 0;
      outbox = outbox;
      exited = true;
    }

-- Returns a loyal general's letter as computed from his context only.
abbrev pub letter_told : ℕ → ℕ → List ℕ → Letter
letter_told g round context = faithful_letter_with g round context (outbox_told (shape_told g round context) context)

-- Returns a loyal general's letter of the round after these closed rounds: he sends each receiver of a label the order
-- that he took for it.
abbrev pub faithful_letter : Scenario → List (List Letter) → ℕ → Letter
faithful_letter s before g =
    let round = suc (length before) in
    faithful_letter_with g round (context_of s before g) (telling (shape_of s g round) (took s before g))
