-- Where a line of a chronicle belongs: the round, the general, and the label with a given rank (own).
use Rattle.std.specs.Prelude.{ℕ, ◌==◌, ◌&&◌, Bool, nat_le, nat_lt, if◌then◌else◌, List, [], ◌∷◌, Option, None, Some, option_and_then, slice_get, unwrap_or, codes}
use Rattle.label.specs.declared.shape.Shape.{Shape}
use Rattle.label.specs.Relay.{relay}
use Rattle.serde_json.specs.Data.{number, unsigned, array, Items, no_items, item, Members, put}
use Rattle.serde_json.specs.Find.{get_member, as_number, as_u64}
use Rattle.cli_answers.specs.declared.position.Held.{Held}
use Rattle.cli_answers.specs.declared.shape.Within.{Within}
use Rattle.cli_answers.specs.declared.shape.Within.TheVariants.{Nothing, Round, Letter, Outbox, General}

-- Returns the number that the member `name` has, or None if there is no such number from 0 to 2^64 - 1.
abbrev pub number_at : List ℕ → Members → Option ℕ
number_at name ms = option_and_then as_u64 (option_and_then as_number (get_member name ms))

-- What is known before the first line of a text: nothing, for which the numbers are 0.
abbrev pub at_first : Held
at_first = record { generals = 0; commander = 0; round = 0; general = 0 }

-- Returns what is known before the first line of a text. For the answer of a trial, this is the trial's number of
-- generals, commander, general and round.
abbrev pub held_by : Option Shape → Held
held_by None = at_first
held_by (Some s) = record { generals = s.generals; commander = s.commander; round = s.round; general = s.general }

-- Returns what is known after a line: the numbers that the line has, and for others those that were known before.
abbrev pub heard : Held → Members → Held
heard h ms = record {
  generals = unwrap_or (number_at (codes "generals") ms) h.generals;
  commander = unwrap_or (number_at (codes "commander") ms) h.commander;
  round = unwrap_or (number_at (codes "round") ms) h.round;
  general = unwrap_or (number_at (codes "general") ms) h.general;
}

-- Returns the relay of the general to whom the lines belong, in his round.
abbrev pub shape_of : Held → Shape
shape_of h = record { generals = h.generals; commander = h.commander; general = h.general; round = h.round }

-- Returns whether the numbers can occur in a campaign.
abbrev pub is_possible : Held → Bool
is_possible h = nat_le h.generals 13
    && (nat_lt h.commander h.generals && (nat_lt h.general h.generals && (nat_le 1 h.round && nat_le h.round 5)))

-- Returns the label with this rank among those that the general relays in his round, or None if there is none.
unfoldable pub label_of : Held → ℕ → Option (List ℕ)
label_of h rank = if is_possible h then slice_get (relay (shape_of h)) rank else None

-- Returns the label with this rank among those that the commander relays. He relays only the empty label, in round 1.
abbrev pub own_label : ℕ → ℕ → Option (List ℕ)
own_label round rank = if round == 1 && rank == 0 then Some [] else None

-- Returns the numbers of generals as JSON numbers.
abbrev pub numbers : List ℕ → Items
numbers [] = no_items
numbers (n ∷ ns) = item (number (unsigned n)) (numbers ns)

-- Adds a label to an object as its member `label`, or nothing for None.
abbrev pub with_label : Option (List ℕ) → Members → Members
with_label None ms = ms
with_label (Some w) ms = put (codes "label") (array (numbers w)) ms

-- Adds a number to an object as the member `name`.
abbrev pub with_number : List ℕ → ℕ → Members → Members
with_number name n ms = put name (number (unsigned n)) ms

-- Adds to a line's object where the line belongs. For a line in a round this is the round, and for a line in a letter
-- the round, the general and the label with the line's rank. For a line in an outbox it is only that label, and for a
-- line about a lieutenant only the general.
abbrev pub placed : Within → Held → Members → Members
placed Nothing h ms = ms
placed Round h ms = with_number (codes "round") h.round ms
placed Letter h ms =
    with_label (option_and_then (label_of h) (number_at (codes "rank") ms))
    (with_number (codes "general") h.general (with_number (codes "round") h.round ms))
placed Outbox h ms = with_label (option_and_then (label_of h) (number_at (codes "rank") ms)) ms
placed General h ms = with_number (codes "general") h.general ms
