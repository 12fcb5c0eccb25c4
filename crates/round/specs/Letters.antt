-- Letters, and the messages that they contain (own; TOPLAS 1982, section 3, assumptions A1 to A3 and algorithm OM).
use Rattle.std.specs.Prelude.{ℕ, ◌-◌, ◌==◌, Bool, cond, List, [], ◌∷◌, length, take, map, find, slice_index, slice_index_or, Option, None, Some, bytes_eq as same_label}
use Rattle.insn.specs.declared.insn.Insn.{Insn}
use Rattle.label.specs.declared.shape.Shape.{Shape}
use Rattle.label.specs.Relay.{relay, receivers}
use Rattle.label.specs.Oral.{Messages}
use Rattle.semantics.specs.Relay.{oral, relayed}
use Rattle.outbox.specs.Contents.{Contents}
use Rattle.board.specs.Board.{Access}

-- A letter: what a general received and did in a round, the orders that he sent, and whether his program had exited.
pub record Letter : Type 0 where
  pub general : ℕ
  pub round : ℕ
  pub context : List ℕ
  pub program : Option (List Insn)
  pub transcript : List Access
  pub steps : ℕ
  pub outbox : Contents
  pub exited : Bool

-- Returns the element of `ys` at the index of the first element of `xs` for which `passes` holds, or `default` if there
-- is none.
abbrev pub value_beside : {A B : Type 0} → (A → Bool) → B → List A → List B → B
value_beside passes default (x ∷ xs) (y ∷ ys) = cond (passes x) y (value_beside passes default xs ys)
value_beside passes default _ _ = default

-- Returns the orders that an outbox has for the receivers of the label `u`, ascending by receiver.
abbrev pub orders_on : Contents → List ℕ → List (Option ℕ)
orders_on outbox u = value_beside (λ v. same_label v u) [] (relayed outbox.relay) outbox.rows

-- Returns the order that an outbox sends to receiver `p` for the label `u`, or `None` if it sends none.
abbrev pub tells : Contents → List ℕ → ℕ → Option ℕ
tells outbox u p = value_beside (λ j. j == p) None (receivers outbox.relay.shape u) (orders_on outbox u)

-- Returns the outbox that sends `value u` to each receiver of each label `u`.
abbrev pub telling : Shape → (List ℕ → ℕ) → Contents
telling shape value = record {
  relay = oral shape;
  rows = map (λ u. map (λ p. Some (value u)) (receivers shape u)) (relay shape);
  entries = [];
}

-- Returns the first letter of general `g`, if there is one.
abbrev pub letter_of : List Letter → ℕ → Option Letter
letter_of letters g = find (λ l. l.general == g) letters

-- Returns the order that a letter sends to receiver `p` for the label `u`, or `None` if there is no letter or no such
-- order.
abbrev pub told_by : Option Letter → List ℕ → ℕ → Option ℕ
told_by None u p = None
told_by (Some l) u p = tells l.outbox u p

-- Returns the message function of these rounds. The order for the label `0.2`, for example, is in general 2's letter of
-- round 2, where he relays the label `0`. The value for the empty label is never used.
unfoldable pub messages : List (List Letter) → Messages
messages closed w p =
    let last = length w - 1 in
    told_by (letter_of (slice_index_or closed last []) (slice_index w last)) (take last w) p
