-- The world of an oral campaign (own). Each definition is the one of Kind.antt for oral campaigns.
use Rattle.std.specs.Prelude.{ℕ, suc, Bool, List, [], length, Option}
use Rattle.insn.specs.declared.insn.Insn.{Insn}
use Rattle.board.specs.Board.{Access}
use Rattle.semantics.specs.Relay.{oral}
use Rattle.round.specs.Scenario.{Scenario, shape_of}
use Rattle.round.specs.Letters.{Letter, telling}
use Rattle.round.specs.Contexts.{context_of, took}
use Rattle.round.specs.Activation.{Activation}
use Rattle.world.specs.declared.event.Event.{Event}
use Rattle.world.specs.Part.{Progress}
use Rattle.world.specs.Kind as kind
use Rattle.world.specs.Kind.{Kind}
pub use Rattle.world.specs.Kind.{World, each, round_open, accesses_of, served, ticked, posting, unfit, named_by, refusal}

-- The kind of campaigns with oral orders. A general's context has the orders that he took for the labels that he
-- relays, and a loyal general sends these to each receiver.
abbrev pub oral_kind : Kind
oral_kind = record {
  context = context_of;
  relay = λ s before g. oral (shape_of s g (suc (length before)));
  rows = λ s before g. (telling (shape_of s g (suc (length before))) (took s before g)).rows;
  entries = λ s before g. [];
}

abbrev pub begins : Scenario → List (List Letter) → ℕ → Option (List Insn) → Progress
begins s closed g program = kind.begins oral_kind s closed g program

abbrev pub begun : Scenario → List (List Letter) → List ℕ → List Access → Bool → World
begun s closed words ledger full = kind.begun oral_kind s closed words ledger full

abbrev pub opening : Scenario → World
opening s = kind.opening oral_kind s

abbrev pub traitor_letter_with : Scenario → List (List Letter) → ℕ → Option (List Insn) → List Access → ℕ → Activation →
    Letter
traitor_letter_with s before g program transcript steps a =
    kind.traitor_letter_with oral_kind s before g program transcript steps a

abbrev pub letters_at : World → ℕ → Option Progress → List Letter
letters_at w g part = kind.letters_at oral_kind w g part

abbrev pub round_letters : World → List Letter
round_letters w = kind.round_letters oral_kind w

abbrev pub closing : World → World
closing w = kind.closing oral_kind w

abbrev pub happen : World → Event → World
happen w e = kind.happen oral_kind w e

abbrev pub run : World → List Event → World
run w events = kind.run oral_kind w events
