-- Interactive consistency (TOPLAS 1982, IC1 and IC2), judged from a message table: some generals are named as traitors,
-- and all others count as loyal.
use Rattle.std.specs.Prelude.{ℕ, ◌*◌, ◌==◌, ◌&&◌, nat_lt, nat_le, Bool, true, false, if◌then◌else◌, List, [], ◌∷◌, map, count_by, Option, None, Some}
use Rattle.std.specs.List.{list_all}
use Rattle.label.specs.Labels.{on, others, generals}
use Rattle.label.specs.Lieutenants.{lieutenants}
use Rattle.book.specs.declared.conditions.Conditions.{Conditions}
use Rattle.book.specs.declared.conditions.Obedience.{Obedience}
use Rattle.book.specs.declared.conditions.Obedience.TheVariants.{Traitor, Unlike, Obeyed, Disobeyed}
use Rattle.book.specs.Table.{MessageTable, told}
use Rattle.book.specs.Decisions.{decision_of}

-- Returns the loyal lieutenants, ascending: those who are not named as traitors.
abbrev pub loyal : MessageTable → List ℕ → List ℕ
loyal t traitors = others t.generals (t.commander ∷ traitors)

-- Returns the decisions of the loyal lieutenants, in ascending order of the lieutenants.
unfoldable pub loyal_decisions : MessageTable → List ℕ → List ℕ
loyal_decisions t traitors = map (decision_of t) (loyal t traitors)

-- Checks whether all orders in the list are the same.
abbrev pub are_alike : List ℕ → Bool
are_alike [] = true
are_alike (x ∷ xs) = list_all (λ y. y == x) xs

-- Returns the order that the commander sent to each lieutenant, if any, in ascending order of the lieutenants.
unfoldable pub sent : MessageTable → List (Option ℕ)
sent t = map (told t.messages (t.commander ∷ [])) (lieutenants t.generals t.commander)

-- Checks whether an order was received, and it is `order`.
abbrev pub is_told : ℕ → Option ℕ → Bool
is_told order None = false
is_told order (Some other) = other == order

-- Returns the order that all lieutenants received, if they all received the same one. There is none for the empty list.
abbrev pub same_order : List (Option ℕ) → Option ℕ
same_order [] = None
same_order (None ∷ rest) = None
same_order (Some order ∷ rest) = if list_all (is_told order) rest then Some order else None

-- Returns whether the lieutenants obey a commander who is not named as a traitor. The option is the order that he sent
-- to all, if he sent the same to all.
abbrev pub obedience_to : Option ℕ → List ℕ → Obedience
obedience_to None decisions = Unlike
obedience_to (Some order) decisions = if list_all (λ d. d == order) decisions then Obeyed order else Disobeyed order

-- Returns whether the lieutenants obey the commander. `named` says that he is named as a traitor. The option is the
-- order that he sent to all, if he sent the same to all.
abbrev pub obedience_in : Bool → Option ℕ → List ℕ → Obedience
obedience_in named order decisions = if named then Traitor else obedience_to order decisions

-- Returns how many of the table's generals are named as traitors.
abbrev pub named_in : MessageTable → List ℕ → ℕ
named_in t traitors = count_by (on traitors) (generals t.generals)

-- Returns whether the bound, IC1 and IC2 hold in a table if these generals are named as traitors.
unfoldable pub judged : MessageTable → List ℕ → Conditions
judged t traitors = record {
  named = named_in t traitors;
  enough = nat_lt (3 * t.bound) t.generals;
  few = nat_le (named_in t traitors) t.bound;
  bound = nat_lt (3 * t.bound) t.generals && nat_le (named_in t traitors) t.bound;
  alike = are_alike (loyal_decisions t traitors);
  obedience = obedience_in (on traitors t.commander) (same_order (sent t)) (loyal_decisions t traitors);
}
