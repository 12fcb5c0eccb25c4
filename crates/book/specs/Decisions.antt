-- The decisions of a message table's lieutenants, and when they agree.
use Rattle.std.specs.Prelude.{ℕ, ◌≡◌, ◌<◌, Bool, false, List, [], ◌∷◌, map}
use Rattle.combine.specs.Rule.{combined_by}
pub use Rattle.label.specs.Lieutenants.{lieutenants, IsLoyalAt, AgreeInList}
use Rattle.label.specs.Oral.{Messages, om, IsBound, IsFaithful}
use Rattle.book.specs.Table.{MessageTable, told}

-- Returns the decision of lieutenant `p` by OM(m), with the table's rule, from the table's messages.
unfoldable pub decision_of : MessageTable → ℕ → ℕ
decision_of t p = om (combined_by t.rule) t.generals (told t.messages) t.bound (t.commander ∷ []) p

-- Returns the decisions of the lieutenants, in ascending order of the lieutenants.
unfoldable pub decisions_of : MessageTable → List ℕ
decisions_of t = map (decision_of t) (lieutenants t.generals t.commander)

-- States that the decisions agree if the bound holds and each loyal general sends on the order that he took.
abbrev pub AgreesIfBound : ℕ → ℕ → ℕ → Messages → List ℕ → Type 0
AgreesIfBound n c m M decisions =
    (order : ℕ) (traitor : ℕ → Bool) → IsBound n m traitor
    → ((g : ℕ) → g < n → traitor g ≡ false → IsFaithful n c m order M g) → AgreeInList n c order traitor decisions

-- States that the decisions of a table agree if its bound holds and each loyal general sends on the order that he took.
abbrev pub TableAgrees : MessageTable → List ℕ → Type 0
TableAgrees t decisions = AgreesIfBound t.generals t.commander t.bound (told t.messages) decisions
