-- Defines strangers: generals who are named on the command line, but do not belong to the message table or the campaign
-- (own).
use Rattle.std.specs.Prelude.{ℕ, ◌≡◌, ◌==◌, ◌||◌, Bool, true, false, if◌then◌else◌, nat_le, List, [], ◌∷◌, Option, None, Some, Ok, find}
use Rattle.book.specs.Grammar.{table_told}
use Rattle.book.specs.Table.{MessageTable}
use Rattle.round.specs.Scenario.{Scenario}
use Rattle.scenario.specs.Reading.{Tells}
use Rattle.book.specs.Numbers.{HasGenerals as AreNumbersOf}
use Rattle.cli_tasks.specs.declared.refusal.InputRefusal.{InputRefusal}
use Rattle.cli_tasks.specs.declared.refusal.InputRefusal.TheVariants.{Stranger}

-- Returns the first of the named generals who is not one of the generals 0 to `generals - 1`, or `None` if all are.
abbrev pub stranger_among : ℕ → List ℕ → Option ℕ
stranger_among generals named = find (λ g. nat_le generals g) named

-- States that the text is a message table of this number of generals.
abbrev pub HasGenerals : List ℕ → ℕ → Type 0
HasGenerals text generals = (table : MessageTable) × (table_told text ≡ Ok table) × (table.generals ≡ generals)

-- States that the text is a message table, and that all named generals are among its generals.
abbrev pub KnowsAll : List ℕ → List ℕ → Type 0
KnowsAll text named = (generals : ℕ) × HasGenerals text generals × (stranger_among generals named ≡ None)

-- Returns `general`, whose tree should be drawn, if he is not a lieutenant, or else the first of `traitors` who is not
-- one of the generals. Returns `None` if there is no such general.
abbrev pub stranger_to_tree : ℕ → ℕ → ℕ → List ℕ → Option ℕ
stranger_to_tree generals commander general traitors =
    if nat_le generals general || general == commander then Some general else stranger_among generals traitors

-- States that the text is a message table or, if the flag says that it is TOML, an oral campaign, with this number of
-- generals and this commander.
abbrev pub HasNumbers : Bool → List ℕ → ℕ → ℕ → Type 0
HasNumbers false text generals commander =
    (table : MessageTable) × (table_told text ≡ Ok table) × (table.generals ≡ generals) × (table.commander ≡ commander)
HasNumbers true text generals commander =
    (s : Scenario) × Tells text s × (s.generals ≡ generals) × (s.commander ≡ commander)

-- States that the text is a message table or an oral campaign, that `general`, whose tree should be drawn, is one of
-- its lieutenants, and that each of `traitors` is one of its generals.
pub record KnowsTree (toml : Bool) (text : List ℕ) (general : ℕ) (traitors : List ℕ) : Type 0 where
  pub generals : ℕ
  pub commander : ℕ
  pub told : HasNumbers toml text generals commander
  pub known : stranger_to_tree generals commander general traitors ≡ None

-- Returns the liar in a table that is filled in as a list, which is empty if there is none.
abbrev pub liars : Option ℕ → List ℕ
liars None = []
liars (Some general) = general ∷ []

-- States that the words are the numbers of a campaign, and that the liar is one of its generals if there is a liar.
abbrev pub KnowsLiar : List ℕ → List ℕ → List ℕ → Option ℕ → Type 0
KnowsLiar n m c liar = (generals : ℕ) × AreNumbersOf n m c generals × (stranger_among generals (liars liar) ≡ None)

-- States that the refusal names the general `one`, and `generals` as the number of generals. Does not hold if `one` is
-- `None`.
abbrev pub IsOf : ℕ → Option ℕ → InputRefusal → Type 0
IsOf generals one (Stranger general all) = (all ≡ generals) × (one ≡ Some general)
IsOf generals one _ = ⊥

-- States that the refusal names the first of the generals in `named` who is not one of the generals 0 to `generals -
-- 1`.
abbrev pub IsStranger : ℕ → List ℕ → InputRefusal → Type 0
IsStranger generals named refusal = IsOf generals (stranger_among generals named) refusal

-- States that the refusal names `general`, whose tree should be drawn, if he is not a lieutenant, or else the first of
-- `traitors` who is not one of the generals.
abbrev pub IsStrangerToTree : ℕ → ℕ → ℕ → List ℕ → InputRefusal → Type 0
IsStrangerToTree generals commander general traitors refusal =
    IsOf generals (stranger_to_tree generals commander general traitors) refusal
