-- Defines why a text is not a message table, or a named general is not one of its generals.
use Rattle.std.specs.Prelude.{ℕ, ◌≡◌, Bool, true, false, List, Option, Some, Err}
use Rattle.book.specs.Grammar.{opened, table_told}
use Rattle.bounds.specs.Refutation.{refusal_in}
use Rattle.bounds.specs.declared.refusal.RefutationError.TheVariants as refutation
use Rattle.book.specs.Numbers.{HasGenerals as AreNumbersOf, numbers_in}
use Rattle.cli_tasks.specs.Picturing.{is_toml}
use Rattle.cli_tasks.specs.Strangers.{HasGenerals, HasNumbers, liars, stranger_among, stranger_to_tree}
use Rattle.cli_tasks.specs.declared.refusal.InputRefusal.{InputRefusal}
use Rattle.cli_tasks.specs.declared.refusal.InputRefusal.TheVariants.{Table, Stranger, Tolerated, Memory}
use Rattle.cli_tasks.specs.Refusals.{RefusesScenario}

-- States that the words are not the numbers of a campaign, since a table with them would have this fault in its first
-- line, or that memory ran out.
abbrev pub RefusesForm : List ℕ → List ℕ → List ℕ → InputRefusal → Type 0
RefusesForm n m c (Table error) = opened (numbers_in n m c) ≡ Err error
RefusesForm n m c Memory = Unit {0}
RefusesForm n m c _ = ⊥

-- States why `table` fills in no table. The words are not the numbers of a campaign, since a table with them would have
-- this fault in its first line. Or the liar is not one of the generals, or memory ran out.
abbrev pub RefusesFilled : List ℕ → List ℕ → List ℕ → Option ℕ → InputRefusal → Type 0
RefusesFilled n m c liar (Stranger general generals) =
    AreNumbersOf n m c generals × (stranger_among generals (liars liar) ≡ Some general)
RefusesFilled n m c liar refusal = RefusesForm n m c refusal

-- States why `refute` prints no table. The words are not the numbers of a campaign, since a table with them would have
-- this fault in its first line. Or there are more than 3m generals, or memory ran out.
abbrev pub RefusesRefutation : List ℕ → List ℕ → List ℕ → InputRefusal → Type 0
RefusesRefutation n m c (Table error) = refusal_in (numbers_in n m c) ≡ Some (refutation.Table error)
RefusesRefutation n m c Tolerated = refusal_in (numbers_in n m c) ≡ Some refutation.Enough
RefusesRefutation n m c Memory = Unit {0}
RefusesRefutation n m c _ = ⊥

-- States that the text is not a message table because of this first fault, or that memory ran out.
abbrev pub RefusesTable : List ℕ → InputRefusal → Type 0
RefusesTable text (Table error) = table_told text ≡ Err error
RefusesTable text Memory = Unit {0}
RefusesTable text _ = ⊥

-- States that the text is not a message table, or that a general in `named` is not one of the table's generals. The
-- refusal names the first such general.
abbrev pub RefusesNaming : List ℕ → List ℕ → InputRefusal → Type 0
RefusesNaming named text (Stranger general generals) =
    HasGenerals text generals × (stranger_among generals named ≡ Some general)
RefusesNaming named text refusal = RefusesTable text refusal

-- States why `tree` rejects a text. The text is not a message table or, if the flag says that it is TOML, not an oral
-- campaign. Or the refusal names `general` if he is not a lieutenant, or else the first of `traitors` who is not one of
-- the generals.
abbrev pub RefusesTreeIn : Bool → ℕ → List ℕ → List ℕ → InputRefusal → Type 0
RefusesTreeIn toml general traitors text (Stranger own generals) =
    (commander : ℕ) × HasNumbers toml text generals commander
    × (stranger_to_tree generals commander general traitors ≡ Some own)
RefusesTreeIn false general traitors text refusal = RefusesTable text refusal
RefusesTreeIn true general traitors text refusal = RefusesScenario text refusal

-- States why `tree` rejects a text, or the generals who are named for the tree. A text that is TOML must be an oral
-- campaign, and any other text a message table.
abbrev pub RefusesTree : ℕ → List ℕ → List ℕ → InputRefusal → Type 0
RefusesTree general traitors text refusal = RefusesTreeIn (is_toml text) general traitors text refusal
