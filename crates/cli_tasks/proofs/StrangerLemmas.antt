-- Lemmas about the generals who are named on the command line.
use Rattle.std.proofs.Common.{ℕ, zero, suc, ◌≡◌, ◌≢◌, ◌∙◌, Bool, true, false, List, [], ◌∷◌, take, ap, inl, inr, refl, sym, subst}
use Rattle.std.specs.Prelude.{None, Ok, Option, Some, find, slice_get}
use Rattle.std.proofs.lemmas.Bool.{cases_Bool, cond-false, cond-true}
use Rattle.book.specs.Grammar.{table_told}
use Rattle.book.specs.Table.{MessageTable}
use Rattle.book.specs.declared.fault.TableError.{TableError}
use Rattle.book.specs.declared.fault.TableError.TheVariants as table
use Rattle.round.specs.Scenario.{Scenario as Campaign}
use Rattle.scenario.specs.Reading.{Tells}
use Rattle.book.specs.Numbers.{HasGenerals as AreNumbersOf}
use Rattle.cli_tasks.specs.TableRefusals.{RefusesFilled, RefusesForm, RefusesNaming, RefusesTable, RefusesTreeIn}
use Rattle.cli_tasks.specs.Refusals.{RefusesScenario, table_refusal}
use Rattle.cli_tasks.specs.Strangers.{HasNumbers, IsStranger, IsStrangerToTree, KnowsAll, KnowsLiar, KnowsTree, liars, stranger_among, stranger_to_tree}
use Rattle.cli_tasks.specs.declared.refusal.InputRefusal.{InputRefusal}
use Rattle.cli_tasks.specs.declared.refusal.InputRefusal.TheVariants.{Codec, Object, Verifier, Assembly, Table, Scenario, Setting, Trace, Threads, Accesses, Tolerated, RuleCall, LongSearch, LongScenario, Stranger, NotText, Memory}

pub of_table : (text named : List ℕ) (table : MessageTable) → table_told text ≡ Ok table → stranger_among table.generals named ≡ None → KnowsAll text named
of_table text named table is none = (table.generals, (table, is, refl), none)

pub unread_table : (text named : List ℕ) (refusal : InputRefusal) → RefusesTable text refusal → RefusesNaming named text refusal
unread_table text named (Codec error) refuses = refuses
unread_table text named (Object fault) refuses = refuses
unread_table text named (Verifier fault) refuses = refuses
unread_table text named (Assembly error) refuses = refuses
unread_table text named (Table error) refuses = refuses
unread_table text named (Scenario error) refuses = refuses
unread_table text named (Setting error) refuses = refuses
unread_table text named (Trace error) refuses = refuses
unread_table text named (Threads error) refuses = refuses
unread_table text named (Accesses fault) refuses = refuses
unread_table text named Tolerated refuses = refuses
unread_table text named (RuleCall unit) refuses = refuses
unread_table text named (LongSearch steps) refuses = refuses
unread_table text named LongScenario refuses = refuses
unread_table text named (Stranger g n) refuses = absurd refuses
unread_table text named NotText refuses = refuses
unread_table text named Memory refuses = refuses

pub strange_to_table : (text named : List ℕ) (table : MessageTable) (refusal : InputRefusal) → table_told text ≡ Ok table → IsStranger table.generals named refusal → RefusesNaming named text refusal
strange_to_table text named table (Codec error) is strange = absurd strange
strange_to_table text named table (Object fault) is strange = absurd strange
strange_to_table text named table (Verifier fault) is strange = absurd strange
strange_to_table text named table (Assembly error) is strange = absurd strange
strange_to_table text named table (Table error) is strange = absurd strange
strange_to_table text named table (Scenario error) is strange = absurd strange
strange_to_table text named table (Setting error) is strange = absurd strange
strange_to_table text named table (Trace error) is strange = absurd strange
strange_to_table text named table (Threads error) is strange = absurd strange
strange_to_table text named table (Accesses fault) is strange = absurd strange
strange_to_table text named table Tolerated is strange = absurd strange
strange_to_table text named table (RuleCall unit) is strange = absurd strange
strange_to_table text named table (LongSearch steps) is strange = absurd strange
strange_to_table text named table LongScenario is strange = absurd strange
strange_to_table text named table (Stranger g n) is strange = ((table, is, sym strange.0), subst (λ (n : ℕ). stranger_among n named ≡ Some g) (sym strange.0) strange.1)
strange_to_table text named table NotText is strange = absurd strange
strange_to_table text named table Memory is strange = absurd strange

-- ---- the lieutenant whose tree is drawn, and the named traitors

module _ (text : List ℕ) (general : ℕ) (traitors : List ℕ) where
  pub tree_of_table : (table : MessageTable) → table_told text ≡ Ok table → stranger_to_tree table.generals table.commander general traitors ≡ None → KnowsTree false text general traitors
  tree_of_table table is none = record { generals = table.generals; commander = table.commander; told = (table, is, refl, refl); known = none }

  pub tree_of_scenario : (s : Campaign) → Tells text s → stranger_to_tree s.generals s.commander general traitors ≡ None → KnowsTree true text general traitors
  tree_of_scenario s tells none = record { generals = s.generals; commander = s.commander; told = (s, tells, refl, refl); known = none }

  pub no_table_to_draw : (refusal : InputRefusal) → RefusesTable text refusal → RefusesTreeIn false general traitors text refusal
  no_table_to_draw (Codec error) refuses = refuses
  no_table_to_draw (Object fault) refuses = refuses
  no_table_to_draw (Verifier fault) refuses = refuses
  no_table_to_draw (Assembly error) refuses = refuses
  no_table_to_draw (Table error) refuses = refuses
  no_table_to_draw (Scenario error) refuses = refuses
  no_table_to_draw (Setting error) refuses = refuses
  no_table_to_draw (Trace error) refuses = refuses
  no_table_to_draw (Threads error) refuses = refuses
  no_table_to_draw (Accesses fault) refuses = refuses
  no_table_to_draw Tolerated refuses = refuses
  no_table_to_draw (RuleCall unit) refuses = refuses
  no_table_to_draw (LongSearch steps) refuses = refuses
  no_table_to_draw LongScenario refuses = refuses
  no_table_to_draw (Stranger g n) refuses = absurd refuses
  no_table_to_draw NotText refuses = refuses
  no_table_to_draw Memory refuses = refuses

  pub no_campaign_to_draw : (refusal : InputRefusal) → RefusesScenario text refusal → RefusesTreeIn true general traitors text refusal
  no_campaign_to_draw (Codec error) refuses = refuses
  no_campaign_to_draw (Object fault) refuses = refuses
  no_campaign_to_draw (Verifier fault) refuses = refuses
  no_campaign_to_draw (Assembly error) refuses = refuses
  no_campaign_to_draw (Table error) refuses = refuses
  no_campaign_to_draw (Scenario error) refuses = refuses
  no_campaign_to_draw (Setting error) refuses = refuses
  no_campaign_to_draw (Trace error) refuses = refuses
  no_campaign_to_draw (Threads error) refuses = refuses
  no_campaign_to_draw (Accesses fault) refuses = refuses
  no_campaign_to_draw Tolerated refuses = refuses
  no_campaign_to_draw (RuleCall unit) refuses = refuses
  no_campaign_to_draw (LongSearch steps) refuses = refuses
  no_campaign_to_draw LongScenario refuses = refuses
  no_campaign_to_draw (Stranger g n) refuses = absurd refuses
  no_campaign_to_draw NotText refuses = refuses
  no_campaign_to_draw Memory refuses = refuses

  strange_in : (toml : Bool) (generals commander : ℕ) (refusal : InputRefusal) → HasNumbers toml text generals commander → IsStrangerToTree generals commander general traitors refusal → RefusesTreeIn toml general traitors text refusal
  strange_in toml generals commander (Codec error) has strange = absurd strange
  strange_in toml generals commander (Object fault) has strange = absurd strange
  strange_in toml generals commander (Verifier fault) has strange = absurd strange
  strange_in toml generals commander (Assembly error) has strange = absurd strange
  strange_in toml generals commander (Table error) has strange = absurd strange
  strange_in toml generals commander (Scenario error) has strange = absurd strange
  strange_in toml generals commander (Setting error) has strange = absurd strange
  strange_in toml generals commander (Trace error) has strange = absurd strange
  strange_in toml generals commander (Threads error) has strange = absurd strange
  strange_in toml generals commander (Accesses fault) has strange = absurd strange
  strange_in toml generals commander Tolerated has strange = absurd strange
  strange_in toml generals commander (RuleCall unit) has strange = absurd strange
  strange_in toml generals commander (LongSearch steps) has strange = absurd strange
  strange_in toml generals commander LongScenario has strange = absurd strange
  strange_in toml generals commander (Stranger g n) has strange = (
    commander,
    subst (λ (k : ℕ). HasNumbers toml text k commander) (sym strange.0) has,
    subst (λ (k : ℕ). stranger_to_tree k commander general traitors ≡ Some g) (sym strange.0) strange.1,
  )
  strange_in toml generals commander NotText has strange = absurd strange
  strange_in toml generals commander Memory has strange = absurd strange

  pub strange_to_tree : (table : MessageTable) (refusal : InputRefusal) → table_told text ≡ Ok table → IsStrangerToTree table.generals table.commander general traitors refusal → RefusesTreeIn false general traitors text refusal
  strange_to_tree table refusal is strange = strange_in false table.generals table.commander refusal (table, is, refl, refl) strange

  pub strange_to_campaign : (s : Campaign) (refusal : InputRefusal) → Tells text s → IsStrangerToTree s.generals s.commander general traitors refusal → RefusesTreeIn true general traitors text refusal
  strange_to_campaign s refusal tells strange = strange_in true s.generals s.commander refusal (s, tells, refl, refl) strange

-- ---- the liar in a table that is filled in

pub of_numbers : (n m c : List ℕ) (liar : Option ℕ) (generals : ℕ) → AreNumbersOf n m c generals → stranger_among generals (liars liar) ≡ None → KnowsLiar n m c liar
of_numbers n m c liar generals are none = (generals, are, none)

pub unfilled : (n m c : List ℕ) (liar : Option ℕ) (refusal : InputRefusal) → RefusesForm n m c refusal → RefusesFilled n m c liar refusal
unfilled n m c liar (Codec error) refuses = refuses
unfilled n m c liar (Object fault) refuses = refuses
unfilled n m c liar (Verifier fault) refuses = refuses
unfilled n m c liar (Assembly error) refuses = refuses
unfilled n m c liar (Table error) refuses = refuses
unfilled n m c liar (Scenario error) refuses = refuses
unfilled n m c liar (Setting error) refuses = refuses
unfilled n m c liar (Trace error) refuses = refuses
unfilled n m c liar (Threads error) refuses = refuses
unfilled n m c liar (Accesses fault) refuses = refuses
unfilled n m c liar Tolerated refuses = refuses
unfilled n m c liar (RuleCall unit) refuses = refuses
unfilled n m c liar (LongSearch steps) refuses = refuses
unfilled n m c liar LongScenario refuses = refuses
unfilled n m c liar (Stranger g all) refuses = absurd refuses
unfilled n m c liar NotText refuses = refuses
unfilled n m c liar Memory refuses = refuses

pub strange_liar : (n m c : List ℕ) (liar : Option ℕ) (generals : ℕ) (refusal : InputRefusal) → AreNumbersOf n m c generals → IsStranger generals (liars liar) refusal → RefusesFilled n m c liar refusal
strange_liar n m c liar generals (Codec error) are strange = absurd strange
strange_liar n m c liar generals (Object fault) are strange = absurd strange
strange_liar n m c liar generals (Verifier fault) are strange = absurd strange
strange_liar n m c liar generals (Assembly error) are strange = absurd strange
strange_liar n m c liar generals (Table error) are strange = absurd strange
strange_liar n m c liar generals (Scenario error) are strange = absurd strange
strange_liar n m c liar generals (Setting error) are strange = absurd strange
strange_liar n m c liar generals (Trace error) are strange = absurd strange
strange_liar n m c liar generals (Threads error) are strange = absurd strange
strange_liar n m c liar generals (Accesses fault) are strange = absurd strange
strange_liar n m c liar generals Tolerated are strange = absurd strange
strange_liar n m c liar generals (RuleCall unit) are strange = absurd strange
strange_liar n m c liar generals (LongSearch steps) are strange = absurd strange
strange_liar n m c liar generals LongScenario are strange = absurd strange
strange_liar n m c liar generals (Stranger g all) are strange =
    (subst (λ (k : ℕ). AreNumbersOf n m c k) (sym strange.0) are, subst (λ (k : ℕ). stranger_among k (liars liar) ≡ Some g) (sym strange.0) strange.1)
strange_liar n m c liar generals NotText are strange = absurd strange
strange_liar n m c liar generals Memory are strange = absurd strange

pub named_stranger : (generals : ℕ) (named : List ℕ) (refusal : InputRefusal) → IsStranger generals named refusal → refusal ≢ Memory
named_stranger generals named (Codec error) strange = absurd strange
named_stranger generals named (Object fault) strange = absurd strange
named_stranger generals named (Verifier fault) strange = absurd strange
named_stranger generals named (Assembly error) strange = absurd strange
named_stranger generals named (Table error) strange = absurd strange
named_stranger generals named (Scenario error) strange = absurd strange
named_stranger generals named (Setting error) strange = absurd strange
named_stranger generals named (Trace error) strange = absurd strange
named_stranger generals named (Threads error) strange = absurd strange
named_stranger generals named (Accesses fault) strange = absurd strange
named_stranger generals named Tolerated strange = absurd strange
named_stranger generals named (RuleCall unit) strange = absurd strange
named_stranger generals named (LongSearch steps) strange = absurd strange
named_stranger generals named LongScenario strange = absurd strange
named_stranger generals named (Stranger g all) strange = λ e. cc
named_stranger generals named NotText strange = absurd strange
named_stranger generals named Memory strange = absurd strange

pub faulty_numbers : (error : TableError) → error ≢ table.Memory → table_refusal error ≢ Memory
faulty_numbers (table.At fault line) apart = λ e. cc
faulty_numbers table.Memory apart = absurd (apart refl)

-- ---- the first general who does not belong to the campaign

some_none : {A : Type 0} {a : A} → Some a ≡ None → ⊥
some_none e = cc

pub found_here : (p : ℕ → Bool) (xs : List ℕ) (i x : ℕ) → find p (take i xs) ≡ None → slice_get xs i ≡ Some x → p x ≡ true → find p xs ≡ Some x
found_here p [] i x none at e = cc
found_here p (y ∷ xs) zero x none at e =
    let same : y ≡ x = cc in
    cond-true (p y) (Some y) (find p xs) (ap p same ∙ e) ∙ ap (λ (v : ℕ). Some v) same
found_here p (y ∷ xs) (suc i) x none at e = elim (cases_Bool (p y)) [
  | inl here ↦ absurd (some_none (sym (cond-true (p y) (Some y) (find p (take i xs)) here) ∙ none))
  | inr apart ↦ cond-false (p y) (Some y) (find p xs) apart ∙ found_here p xs i x (sym (cond-false (p y) (Some y) (find p (take i xs)) apart) ∙ none) at e
]

pub none_more : (p : ℕ → Bool) (xs : List ℕ) (i x : ℕ) → find p (take i xs) ≡ None → slice_get xs i ≡ Some x → p x ≡ false → find p (take (suc i) xs) ≡ None
none_more p [] i x none at e = cc
none_more p (y ∷ xs) zero x none at e =
    let same : y ≡ x = cc in
    cond-false (p y) (Some y) None (ap p same ∙ e)
none_more p (y ∷ xs) (suc i) x none at e = elim (cases_Bool (p y)) [
  | inl here ↦ absurd (some_none (sym (cond-true (p y) (Some y) (find p (take i xs)) here) ∙ none))
  | inr apart ↦ cond-false (p y) (Some y) (find p (take (suc i) xs)) apart ∙ none_more p xs i x (sym (cond-false (p y) (Some y) (find p (take i xs)) apart) ∙ none) at e
]

-- The rules for a table that is explained, a table and a campaign that are drawn, and a table that is filled in.
pub ruleset table_explained = (of_table, unread_table, strange_to_table)

pub ruleset table_known = (tree_of_table, no_table_to_draw, strange_to_tree)

pub ruleset scenario_known = (tree_of_scenario, no_campaign_to_draw, strange_to_campaign)

pub ruleset liar_known = (unfilled, of_numbers, strange_liar, named_stranger, faulty_numbers)
