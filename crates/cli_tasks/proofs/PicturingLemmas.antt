-- Lemmas about the tree of a text that is a message table or an oral campaign.
use Rattle.std.proofs.Common.{ℕ, ◌≡◌, ◌∙◌, ◌++◌, Bool, true, false, List, [], Ok, ap, subst, sym}
use Rattle.book.specs.Grammar.{table_told}
use Rattle.book.specs.Table.{MessageTable}
use Rattle.show_tree.specs.Drawn.{DrawsTable, drawn}
use Rattle.show_tree.specs.Shown.{ordered}
use Rattle.show_tree.specs.declared.form.TreeForm.{TreeForm}
use Rattle.show_tree.specs.declared.node.View.{View}
use Rattle.show_table.specs.Retold.{IsWhole, table_of, traitors_of}
use Rattle.show_table.proofs.Rounds.{played_whole}
use Rattle.round.specs.Scenario.{IsScenario, Scenario}
use Rattle.scenario.specs.Reading.{Tells}
use Rattle.world.specs.Chronicle.{Chronicle}
use Rattle.world.specs.Schedules.{lines_by}
use Rattle.world.specs.declared.schedule.Repeat.{Repeat}
use Rattle.cli_tasks.specs.Schedules.{played}
use Rattle.cli_tasks.specs.Picturing.{IsTreeIn, is_toml}
use Rattle.cli_tasks.specs.TableRefusals.{RefusesTree, RefusesTreeIn}
use Rattle.cli_tasks.specs.Strangers.{KnowsTree}
use Rattle.cli_tasks.specs.declared.refusal.InputRefusal.{InputRefusal}

module _ (text traitors : List ℕ) (view : View) (form : TreeForm) (general : ℕ) (picture : List ℕ) where
  pub of_table : is_toml text ≡ false → DrawsTable text traitors view form general picture → IsTreeIn (is_toml text) text traitors view form general picture
  of_table none draws = subst (λ (own : Bool). IsTreeIn own text traitors view form general picture) (sym none) draws

  pub of_campaign : (s : Scenario) → is_toml text ≡ true → Tells text s → DrawsTable (table_of (played s [])) (traitors_of s ++ traitors) (ordered s.order view) form general picture
      → IsTreeIn (is_toml text) text traitors view form general picture
  of_campaign s is tells draws = subst (λ (own : Bool). IsTreeIn own text traitors view form general picture) (sym is) (s, tells, draws)

  pub is_drawn : (c : Chronicle) (t : MessageTable) → table_told (table_of c) ≡ Ok t → picture ≡ drawn t traitors view form general → DrawsTable (table_of c) traitors view form general picture
  is_drawn c t told draws = (t, told, draws)

  -- The picture of the campaign's own chronicle, with its own traitors and the named ones, is the picture of the
  -- campaign.
  pub of_same : (s : Scenario) (c : Chronicle) (own all : List ℕ) (seen : View) → c ≡ played s [] → own ≡ traitors_of s → all ≡ own ++ traitors → seen ≡ ordered s.order view
      → DrawsTable (table_of c) all seen form general picture → DrawsTable (table_of (played s [])) (traitors_of s ++ traitors) (ordered s.order view) form general picture
  of_same s c own all seen same are is known drawn =
      let marked : all ≡ traitors_of s ++ traitors = is ∙ ap (λ (ts : List ℕ). ts ++ traitors) are in
      subst (λ (v : View). DrawsTable (table_of (played s [])) (traitors_of s ++ traitors) v form general picture) known
      (subst (λ (ts : List ℕ). DrawsTable (table_of (played s [])) ts seen form general picture) marked
      (subst (λ (x : Chronicle). DrawsTable (table_of x) all seen form general picture) same drawn))

-- The chronicle of a campaign that is played by a schedule is whole.
pub played_wholly : (s : Scenario) (schedule : List (List Repeat)) (c : Chronicle) → IsScenario s → c ≡ played s schedule → IsWhole c
played_wholly s schedule c inside is = played_whole s (lines_by schedule) c inside is

pub not_drawn : (general : ℕ) (traitors text : List ℕ) (refusal : InputRefusal) (toml : Bool) → is_toml text ≡ toml → RefusesTreeIn toml general traitors text refusal → RefusesTree general traitors text refusal
not_drawn general traitors text refusal toml is refuses = subst (λ (own : Bool). RefusesTreeIn own general traitors text refusal) (sym is) refuses

pub known_in : (general : ℕ) (traitors text : List ℕ) (toml : Bool) → is_toml text ≡ toml → KnowsTree toml text general traitors → KnowsTree (is_toml text) text general traitors
known_in general traitors text toml is known = subst (λ (own : Bool). KnowsTree own text general traitors) (sym is) known

pub ruleset pictured = (of_table, of_campaign, not_drawn, known_in)
