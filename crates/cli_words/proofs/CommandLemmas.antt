-- The description of a subcommand for `clap`, and of all subcommands, row by row.
use Rattle.std.proofs.Common.{◌≡◌, ◌∙◌, ◌+◌, ◌<◌, ◌++◌, ℕ, Bool, true, false, ◌||◌, List, [], ◌∷◌, Option, Some, None, ap, ap₂, refl, append-nil, append_assoc, codes, drop, find, get_or, length, map, sym}
use Rattle.std.proofs.lemmas.List.{at_drop_more}
use Rattle.std.specs.Option.{option_map_or}
use Rattle.std.specs.Prelude.{if◌then◌else◌}
use Rattle.std.specs.Str.{bytes_eq}
use Rattle.clap.specs.Words.{App, Rule, Shape, new_app, with_rule, with_subcommand}
use Rattle.cli_words.specs.Lab.{app_for, app_with, described, flag_rule, named_in, place_rule, shape, usages_for}
use Rattle.cli_words.specs.Subcommand.{flag_of, rule_for, shape_for, usage_of, with_subcommands}
use Rattle.cli_words.specs.Usage.{Text, Usage}
use Rattle.cli_words.specs.Usages.{usage_named, usages}
use Rattle.cli_words.specs.declared.subcommand.Flag.{Flag}
use Rattle.cli_words.specs.declared.subcommand.Place.{Place}
use Rattle.cli_words.specs.declared.subcommand.Subcommand.{Subcommand}

abbrev pub with_places : App → List Place → App
with_places app [] = app
with_places app (place ∷ rest) = with_places (with_rule app (place_rule place.name.now)) rest

abbrev pub with_flags : App → List Flag → App
with_flags app [] = app
with_flags app (flag ∷ rest) = with_flags (with_rule app (rule_for flag)) rest

abbrev with_rules : App → List Rule → App
with_rules app rules = record app { top = record app.top { rules = app.top.rules ++ rules } }

no_rules : (app : App) → app ≡ with_rules app []
no_rules app = ap (λ (rules : List Rule). record app { top = record app.top { rules = rules } }) (sym (append-nil app.top.rules))

one_rule : (app : App) (rule : Rule) (rest : List Rule) → with_rules (with_rule app rule) rest ≡ with_rules app (rule ∷ rest)
one_rule app rule rest = ap (λ (rules : List Rule). record app { top = record app.top { rules = rules } }) (append_assoc app.top.rules (rule ∷ []) rest)

places_are : (app : App) (places : List Place) → with_places app places ≡ with_rules app (map place_rule (map (λ place. place.name.now) places))
places_are app [] = no_rules app
places_are app (place ∷ rest) = places_are (with_rule app (place_rule place.name.now)) rest ∙ one_rule app (place_rule place.name.now) (map place_rule (map (λ place. place.name.now) rest))

flags_are : (app : App) (flags : List Flag) → with_flags app flags ≡ with_rules app (map flag_rule (map flag_of flags))
unfolding rule_for
flags_are app [] = no_rules app
flags_are app (flag ∷ rest) = flags_are (with_rule app (flag_rule (flag_of flag))) rest ∙ one_rule app (flag_rule (flag_of flag)) (map flag_rule (map flag_of rest))

-- After its places and flags were added, a subcommand has the description of its row.
pub row_is : (s : Subcommand) (app : App) → app ≡ with_places (new_app s.name.now) s.places.now → (with_flags app s.flags.now).top ≡ shape_for s
unfolding shape_for
row_is s app is = ap (λ (a : App). a.top) (flags_are app s.flags.now
    ∙ ap (λ (a : App). with_rules a (map flag_rule (map flag_of s.flags.now))) (is ∙ places_are (new_app s.name.now) s.places.now))

-- One more place, or one more flag: the first that was not added yet.
pub place_more : (app next : App) (rule : Rule) (places : List Place) (i : ℕ) (d : Place) → i < length places → rule ≡ place_rule (get_or places i d).name.now → next ≡ with_rule app rule
    → with_places next (drop (i + 1) places) ≡ with_places app (drop i places)
place_more app next rule places i d less is same =
    ap (λ (a : App). with_places a (drop (i + 1) places)) (same ∙ ap (λ (r : Rule). with_rule app r) is) ∙ sym (at_drop_more (with_places app) places i d less)

pub flag_more : (app next : App) (rule : Rule) (flags : List Flag) (i : ℕ) (d : Flag) → i < length flags → rule ≡ rule_for (get_or flags i d) → next ≡ with_rule app rule
    → (with_flags next (drop (i + 1) flags)).top ≡ (with_flags app (drop i flags)).top
flag_more app next rule flags i d less is same =
    ap (λ (a : App). (with_flags a (drop (i + 1) flags)).top) (same ∙ ap (λ (r : Rule). with_rule app r) is)
    ∙ sym (at_drop_more (λ (rest : List Flag). (with_flags app rest).top) flags i d less)

-- One more subcommand: the first that was not added yet.
pub subcommand_more : (app next : App) (shape : Shape) (rows : List Subcommand) (i : ℕ) (d : Subcommand) → i < length rows → shape ≡ shape_for (get_or rows i d) → next ≡ with_subcommand app shape
    → with_subcommands next (drop (i + 1) rows) ≡ with_subcommands app (drop i rows)
subcommand_more app next shape rows i d less is same =
    ap (λ (a : App). with_subcommands a (drop (i + 1) rows)) (same ∙ ap (λ (s : Shape). with_subcommand app s) is) ∙ sym (at_drop_more (with_subcommands app) rows i d less)

pub still_local : (new old global : Bool) → new ≡ (old || global) → old ≡ false → global ≡ false → new ≡ false
still_local new old global is none local = is ∙ ap₂ (λ (a b : Bool). a || b) none local

-- The description of the program with the subcommands of these usages.
abbrev with_usages : App → List Usage → App
with_usages app [] = app
with_usages app (usage ∷ rest) = with_usages (with_subcommand app (shape usage)) rest

usages_are : (app : App) (rows : List Subcommand) → with_subcommands app rows ≡ with_usages app (map usage_of rows)
unfolding shape_for
usages_are app [] = refl
usages_are app (row ∷ rest) = usages_are (with_subcommand app (shape (usage_of row))) rest

same_app : (words : List Text) → described (with_usages (new_app (codes "byzlab")) (usages_for words)) ≡ app_for words
same_app [] = refl
same_app (word ∷ rest) = go (usage_named word)
  where
    go : (o : Option Usage) → described (with_usages (new_app (codes "byzlab")) (option_map_or (λ usage. usage ∷ []) o usages)) ≡ app_with (option_map_or (λ usage. usage ∷ []) o usages)
    go None = refl
    go (Some usage) = refl

pub lab_is : (words : List Text) (bare lab whole : App) (rows : List Subcommand) → bare ≡ new_app (codes "byzlab") → lab ≡ with_subcommands bare rows → map usage_of rows ≡ usages_for words → whole ≡ described lab
    → whole ≡ app_for words
lab_is words bare lab whole rows new with all is =
    is ∙ ap described (with ∙ (usages_are bare rows ∙ ap₂ with_usages new all)) ∙ same_app words

-- ---- the subcommand with a name

abbrev pub row_named : Text → List Subcommand → Option Usage
row_named name rows = find (λ usage. bytes_eq usage.name name) (map usage_of rows)

module _ (name : Text) (rows : List Subcommand) (i : ℕ) (d : Subcommand) (less : i < length rows) where
  abbrev here : Bool → Option Usage
  here same = if same then Some (usage_of (get_or rows i d)) else row_named name (drop (i + 1) rows)

  pub row_passed : bytes_eq (get_or rows i d).name.now name ≡ false → row_named name (drop (i + 1) rows) ≡ row_named name (drop i rows)
  row_passed other = sym (at_drop_more (row_named name) rows i d less ∙ ap here other)

  pub row_found : bytes_eq (get_or rows i d).name.now name ≡ true → row_named name (drop i rows) ≡ Some (usage_of (get_or rows i d))
  row_found same = at_drop_more (row_named name) rows i d less ∙ ap here same

abbrev one_of : List Subcommand → Option Usage → List Usage
one_of rows found = option_map_or (λ usage. usage ∷ []) found (map usage_of rows)

pub alone_named : (name : Text) (rows one : List Subcommand) (row : Subcommand) → one ≡ row ∷ [] → row_named name rows ≡ Some (usage_of row) → map usage_of one ≡ named_in (map usage_of rows) name
alone_named name rows one row is found = ap (map usage_of) is ∙ sym (ap (one_of rows) found)

pub none_named : (name : Text) (rows : List Subcommand) → row_named name rows ≡ None → map usage_of rows ≡ named_in (map usage_of rows) name
none_named name rows none = sym (ap (one_of rows) none)
