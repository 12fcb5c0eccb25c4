-- Lemmas about declaring the options to `clap`, one after the other, and about the values that it finds.
use Rattle.std.proofs.Common.{◌≡◌, ◌∙◌, ◌+◌, ◌<◌, ℕ, Bor, List, [], ◌∷◌, ◌++◌, Option, None, Some, ap, append_assoc, codes, cond, find, get_or, length, map, option_map, refl, sym, take, true}
use Rattle.std.proofs.lemmas.List.{map_more}
use Rattle.std.specs.Option.{option_map_or}
use Rattle.std.specs.Prelude.{option_and_then, slice_get}
use Rattle.std.specs.Str.{bytes_eq}
use Rattle.clap.specs.declared.parser.matches.Found.{Found}
use Rattle.clap.specs.Facts.{Entry}
use Rattle.clap.specs.Matches.{matched_of, raw_values}
use Rattle.clap.specs.Walk.{row_of as clap_row, rows_of, texts}
use Rattle.clap.specs.Words.{App, Rule, Text, first_value, is_simple, is_simple_and_free, with_rule}
use Rattle.clap.proofs.OnLiterals.{clap_on_literals}
use Rattle.clap.proofs.WalkLemmas.{find_row}
use Rattle.surveyor.specs.declared.flags.Flag.{Flag}
use Rattle.surveyor.specs.Flags.{bare_app, given, given_value, is_given, rule_for, survey_app, with_rules}
use Rattle.surveyor.specs.Meant.{names_in}

-- If the first options are declared and one more is, one more of the list is declared.
pub flag_more : (app here next : App) (rule : Rule) (flags : List Flag) (i : ℕ) (d : Flag) → i < length flags → rule ≡ rule_for (get_or flags i d)
    → here ≡ with_rules app (map rule_for (take i flags)) → next ≡ with_rule here rule → next ≡ with_rules app (map rule_for (take (i + 1) flags))
flag_more app here next rule flags i d less is so same =
    same ∙ ap (λ (a : App). with_rule a rule) so ∙ ap (λ (r : Rule). with_rule (with_rules app (map rule_for (take i flags))) r) is
    ∙ ap (λ (l : List Rule). record app { top = record app.top { rules = l } }) (append_assoc app.top.rules (map rule_for (take i flags)) (rule_for (get_or flags i d) ∷ []) ∙ ap (λ (l : List Rule). app.top.rules ++ l) (sym (map_more rule_for flags i d less)))

pub survey_simple : is_simple survey_app ≡ true
unfolding clap_on_literals
survey_simple = refl

pub survey_free : is_simple_and_free survey_app ≡ true
unfolding clap_on_literals
survey_free = refl

first_text : (vs : List (Bor Text)) → option_map (λ s. s.now) (slice_get vs 0) ≡ slice_get (texts vs) 0
first_text [] = refl
first_text (v ∷ vs) = refl

-- The value of an option is the first one that `clap` found, unless it is a default.
pub value_given : (f : Found) (id : Text)
    → given id (rows_of f) ≡ cond (is_given (option_and_then (λ a. a.source) (matched_of f id))) (first_value f id) None
value_given f id = ap (λ o. option_map_or given_value o None) (find_row f.entries.items id) ∙ go (find (λ e. bytes_eq e.0.now id) f.entries.items)
  where
    go : (o : Option Entry) → option_map_or given_value (option_map clap_row o) None
        ≡ cond (is_given (option_and_then (λ a. a.source) (option_map (λ e. e.1) o)))
        (option_and_then (λ a. option_map (λ s. s.now) (slice_get a.vals.items 0)) (option_map (λ e. e.1) o)) None
    go None = refl
    go (Some e) = ap (λ (text : Option Text). cond (is_given e.1.source) text None) (sym (first_text e.1.vals.items))

-- The names of the files for `--sum` are the values that `clap` found.
pub names_given : (f : Found) → option_map raw_values (matched_of f (codes "sum")) ≡ names_in (rows_of f)
names_given f = sym (ap (λ o. option_map (λ row. row.values) o) (find_row f.entries.items (codes "sum")) ∙ go (find (λ e. bytes_eq e.0.now (codes "sum")) f.entries.items))
  where
    go : (o : Option Entry) → option_map (λ row. row.values) (option_map clap_row o) ≡ option_map raw_values (option_map (λ e. e.1) o)
    go None = refl
    go (Some e) = refl

-- ---- the whole command, option by option

pub survey_is : (start family ruled manner shaped whole : App) (one two three : List Rule) (rule sum : Rule) → start ≡ bare_app → family ≡ with_rules start one → ruled ≡ with_rule family rule
    → manner ≡ with_rules ruled two → shaped ≡ with_rules manner three → whole ≡ with_rule shaped sum
    → with_rule (with_rules (with_rules (with_rule (with_rules bare_app one) rule) two) three) sum ≡ survey_app → whole ≡ survey_app
survey_is start family ruled manner shaped whole one two three rule sum a b c d e f last =
    f ∙ (ap (λ (x : App). with_rule x sum) (e ∙ ap (λ (x : App). with_rules x three) (d ∙ ap (λ (x : App). with_rules x two) (c ∙ ap (λ (x : App). with_rule x rule) (b ∙ ap (λ (x : App). with_rules x one) a)))) ∙ last)
