-- Defines the options of the command line as rules of `clap`, and which values the command line gives to them
-- (docs/SURVEYS.md).
use Rattle.std.specs.Prelude.{Bool, true, false, List, [], ◌∷◌, ◌++◌, Option, None, Some, codes, find, if◌then◌else◌, is_some, map, slice_get}
use Rattle.std.specs.Borrow.{Bor}
use Rattle.std.specs.Option.{option_map_or}
use Rattle.std.specs.Str.{bytes_eq}
use Rattle.clap.specs.Lexer.{usize_max}
use Rattle.clap.specs.Simple.{new_shape}
use Rattle.clap.specs.Words.{App, Row, Rule, Text, new_rule}
use Rattle.clap.specs.declared.builder.action.ArgAction.TheVariants.{Append, SetTrue}
use Rattle.clap.specs.declared.parser.matches.ValueSource.{ValueSource}
use Rattle.clap.specs.declared.parser.matches.ValueSource.TheVariants.{CommandLine, DefaultValue}
use Rattle.surveyor.specs.declared.flags.Flag.{Flag}

-- Returns the rule for a switch `--NAME`, which takes no value.
abbrev pub switch : Text → Rule
switch name = record (new_rule name) { long = Some name; action = Some SetTrue }

-- Returns the rule for an option `--NAME VALUE`.
abbrev pub option : Text → Rule
option name = record (new_rule name) { long = Some name; value_names = 1 }

-- Returns the rule for an option `--NAME FILE ..`, which takes the names of one or more files.
abbrev pub files : Text → Rule
files name = record (option name) {
  action = Some Append;
  range = Some (record { start_inclusive = 1; end_inclusive = usize_max });
}

-- Returns the rule for an option, or for a switch if it has no value.
unfoldable pub rule_for : Flag → Rule
rule_for flag = if is_some flag.value then option flag.name.now else switch flag.name.now

-- The command `survey` without its options.
abbrev pub bare_app : App
bare_app = record { top = record (new_shape (codes "survey")) { no_binary_name = true }; subs = [] }

-- Adds rules for options to a command.
abbrev pub with_rules : App → List Rule → App
with_rules app more = record app { top = record app.top { rules = app.top.rules ++ more } }

-- The rules for all options of `./byzlab survey`.
abbrev pub rules : List Rule
rules = option (codes "generals") ∷ option (codes "bound") ∷ option (codes "traitors")
    ∷ option (codes "commander") ∷ option (codes "orders") ∷ switch (codes "grid") ∷ option (codes "seeds")
    ∷ option (codes "rule") ∷ option (codes "patience") ∷ switch (codes "signed") ∷ option (codes "adversary")
    ∷ switch (codes "lines") ∷ switch (codes "details") ∷ switch (codes "table") ∷ switch (codes "csv") ∷ switch (codes "svg")
    ∷ switch (codes "shrink")
    ∷ switch (codes "break") ∷ option (codes "campaign") ∷ option (codes "keep") ∷ option (codes "keep-all")
    ∷ files (codes "sum") ∷ []

-- The command `survey` with all its options.
abbrev pub survey_app : App
survey_app = with_rules bare_app rules

-- Returns the texts to which a list of references refers.
abbrev pub words_of : List (Bor Text) → List Text
words_of = map (λ word. word.now)

-- ---- what the words give, and not a default

-- Checks whether a value is given on the command line, and is not a default.
abbrev pub is_given : Option ValueSource → Bool
is_given (Some CommandLine) = true
is_given (Some DefaultValue) = false
is_given None = false

-- Returns the first value of an option if it is given on the command line. A row has the values that `clap` found for
-- one option.
abbrev pub given_value : Row → Option Text
given_value row = if is_given row.source then slice_get row.values 0 else None

-- Returns the row with the values that `clap` found for the option `name`, if there is one.
abbrev pub row_of : Text → List Row → Option Row
row_of name rows = find (λ row. bytes_eq row.id name) rows

-- Returns the value of an option, or `true` for a switch, if it is given on the command line. `rows` has the values
-- that `clap` found.
abbrev pub given : Text → List Row → Option Text
given name rows = option_map_or given_value (row_of name rows) None

-- Checks whether an option or a switch is given on the command line.
abbrev pub has : Text → List Row → Bool
has name rows = is_some (given name rows)
