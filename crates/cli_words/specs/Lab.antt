-- Defines the description of the command line that `clap`, its parser, receives (own).
use Rattle.std.specs.Prelude.{Bool, true, false, List, [], ◌∷◌, ◌++◌, Option, Some, None, codes, find, if◌then◌else◌, map, option_map, slice_get}
use Rattle.std.specs.Option.{option_map_or}
use Rattle.std.specs.Str.{bytes_eq}
use Rattle.clap.specs.declared.builder.action.ArgAction.TheVariants.{SetTrue}
use Rattle.clap.specs.declared.parser.matches.ValueSource.{ValueSource}
use Rattle.clap.specs.declared.parser.matches.ValueSource.TheVariants.{CommandLine, DefaultValue}
use Rattle.clap.specs.Words.{App, Row, Rule, Shape, new_app, new_rule}
use Rattle.clap.specs.Simple.{new_shape}
use Rattle.cli_words.specs.Tasks.{Told}
use Rattle.cli_words.specs.Usage.{Flag, Text, Usage, letter, option, switch}
use Rattle.cli_words.specs.Usages.{usages}

-- Returns the rule by which `clap` parses a place, which is a required positional argument.
abbrev pub place_rule : Text → Rule
place_rule name = record (new_rule name) { value_names = 1; required = true }

-- Returns the rule by which `clap` parses a flag.
abbrev pub flag_rule : Flag → Rule
flag_rule (switch name) = record (new_rule name) { long = Some name; action = Some SetTrue }
flag_rule (option name) = record (new_rule name) { long = Some name; value_names = 1 }
flag_rule (letter name c) = record (new_rule name) { short = Some c; value_names = 1 }

-- Returns the description of a subcommand for `clap`.
abbrev pub shape : Usage → Shape
shape usage = record (new_shape usage.name) { rules = map place_rule usage.places ++ map flag_rule usage.flags }

-- Returns a subcommand as a program for `clap` that has no subcommands itself.
abbrev pub leaf : Usage → App
leaf usage = record { top = shape usage; subs = [] }

-- The description of the program in its help.
abbrev pub lab_about : Text
lab_about = codes "A laboratory for the Byzantine generals problem; the file name `-` means standard input"

-- The text that `--version` prints.
abbrev pub lab_version : Text
lab_version = codes "1.0.0, proved with Rattle, logic dac8208d650f15bf"

-- Returns the description of the program with its version. Its words do not begin with the program's name, and it
-- requires a subcommand.
abbrev pub described : App → App
described app =
    record app { top = record app.top { no_binary_name = true; subcommand_required = true; has_version = true } }

-- The description of the program before its subcommands are added.
abbrev pub app_before : App
app_before = described (new_app (codes "byzlab"))

-- Returns the description of the program with these subcommands.
abbrev pub app_with : List Usage → App
app_with usages = record { top = record app_before.top { is_leaf = false }; subs = map shape usages }

-- The description of the program with all subcommands.
abbrev pub lab_app : App
lab_app = app_with usages

-- Returns only the subcommand with this name, or all of the subcommands if none has it.
abbrev pub named_in : List Usage → Text → List Usage
named_in us name = option_map_or (λ usage. usage ∷ []) (find (λ usage. bytes_eq usage.name name) us) us

-- Returns the subcommands that `clap` receives for these words: the one that the first word names, or all of them if it
-- names none or there are no words.
abbrev pub usages_for : List Text → List Usage
usages_for [] = usages
usages_for (name ∷ words) = named_in usages name

-- Returns the description of the program that `clap` receives for these words.
abbrev pub app_for : List Text → App
app_for words = app_with (usages_for words)

-- ---- what `clap` parsed

-- Checks whether a value comes from the command line, and is no default.
abbrev pub is_given : Option ValueSource → Bool
is_given (Some CommandLine) = true
is_given (Some DefaultValue) = false
is_given None = false

-- Returns the value that `clap` parsed for a name if it comes from the command line, and otherwise `None`.
abbrev pub given_value : Row → Option Text
given_value row = if is_given row.source then slice_get row.values 0 else None

-- Returns the value for this name that comes from the command line, or `None` if there is none.
abbrev pub given : Text → List Row → Option Text
given name rows = option_map_or given_value (find (λ row. bytes_eq row.id name) rows) None

-- Returns the subcommand that `clap` parsed, with the values that come from the command line.
abbrev pub told_of : Text × List Row → Told
told_of met = record { name = met.0; value = λ name. given name met.1 }

-- Returns the subcommand that `clap` parsed, with its values, or `None` if there is no subcommand.
abbrev pub task_met : Option (Text × List Row) → Option Told
task_met = option_map told_of
