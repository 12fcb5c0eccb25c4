-- Defines what contracts see of the subcommands in the code (own).
use Rattle.std.specs.Prelude.{ℕ, List, [], ◌∷◌, map}
use Rattle.std.specs.Borrow.{Bor}
use Rattle.clap.specs.Words.{App, Rule, Shape, with_subcommand}
use Rattle.cli_words.specs.Lab.{flag_rule, shape}
use Rattle.cli_words.specs.Usage.{Flag, Usage, letter, option, switch}
use Rattle.cli_words.specs.declared.subcommand.Flag as declared
use Rattle.cli_words.specs.declared.subcommand.Flag.TheVariants as variant
use Rattle.cli_words.specs.declared.subcommand.Subcommand.{Subcommand}

-- Returns a flag of the code as a flag.
abbrev pub flag_of : declared.Flag → Flag
flag_of (variant.Switch name help) = switch name.now
flag_of (variant.Option name value help) = option name.now
flag_of (variant.Letter name c value help) = letter name.now c

-- Returns the help text of a flag.
abbrev pub help_of : declared.Flag → Bor (List ℕ)
help_of (variant.Switch name help) = help
help_of (variant.Option name value help) = help
help_of (variant.Letter name c value help) = help

-- Returns a subcommand of the code as a usage: without its help texts.
abbrev pub usage_of : Subcommand → Usage
usage_of s = record {
  name = s.name.now;
  places = map (λ place. place.name.now) s.places.now;
  flags = map flag_of s.flags.now;
}

-- Returns the rule by which `clap`, the parser of the command line, parses a flag of the code.
unfoldable pub rule_for : declared.Flag → Rule
rule_for flag = flag_rule (flag_of flag)

-- Returns the description of a subcommand of the code for `clap`, the parser of the command line.
unfoldable pub shape_for : Subcommand → Shape
shape_for s = shape (usage_of s)

-- Returns the description of the program with these subcommands added, one after the other.
abbrev pub with_subcommands : App → List Subcommand → App
with_subcommands app [] = app
with_subcommands app (subcommand ∷ rest) = with_subcommands (with_subcommand app (shape_for subcommand)) rest
