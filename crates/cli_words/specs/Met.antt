-- Defines what contracts see of a subcommand that `clap`, the parser of the command line, parsed (own).
use Rattle.std.specs.Prelude.{Bool, false}
use Rattle.std.specs.List.{list_all}
use Rattle.std.specs.Option.{option_map_or}
use Rattle.clap.specs.Words.{found_of, rows_of}
use Rattle.cli_words.specs.Lab.{told_of}
use Rattle.cli_words.specs.Tasks.{Told, has}
use Rattle.cli_words.specs.Usages.{usage_named}
use Rattle.cli_words.specs.declared.matches.ParsedWords.{ParsedWords}

-- Returns the parsed words of the code as a subcommand with the values of its words.
abbrev pub told_by : ParsedWords → Told
told_by met = told_of (met.name.now, rows_of (found_of met.found.now))

-- Checks whether the words have a value for each place, which is a required positional argument, of the subcommand.
abbrev pub has_places : Told → Bool
has_places told = option_map_or (λ usage. list_all (λ name. has name told) usage.places) (usage_named told.name) false
