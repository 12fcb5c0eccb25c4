use Rattle.std.proofs.Common.{◌≡◌, drop}
use Rattle.cli_words.proofs.CommandLemmas.{row_named}
use Rattle.cli_words.proofs.subcommands.named_among.Given as goal

abbrev pub invariant-loop-subcommand : goal.invariant-loop-subcommand
invariant-loop-subcommand l = row_named l.name (drop l.subcommand-index l.subcommands) ≡ row_named l.name l.subcommands
