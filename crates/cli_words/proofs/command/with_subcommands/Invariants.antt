use Rattle.std.proofs.Common.{◌≡◌, drop}
use Rattle.clap.specs.Words.{app_of}
use Rattle.cli_words.specs.Subcommand.{with_subcommands}
use Rattle.cli_words.proofs.command.with_subcommands.Given as goal

abbrev pub invariant-loop-subcommand : goal.invariant-loop-subcommand
invariant-loop-subcommand l = with_subcommands (app_of l.lab) (drop l.subcommand-index l.subcommands) ≡ with_subcommands (app_of l.fn.lab) l.subcommands
