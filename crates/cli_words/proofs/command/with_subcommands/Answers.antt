use Rattle.clap.specs.Words.{app_of}
use Rattle.std.proofs.Common.{◌∙◌}
use Rattle.cli_words.proofs.CommandLemmas.{subcommand_more}
use Rattle.cli_words.proofs.command.with_subcommands.Goals as goal

pub loop-subcommand-preserved : goal.loop-subcommand-preserved
loop-subcommand-preserved c = subcommand_more (app_of c.loop-subcommand.lab) (app_of c.in_ok-lab.lab) _ c.args.subcommands.now c.loop-subcommand.subcommand-index _ c.loop-subcommand-test.true
    c.in_ok-command.ensures.shape (c.in_ok-lab.ensures.shape c.in_ok-command.ensures.local) ∙ c.loop-subcommand.invariant
