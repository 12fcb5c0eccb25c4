use Rattle.clap.specs.Words.{app_of}
use Rattle.surveyor.proofs.FlagLemmas.{flag_more}
use Rattle.surveyor.proofs.flags.with_flags.Goals as goal

pub loop-flag-preserved : goal.loop-flag-preserved
loop-flag-preserved c = flag_more (app_of c.args.command) (app_of c.loop-flag.command) (app_of c.in_ok-command.command) _ c.args.flags.now c.loop-flag.flag-index _ c.loop-flag-test.true
    c.argument.ensures.rule c.loop-flag.invariant (c.in_ok-command.ensures.shape c.argument.ensures.local)
