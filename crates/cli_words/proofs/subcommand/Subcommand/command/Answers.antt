use Rattle.std.proofs.Common.{◌∙◌, sym}
use Rattle.std.proofs.lemmas.List.{at_drop_all}
use Rattle.clap.specs.Words.{app_of}
use Rattle.cli_words.proofs.CommandLemmas.{flag_more, place_more, row_is, still_local, with_places}
use Rattle.cli_words.proofs.subcommand.Subcommand.command.Goals as goal

pub loop-flag-init : goal.loop-flag-init
loop-flag-init c = record {
  shape = row_is c.args.self.now (app_of c.loop-place.command)
      (sym (at_drop_all (with_places (app_of c.loop-place.command)) c.args.self.now.places.now c.loop-place.place-index c.loop-place-test.false) ∙ c.loop-place.invariant.app);
  local = c.loop-place.invariant.local;
}

pub loop-place-preserved : goal.loop-place-preserved
loop-place-preserved c = record {
  app = place_more (app_of c.loop-place.command) (app_of c.in_ok-command.command) _ c.args.self.now.places.now c.loop-place.place-index _ c.loop-place-test.true
      c.argument.ensures.rule (c.in_ok-command.ensures.shape c.argument.ensures.local) ∙ c.loop-place.invariant.app;
  local = still_local _ _ _ c.in_ok-command.ensures.globals c.loop-place.invariant.local c.argument.ensures.local;
}

pub loop-flag-preserved : goal.loop-flag-preserved
loop-flag-preserved c = record {
  shape = flag_more (app_of c.loop-flag.command) (app_of c.in_ok-command-2.command) _ c.args.self.now.flags.now c.loop-flag.flag-index _ c.loop-flag-test.true
      c.argument-in-loop-flag.ensures.rule (c.in_ok-command-2.ensures.shape c.argument-in-loop-flag.ensures.local) ∙ c.loop-flag.invariant.shape;
  local = still_local _ _ _ c.in_ok-command-2.ensures.globals c.loop-flag.invariant.local c.argument-in-loop-flag.ensures.local;
}
