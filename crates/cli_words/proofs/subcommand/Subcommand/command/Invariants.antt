use Rattle.std.proofs.Common.{◌≡◌, drop, false}
use Rattle.clap.specs.Words.{app_of, new_app}
use Rattle.clap.specs.declared.builder.command.Command.TheViews.{out-Command}
use Rattle.cli_words.specs.Subcommand.{shape_for}
use Rattle.cli_words.proofs.CommandLemmas.{with_flags, with_places}
use Rattle.cli_words.proofs.subcommand.Subcommand.command.Given as goal

abbrev pub invariant-loop-place : goal.invariant-loop-place
invariant-loop-place l = record {
  app : with_places (app_of l.command) (drop l.place-index l.self.places.now) ≡ with_places (new_app l.self.name.now) l.self.places.now;
  local : (out-Command l.command).has_globals ≡ false;
}

abbrev pub invariant-loop-flag : goal.invariant-loop-flag
invariant-loop-flag l = record {
  shape : (with_flags (app_of l.command) (drop l.flag-index l.self.flags.now)).top ≡ shape_for l.self;
  local : (out-Command l.command).has_globals ≡ false;
}
