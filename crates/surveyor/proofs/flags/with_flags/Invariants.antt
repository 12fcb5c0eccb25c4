use Rattle.std.proofs.Common.{◌≡◌, map, take}
use Rattle.clap.specs.Words.{app_of}
use Rattle.surveyor.specs.Flags.{rule_for, with_rules}
use Rattle.surveyor.proofs.flags.with_flags.Given as goal

abbrev pub invariant-loop-flag : goal.invariant-loop-flag
invariant-loop-flag l = app_of l.command ≡ with_rules (app_of l.fn.command) (map rule_for (take l.flag-index l.flags))
