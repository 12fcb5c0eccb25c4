use Rattle.std.proofs.Common.{◌≡◌, ◌++◌, drop, take}
use Rattle.cli_report.specs.Scenarios.{before_feed}
use Rattle.cli_report.proofs.program_faults.before_feed.Given as goal

abbrev pub invariant-loop-i : goal.invariant-loop-i
invariant-loop-i l = before_feed l.quote l.text ≡ take l.i l.text ++ before_feed l.quote (drop l.i l.text)
