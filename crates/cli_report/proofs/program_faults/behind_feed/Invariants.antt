use Rattle.std.proofs.Common.{◌≡◌, drop}
use Rattle.cli_report.specs.Scenarios.{behind_feed}
use Rattle.cli_report.proofs.program_faults.behind_feed.Given as goal

abbrev pub invariant-loop-i : goal.invariant-loop-i
invariant-loop-i l = behind_feed (drop l.i l.text) ≡ behind_feed l.text
