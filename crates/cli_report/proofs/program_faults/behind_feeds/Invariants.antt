use Rattle.std.proofs.Common.{◌≡◌, ◌-◌}
use Rattle.cli_report.specs.Scenarios.{behind_feeds}
use Rattle.cli_report.proofs.program_faults.behind_feeds.Given as goal

abbrev pub invariant-loop-fed : goal.invariant-loop-fed
invariant-loop-fed l = behind_feeds (l.number - l.fed) l.rest ≡ behind_feeds l.number l.fn.text
