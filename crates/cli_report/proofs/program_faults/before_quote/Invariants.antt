use Rattle.std.proofs.Common.{◌≡◌, ◌++◌, drop, take}
use Rattle.cli_report.specs.Scenarios.{before_quote}
use Rattle.cli_report.proofs.program_faults.before_quote.Given as goal

abbrev pub invariant-loop-i : goal.invariant-loop-i
invariant-loop-i l = before_quote l.quote l.text ≡ take l.i l.text ++ before_quote l.quote (drop l.i l.text)
