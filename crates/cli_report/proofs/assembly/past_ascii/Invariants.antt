use Rattle.std.proofs.Common.{◌≡◌, drop}
use Rattle.cli_report.specs.Assembly.{past_ascii}
use Rattle.cli_report.proofs.assembly.past_ascii.Given as goal

abbrev pub invariant-loop-i : goal.invariant-loop-i
invariant-loop-i l = past_ascii (drop l.i l.code) ≡ past_ascii l.code
