use Rattle.std.proofs.Common.{◌≡◌, replicate}
use Rattle.std.specs.String.{string_bytes}
use Rattle.cli_report.proofs.program_judgements.pushed_down.Given as goal

-- The empty lines so far were appended.
abbrev pub invariant-loop-line : goal.invariant-loop-line
invariant-loop-line l = string_bytes l.pushed ≡ replicate l._line 10
