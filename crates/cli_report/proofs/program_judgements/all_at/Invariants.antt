use Rattle.std.proofs.Common.{◌≡◌, map, replicate}
use Rattle.std.specs.String.{string_bytes}
use Rattle.asm.specs.Places.{line_text}
use Rattle.cli_report.proofs.program_judgements.all_at.Given as goal

-- The units so far have the place `line N`.
abbrev pub invariant-loop-unit : goal.invariant-loop-unit
invariant-loop-unit l = map string_bytes l.places.items ≡ replicate l._unit (line_text l.number)
