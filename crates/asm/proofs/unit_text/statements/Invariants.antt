use Rattle.std.proofs.Common.{◌≡◌, ◌++◌, length, map, string_bytes}
use Rattle.std.specs.List.{flat_map}
use Rattle.asm.specs.Places.{line_statements, statements_of}
use Rattle.asm.specs.Program.{lines_of}
use Rattle.asm.proofs.unit_text.statements.Given as goal

abbrev pub invariant-loop-line : goal.invariant-loop-line
invariant-loop-line l = map string_bytes l.statements.items ++ flat_map line_statements (lines_of l.rest) ≡ statements_of l.fn.text

abbrev pub decreases-loop-line : goal.decreases-loop-line
decreases-loop-line l = length l.rest
