-- The lines that were read come before the remaining text.
use Rattle.std.proofs.Common.{◌≡◌, ◌≤◌, ◌+◌, length}
use denote.Shadow.{shadow}
use denote.Text.{Utf8}
use Rattle.text.specs.Parts.{lines_of}
use Rattle.asm.specs.Reading.{bytes_on, bytes_said}
use Rattle.asm.proofs.partial.assembler.assemble.Given as goal

abbrev pub invariant-loop-line : goal.invariant-loop-line
invariant-loop-line l = record { whole : bytes_on l.bytes.items l.number (lines_of l.rest) ≡ bytes_said l.text; room : l.number + length l.rest ≤ length l.text + 1; utf8 : shadow (Utf8 l.rest) }

abbrev pub decreases-loop-line : goal.decreases-loop-line
decreases-loop-line l = length l.rest
