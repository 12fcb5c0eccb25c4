use Rattle.std.proofs.Common.{◌≡◌, ◌++◌}
use Rattle.std.specs.Prelude.{slice_get}
use Rattle.std.specs.String.{string_bytes}
use Rattle.explain.specs.Notes.{notes_below}
use Rattle.explain.specs.Units.{written_in}
use Rattle.explain.proofs.notes.put_notes_below.Given as goal

abbrev pub invariant-loop-place : goal.invariant-loop-place
invariant-loop-place l = string_bytes l.out ≡ string_bytes l.fn.out ++ notes_below (written_in l.written) l.program (slice_get l.states) l.asked l.marks l.place
