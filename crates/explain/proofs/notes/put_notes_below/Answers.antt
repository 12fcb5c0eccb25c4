use Rattle.std.proofs.Common.{string_bytes}
use Rattle.std.specs.Prelude.{slice_get}
use Rattle.explain.specs.Units.{written_in}
use Rattle.explain.proofs.NoteLemmas.{notes_more}
use Rattle.explain.proofs.notes.put_notes_below.Goals as goal

pub loop-place-preserved : goal.loop-place-preserved
loop-place-preserved c =
    notes_more (written_in c.args.written.now) (string_bytes c.args.out.now) _ _ c.args.program.now (slice_get c.args.states.now) c.args.asked.now c.args.marks.now c.loop-place.place _ _ _
    c.at-insn.ensures.found c.known_by-state.ensures c.mark_at-in-loop-place.ensures c.loop-place.invariant c.in_ok-put_note_at.ensures
