use Rattle.std.proofs.Common.{string_bytes}
use Rattle.std.specs.Prelude.{slice_get}
use Rattle.explain.specs.Units.{written_in}
use Rattle.explain.proofs.AboutLemmas.{on_ok, about_so}
use Rattle.explain.proofs.lines.put_about.Goals as goal

pub returns : goal.returns
returns c =
    on_ok c.put_help.result _ _ (λ h. about_so (written_in c.args.written.now) (string_bytes c.args.out.now) _ _ _ (slice_get c.args.states.now) c.args.program.now c.args.unit c.args.insn.now c.args.sentence.now c.in-Some.asked
    c.in_ok-marked.marked.items c.as_slice.result.now c.as_slice-2.result.now _ c.other_number-number.result c.wanted-choice.result
    c.in-Some.ensures c.in_ok-marked.ensures c.as_slice.ensures.value c.as_slice-2.ensures.value c.in_ok-put_notes_on.ensures c.known_by.ensures c.other_number-number.ensures c.in_ok-put_number_notes.ensures c.wanted-choice.ensures.wanted h) c.put_help.ensures
