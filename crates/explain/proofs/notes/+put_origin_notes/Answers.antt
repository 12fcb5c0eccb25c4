use Rattle.std.proofs.Common.{◌≡◌, ◌<◌, arith, string_bytes}
use Rattle.std.specs.Prelude.{slice_get}
use Rattle.explain.specs.Units.{written_in}
use Rattle.explain.proofs.AboutLemmas.{on_ok}
use Rattle.explain.proofs.NoteLemmas.{none_noted, nothing_more, origins_more}
use Rattle.explain.proofs.notes.+put_origin_notes.Goals as goal

pub returns-then-most-eq0 : goal.returns-then-most-eq0
returns-then-most-eq0 t c =
    let none : c.args.most ≡ 0 = omega arith in
    none_noted (written_in c.args.written.now) (string_bytes c.args.out.now) c.args.program.now (slice_get c.args.states.now) c.args.marked.now c.args.unit c.args.most none

pub returns-in_default : goal.returns-in_default
returns-in_default t c =
    let some : 0 < c.args.most = omega arith in
    nothing_more (written_in c.args.written.now) (string_bytes c.args.out.now) c.args.program.now (slice_get c.args.states.now) c.args.marked.now c.args.unit c.args.most some c.in_default.ensures.origin

pub returns : goal.returns
returns t c =
    let some : 0 < c.args.most = omega arith in
    on_ok c.put_notes_below.result _ _ (λ h. origins_more (written_in c.args.written.now) (string_bytes c.args.out.now) _ _ c.args.program.now (slice_get c.args.states.now) c.args.marked.now c.in_ok-deeper.deeper.items c.as_slice-shown.result.now
    c.args.unit c.in-Some.origin c.args.most some c.in-Some.ensures.origin c.in_ok-deeper.ensures c.as_slice-shown.ensures.value c.in_ok-put_origin_notes.ensures h) c.put_notes_below.ensures
