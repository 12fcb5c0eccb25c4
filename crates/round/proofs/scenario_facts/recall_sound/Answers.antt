-- One more player is considered, and in the end all.
use Rattle.std.proofs.Common.{◌≡◌, ◌<◌, ◌∙◌, List, Option, Some, length, subst, sym, refl, arith, below_more}
use Rattle.std.specs.Prelude.{slice_get, IfSome}
use Rattle.std.proofs.lemmas.Option.{slice_get_read, slice_get_within}
use Rattle.insn.specs.declared.insn.Insn.{Insn}
use Rattle.semantics.specs.Run.{IsSound}
use Rattle.round.proofs.scenario_facts.recall_sound.Goals as goal

pub loop-seat-preserved : goal.loop-seat-preserved
loop-seat-preserved c =
    below_more _ _ c.loop-seat.invariant (λ program at.
    let here : slice_get c.args.seats.now c.loop-seat.seat-index ≡ Some c.seat-item.result = slice_get_read c.args.seats.now (length c.args.seats.now) c.loop-seat.seat-index c.seat-item.result refl c.loop-seat-test.true c.seat-item.is in
    let both : Some c.seat-item.result ≡ Some (Some program) = sym here ∙ at in
    let same : c.seat-item.result ≡ Some program = cc in
    subst (λ (o : Option (List Insn)). IfSome o IsSound) same c.program-sound.ensures.sound)

pub returns : goal.returns
returns c i program at =
    let inside : i < length c.args.seats.now = slice_get_within c.args.seats.now i (Some program) at in
    c.loop-seat.invariant i (omega arith) program at
