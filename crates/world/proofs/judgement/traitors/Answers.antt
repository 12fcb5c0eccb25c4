-- One more general is considered.
use Rattle.std.proofs.Common.{◌<◌, arith, sym, ◌∙◌}
use Rattle.world.proofs.Counted.{counted_yes, counted_no}
use Rattle.world.proofs.judgement.traitors.Goals as goal
use Rattle.world.proofs.judgement.traitors.Goals.{then-is_traitor, else-is_traitor}

pub loop-general-preserved : goal.loop-general-preserved
loop-general-preserved c =
    let inside : c.loop-general.general < c.args.scenario.now.generals = let e = c.generals-general-end.ensures.same in omega arith in
    elim c.if-is_traitor.branch [
      | then-is_traitor w ↦ rw w.traitors-is (counted_yes c.args.scenario.now c.loop-general.general c.loop-general.traitors c.loop-general.invariant inside (sym c.is_traitor.ensures ∙ w.if-is_traitor.true))
      | else-is_traitor w ↦ rw w.traitors-is (counted_no c.args.scenario.now c.loop-general.general c.loop-general.traitors c.loop-general.invariant inside (sym c.is_traitor.ensures ∙ w.if-is_traitor.false))
    ]
