-- One more general is considered.
use Rattle.std.proofs.Common.{◌<◌, arith, sym, ◌∙◌}
use Rattle.trace.proofs.DecisionLemmas.{told_commander, told_more, told_none}
use Rattle.trace.proofs.letters.put_decisions.Goals as goal
use Rattle.trace.proofs.letters.put_decisions.Goals.{then-general-commander, else-general-commander}

pub loop-general-init : goal.loop-general-init
loop-general-init g c = told_none _ _ _ _

pub loop-general-preserved : goal.loop-general-preserved
loop-general-preserved g c =
    let inside : c.loop-general.general < c.args.scenario.now.generals = let e = c.generals-general-end.ensures.same in omega arith in
    elim c.if-general-commander.branch [
      | then-general-commander w ↦
          rw (w.sink-is, w.place-is) (told_more c.loop-general.invariant inside (λ e. w.if-general-commander.true (e ∙ sym c.commander.ensures.same)) w.decision_at.ensures w.put_decided.ensures)
      | else-general-commander w ↦
          rw (w.sink-is, w.place-is) (told_commander c.loop-general.invariant inside (w.if-general-commander.false ∙ c.commander.ensures.same))
    ]
