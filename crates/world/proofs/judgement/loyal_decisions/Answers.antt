-- One more general is considered.
use Rattle.std.proofs.Common.{◌<◌, arith, sym, ◌∙◌}
use Rattle.world.proofs.Counted.{gathered_commander, gathered_more}
use Rattle.world.proofs.judgement.loyal_decisions.Goals as goal
use Rattle.world.proofs.judgement.loyal_decisions.Goals.{then-general-commander, else-general-commander}

pub loop-general-preserved : goal.loop-general-preserved
loop-general-preserved c =
    let inside : c.loop-general.general < c.args.scenario.now.generals = let e = c.generals-general-end.ensures.same in omega arith in
    elim c.if-general-commander.branch [
      | then-general-commander w ↦
          rw (w.loyal-is, w.place-is) (gathered_more c.args.scenario.now c.args.decisions.now c.loop-general.general c.loop-general.place c.loop-general.loyal.items w.count.new.loyal.items c.loop-general.invariant inside (λ e. w.if-general-commander.true (e ∙ sym c.commander.ensures.same)) w.count.ensures)
      | else-general-commander w ↦
          rw (w.loyal-is, w.place-is) (gathered_commander c.args.scenario.now c.args.decisions.now c.loop-general.general c.loop-general.place c.loop-general.loyal.items c.loop-general.invariant inside (w.if-general-commander.false ∙ c.commander.ensures.same))
    ]
