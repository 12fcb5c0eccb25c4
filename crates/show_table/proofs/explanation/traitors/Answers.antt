use Rattle.std.proofs.Common.{◌∙◌, sym}
use Rattle.round.specs.Scenario.{is_traitor}
use Rattle.show_table.proofs.Named.{named_more, named_same}
use Rattle.show_table.proofs.explanation.traitors.Goals as goal
use Rattle.show_table.proofs.explanation.traitors.Goals.{then-is_traitor+in_ok-push, else-is_traitor}

pub loop-general-preserved : goal.loop-general-preserved
loop-general-preserved c =
    elim c.if-is_traitor.branch [
      | then-is_traitor+in_ok-push w ↦
          rw (w.traitors-is, w.in_ok-push.ensures.items, c.loop-general.invariant) (sym (named_more (is_traitor c.args.scenario.now) c.loop-general.general (sym c.is_traitor.ensures ∙ w.if-is_traitor.true)))
      | else-is_traitor w ↦
          rw (w.traitors-is, c.loop-general.invariant) (sym (named_same (is_traitor c.args.scenario.now) c.loop-general.general (sym c.is_traitor.ensures ∙ w.if-is_traitor.false)))
    ]
