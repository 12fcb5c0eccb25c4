use Rattle.std.proofs.Common.{◌∙◌, arith}
use Rattle.surveys.specs.Plotting.{traitor_of}
use Rattle.surveys.proofs.Choosing.{chosen_on, passed_on}
use Rattle.surveys.proofs.seeded_plots.traitors_of.Goals as goal
use Rattle.surveys.proofs.seeded_plots.traitors_of.Goals.{then-is_chosen+in_ok-traitor_of+in_ok-push, else-is_chosen}

pub loop-general-preserved : goal.loop-general-preserved
loop-general-preserved c =
    let F = traitor_of c.args.family.now c.args.seed c.args.generals in
    elim c.if-is_chosen.branch [
      | then-is_chosen+in_ok-traitor_of+in_ok-push w ↦
          rw (w.traitors-is, w.needed-is, w.saturating_sub-needed.ensures, w.in_ok-push.ensures.items, w.in_ok-traitor_of.ensures)
          (chosen_on F c.args.seed c.loop-general.general c.args.generals c.loop-general.needed c.loop-general.traitors.items (omega arith) (rw w.if-is_chosen.true at c.is_chosen.ensures) ∙ c.loop-general.invariant)
      | else-is_chosen w ↦
          rw (w.traitors-is, w.needed-is)
          (passed_on F c.args.seed c.loop-general.general c.args.generals c.loop-general.needed c.loop-general.traitors.items (omega arith) (rw w.if-is_chosen.false at c.is_chosen.ensures) ∙ c.loop-general.invariant)
    ]
