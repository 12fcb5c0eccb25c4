use Rattle.round.specs.Scenario.{is_traitor}
use Rattle.surveys.proofs.Ranges.{filter_range}
use Rattle.surveys.proofs.accounting.listed_traitors.Goals as goal

pub loop-general-preserved : goal.loop-general-preserved
loop-general-preserved c =
    rw (c.in_ok-push_traitor.ensures, c.is_traitor.ensures, c.loop-general.invariant) (filter_range (is_traitor c.args.scenario.now) c.loop-general.general)
