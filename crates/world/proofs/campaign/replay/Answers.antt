-- The chronicle is that of the world that was played.
use Rattle.std.proofs.Common.{ap, subst, ◌∙◌}
use Rattle.world.specs.World.{World, oral_kind}
use Rattle.world.specs.Agreement.{IsFinished}
use Rattle.world.specs.Chronicle.{chronicle_of}
use Rattle.world.specs.Lists.{replayed}
use Rattle.world.specs.Playing.{lists_in}
use Rattle.world.proofs.Campaigns.{oral_campaigns}
use Rattle.world.proofs.Lasting.{lists_are_complete}
use Rattle.world.proofs.Outcomes.{finished_agree, finished_decisions, finished_verdict, finished_well}
use Rattle.world.proofs.Promised.{safe_throughout, whole_told}
use Rattle.world.proofs.campaign.replay.Goals as goal

pub returns-clause-replayed : goal.returns-clause-replayed
returns-clause-replayed c = c.in-Some.ensures.told ∙ ap (λ (w : World). chronicle_of w) c.in_ok-world.ensures.replayed

pub returns-clause-complete : goal.returns-clause-complete
returns-clause-complete c = (lists_are_complete oral_kind oral_campaigns).replayed c.args.scenario (lists_in c.args.names.now) c.recall.ensures

pub returns-clause-safe : goal.returns-clause-safe
returns-clause-safe c = safe_throughout oral_kind oral_campaigns c.args.scenario (replayed c.args.scenario (lists_in c.args.names.now)) c.recall.ensures

pub returns-clause-letters : goal.returns-clause-letters
returns-clause-letters c =
    whole_told c.args.scenario (replayed c.args.scenario (lists_in c.args.names.now)) c.in-Some.chronicle c.recall.ensures (returns-clause-complete c) (returns-clause-replayed c)

pub returns-clause-decisions : goal.returns-clause-decisions
returns-clause-decisions c =
    finished_decisions c.args.scenario (replayed c.args.scenario (lists_in c.args.names.now)) c.in-Some.chronicle c.recall.ensures (subst (λ (w : World). IsFinished w) c.in_ok-world.ensures.replayed c.in_ok-world.ensures.finished) (returns-clause-replayed c)

pub returns-clause-agree : goal.returns-clause-agree
returns-clause-agree c =
    finished_agree c.args.scenario (replayed c.args.scenario (lists_in c.args.names.now)) c.in-Some.chronicle c.recall.ensures (subst (λ (w : World). IsFinished w) c.in_ok-world.ensures.replayed c.in_ok-world.ensures.finished) (returns-clause-replayed c)

pub returns-clause-verdict : goal.returns-clause-verdict
returns-clause-verdict c =
    finished_verdict c.args.scenario (replayed c.args.scenario (lists_in c.args.names.now)) c.in-Some.chronicle c.recall.ensures (subst (λ (w : World). IsFinished w) c.in_ok-world.ensures.replayed c.in_ok-world.ensures.finished) (returns-clause-replayed c)

pub returns-clause-well : goal.returns-clause-well
returns-clause-well c =
    finished_well c.args.scenario (replayed c.args.scenario (lists_in c.args.names.now)) c.in-Some.chronicle c.recall.ensures (subst (λ (w : World). IsFinished w) c.in_ok-world.ensures.replayed c.in_ok-world.ensures.finished) (returns-clause-replayed c)
