-- The chronicle is that of the world that was played.
use Rattle.std.proofs.Common.{ap, ◌∙◌}
use Rattle.world.specs.Kind.{World}
use Rattle.world.specs.KindLists.{listed}
use Rattle.world.specs.Schedules.{lines_by}
use Rattle.world.proofs.Lasting.{lists_are_complete}
use Rattle.world.proofs.Promised.{safe_throughout}
use Rattle.signed.specs.Chronicle.{signed_chronicle_of}
use Rattle.signed.specs.Kind.{signed_kind}
use Rattle.signed.proofs.Promised.{promised_agree, promised_decisions, promised_letters, promised_verdict, promised_well}
use Rattle.signed.proofs.Worlds.{signed_campaigns}
use Rattle.signed.proofs.campaign.play_signed.Goals as goal

pub returns-clause-listed : goal.returns-clause-listed
returns-clause-listed c = c.in-Some.ensures.told ∙ ap (λ (w : World). signed_chronicle_of w) c.in_ok-world.ensures.listed

pub returns-clause-complete : goal.returns-clause-complete
returns-clause-complete c = (lists_are_complete signed_kind signed_campaigns).listed c.args.scenario (lines_by c.args.schedule.now) c.recall.ensures

pub returns-clause-safe : goal.returns-clause-safe
returns-clause-safe c = safe_throughout signed_kind signed_campaigns c.args.scenario (listed c.args.scenario (lines_by c.args.schedule.now)) c.recall.ensures

pub returns-clause-letters : goal.returns-clause-letters
returns-clause-letters c = promised_letters c.args.scenario (listed c.args.scenario (lines_by c.args.schedule.now)) c.in-Some.chronicle c.recall.ensures (returns-clause-complete c) (returns-clause-listed c)

pub returns-clause-decisions : goal.returns-clause-decisions
returns-clause-decisions c = promised_decisions c.args.scenario (listed c.args.scenario (lines_by c.args.schedule.now)) c.in-Some.chronicle c.recall.ensures (returns-clause-complete c) (returns-clause-listed c)

pub returns-clause-agree : goal.returns-clause-agree
returns-clause-agree c = promised_agree c.args.scenario (listed c.args.scenario (lines_by c.args.schedule.now)) c.in-Some.chronicle c.recall.ensures (returns-clause-complete c) (returns-clause-listed c)

pub returns-clause-verdict : goal.returns-clause-verdict
returns-clause-verdict c = promised_verdict c.args.scenario (listed c.args.scenario (lines_by c.args.schedule.now)) c.in-Some.chronicle c.recall.ensures (returns-clause-complete c) (returns-clause-listed c)

pub returns-clause-well : goal.returns-clause-well
returns-clause-well c = promised_well c.args.scenario (listed c.args.scenario (lines_by c.args.schedule.now)) c.in-Some.chronicle c.recall.ensures (returns-clause-complete c) (returns-clause-listed c)
