-- The world is played from its opening to its end.
use Rattle.signed.specs.Kind.{signed_kind}
use Rattle.world.specs.Schedules.{lines_by}
use Rattle.signed.proofs.Worlds.{signed_campaigns}
use Rattle.world.proofs.Listed.{played_is, played_finished}
use Rattle.signed.proofs.campaign.played_listed.Goals as goal

pub returns-clause-listed : goal.returns-clause-listed
returns-clause-listed c = played_is signed_kind c.args.scenario (lines_by c.args.schedule.now) c.in_ok-opened.opened c.in_ok-world.world c.in_ok-opened.ensures c.in_ok-world.ensures

pub returns-clause-finished : goal.returns-clause-finished
returns-clause-finished c = played_finished signed_kind signed_campaigns c.args.scenario (lines_by c.args.schedule.now) c.in_ok-world.world c.recall.ensures (returns-clause-listed c)
