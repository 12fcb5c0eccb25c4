-- The world is played from its opening to its end.
use Rattle.signed.specs.Kind.{signed_kind}
use Rattle.world.specs.Playing.{lists_in}
use Rattle.signed.proofs.Worlds.{signed_campaigns}
use Rattle.world.proofs.Listed.{replayed_is, replayed_finished}
use Rattle.signed.proofs.campaign.played_named.Goals as goal

pub returns-clause-replayed : goal.returns-clause-replayed
returns-clause-replayed c = replayed_is signed_kind c.args.scenario (lists_in c.args.names.now) c.in_ok-opened.opened c.in_ok-world.world c.in_ok-opened.ensures c.in_ok-world.ensures

pub returns-clause-finished : goal.returns-clause-finished
returns-clause-finished c = replayed_finished signed_kind signed_campaigns c.args.scenario (lists_in c.args.names.now) c.in_ok-world.world c.recall.ensures (returns-clause-replayed c)
