use Rattle.world.specs.World.{oral_kind}
use Rattle.world.proofs.Refusing.{proved_idle_events_change_nothing}
use Rattle.world.proofs.laws.idle_events_change_nothing.Goals as goal

pub returns : goal.returns
returns c = proved_idle_events_change_nothing oral_kind
