use Rattle.world.proofs.Refusing.{proved_refusals_change_nothing, proved_idle_events_change_nothing}
use Rattle.signed.specs.Kind.{signed_kind}
use Rattle.signed.proofs.laws.signed_refusals_change_nothing.Goals as goal

pub returns-clause-refused : goal.returns-clause-refused
returns-clause-refused c = proved_refusals_change_nothing signed_kind

pub returns-clause-idle : goal.returns-clause-idle
returns-clause-idle c = proved_idle_events_change_nothing signed_kind
