use Rattle.std.proofs.Common.{sym, ap}
use Rattle.world.proofs.Replaying.{runs_are_replays}
use Rattle.signed.specs.Kind.{signed_kind}
use Rattle.signed.specs.Chronicle.{signed_chronicle_of}
use Rattle.signed.proofs.Worlds.{signed_campaigns}
use Rattle.signed.proofs.laws.signed_runs_are_replays.Goals as goal

pub returns-clause-worlds : goal.returns-clause-worlds
returns-clause-worlds c = runs_are_replays signed_kind signed_campaigns

pub returns-clause-chronicles : goal.returns-clause-chronicles
returns-clause-chronicles c = λ s events is complete. ap signed_chronicle_of (sym ((runs_are_replays signed_kind signed_campaigns).worlds s events is complete))
