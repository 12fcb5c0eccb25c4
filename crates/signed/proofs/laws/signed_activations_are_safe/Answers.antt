use Rattle.world.proofs.Untrapped.{activations_are_safe}
use Rattle.world.proofs.Standing.{parts_are_placed}
use Rattle.signed.specs.Kind.{signed_kind}
use Rattle.signed.proofs.Worlds.{signed_campaigns}
use Rattle.signed.proofs.laws.signed_activations_are_safe.Goals as goal

pub returns-clause-safe : goal.returns-clause-safe
returns-clause-safe c = activations_are_safe signed_kind signed_campaigns

pub returns-clause-placed : goal.returns-clause-placed
returns-clause-placed c = parts_are_placed signed_kind signed_campaigns
