-- What the type of a signed world guarantees.
use Rattle.signed.proofs.Worlds.{signed_campaigns}
use Rattle.signed.proofs.plays.SignedWorldPlayableWorld.campaign.Goals as goal

pub returns-clause-campaigns : goal.returns-clause-campaigns
returns-clause-campaigns c = signed_campaigns
