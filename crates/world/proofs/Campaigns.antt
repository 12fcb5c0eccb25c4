-- Oral campaigns have the properties that a kind of campaign must have.
use Rattle.std.specs.Prelude.{suc, length}
use Rattle.std.proofs.Common.{refl, sym}
use Rattle.round.proofs.Contexts.{context_is, shape_is}
use Rattle.round.proofs.Loyal.{own_is_told, shape_is_told}
use Rattle.world.specs.World.{oral_kind}
use Rattle.world.specs.Campaigns.{AreCampaigns, TellRelays}

pub oral_campaigns : AreCampaigns oral_kind
oral_campaigns s is = record {
  scenario = is;
  context = λ closed g lt le. context_is s closed g;
  relay = λ closed g lt le. shape_is s g (length closed) is lt le;
}

pub oral_relays : TellRelays oral_kind
oral_relays s is = record {
  own = λ closed g lt le. own_is_told s closed g is lt le;
  shape = λ closed g lt le. sym (shape_is_told s closed g (suc (length closed)) is);
  kind = λ closed g lt le spoken. refl;
}
