use Rattle.show_chains.proofs.LoyalLaws.{proved_only_traitors_differ}
use Rattle.show_chains.proofs.laws.only_traitors_differ.Goals as goal

pub returns : goal.returns
returns c = proved_only_traitors_differ
