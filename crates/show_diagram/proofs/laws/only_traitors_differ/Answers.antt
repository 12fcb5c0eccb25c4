use Rattle.show_diagram.proofs.LoyalLaws.{proved_only_traitors_differ}
use Rattle.show_diagram.proofs.laws.only_traitors_differ.Goals as goal

pub returns : goal.returns
returns c = proved_only_traitors_differ
