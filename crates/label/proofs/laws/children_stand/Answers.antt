use Rattle.label.proofs.Listing.{proved_children_stand}
use Rattle.label.proofs.laws.children_stand.Goals as goal

pub returns : goal.returns
returns c = proved_children_stand
