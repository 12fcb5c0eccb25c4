use Rattle.label.proofs.Listing.{proved_labels_are_exact}
use Rattle.label.proofs.laws.labels_are_exact.Goals as goal

pub returns : goal.returns
returns c = proved_labels_are_exact
