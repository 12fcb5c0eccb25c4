use Rattle.label.proofs.Listing.{proved_labels_are_counted}
use Rattle.label.proofs.laws.labels_are_counted.Goals as goal

pub returns : goal.returns
returns c = proved_labels_are_counted
