use Rattle.label.proofs.Listing.{proved_labels_differ}
use Rattle.label.proofs.laws.labels_differ.Goals as goal

pub returns : goal.returns
returns c = proved_labels_differ
