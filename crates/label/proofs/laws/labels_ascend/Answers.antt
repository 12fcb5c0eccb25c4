use Rattle.label.proofs.Listing.{proved_labels_ascend}
use Rattle.label.proofs.laws.labels_ascend.Goals as goal

pub returns : goal.returns
returns c = proved_labels_ascend
