use Rattle.label.proofs.Masks.{all-free}
use Rattle.label.proofs.mask.all_free.Goals as goal

pub returns : goal.returns
returns c = all-free
