use Rattle.label.proofs.Masks.{counted}
use Rattle.label.proofs.mask.free_below.Goals as goal

pub returns : goal.returns
returns c = λ v f. counted c.args.free c.args.general v c.requires f
