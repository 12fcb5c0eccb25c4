use Rattle.label.proofs.Masks.{struck}
use Rattle.label.proofs.mask.without.Goals as goal

pub returns : goal.returns
returns c = λ v f. struck c.args.free c.args.general v c.requires f
