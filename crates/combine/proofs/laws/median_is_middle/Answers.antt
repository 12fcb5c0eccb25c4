use Rattle.combine.proofs.SortedMiddle.{is_the_middle}
use Rattle.combine.proofs.laws.median_is_middle.Goals as goal

pub returns : goal.returns
returns c = is_the_middle
