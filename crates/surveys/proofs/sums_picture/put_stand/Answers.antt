use Rattle.surveys.specs.Pictures.{stand}
use Rattle.surveys.proofs.sums_picture.put_stand.Goals as goal

pub returns : goal.returns
unfolding stand
returns c = rw c.from.ensures at c.write.ensures.bytes
