use Rattle.surveys.proofs.Ranks.{least_more}
use Rattle.surveys.proofs.breach_search.least.Goals as goal

pub loop-breach-preserved : goal.loop-breach-preserved
loop-breach-preserved c = rw c.better-least.ensures (least_more c.loop-breach.yielded c.loop-breach.least c.in-Some.breach c.loop-breach.invariant)
