use Rattle.threads.proofs.Rules.{takes_only, learns_only}
use Rattle.threads.proofs.post.PostOf.take.Goals as goal

pub pop_as-taken-requires-clause-rule : goal.pop_as-taken-requires-clause-rule
pop_as-taken-requires-clause-rule g c = (takes_only g.C.Claim.holds _ _ c.collector.invariant.1, learns_only g.C.Claim.holds _ _ c.collector.invariant.1)
