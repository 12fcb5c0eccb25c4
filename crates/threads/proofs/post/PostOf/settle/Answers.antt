use Rattle.threads.proofs.Rules.{learns_only}
use Rattle.threads.proofs.post.PostOf.settle.Goals as goal

pub learn_as-requires-clause-rule : goal.learn_as-requires-clause-rule
learn_as-requires-clause-rule g c = learns_only g.C.Claim.holds _ _ c.all_back-pass.ensures.takes
