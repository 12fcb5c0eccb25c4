use Rattle.std.proofs.Common.{◌∙◌, sym, ap}
use Rattle.threads.proofs.Rules.{posts_only}
use Rattle.threads.proofs.post.PostOf.post.Goals as goal

pub push_as-sent-requires-clause-rule : goal.push_as-sent-requires-clause-rule
push_as-sent-requires-clause-rule g c = (posts_only g.C.Claim.holds _ _ _ _ c.poster.invariant.1 (c.requires.general ∙ sym (ap (λ d. d.general) c.poster.view_is)) c.requires.claim, λ items views h at. tt)
