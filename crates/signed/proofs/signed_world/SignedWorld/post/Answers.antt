-- The code's post is the event.
use Rattle.signed.proofs.Closed.{posted_kept}
use Rattle.signed.proofs.signed_world.SignedWorld.post.Goals as goal

pub invariant_of-self : goal.invariant_of-self
invariant_of-self c =
    let s = c.self.inside in
    posted_kept s.scenario s.closed.items s.board s.opened s.parts.items s.full s.sent.items s.signers.items c.self.invariant c.args.general c.mark_posted.new.parts.items c.mark_posted.ensures
