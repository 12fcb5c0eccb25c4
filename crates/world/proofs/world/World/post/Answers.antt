-- The code's post is the event.
use Rattle.world.proofs.Holding.{post_held}
use Rattle.world.specs.World.{oral_kind}
use Rattle.world.proofs.world.World.post.Goals as goal

pub invariant_of-self : goal.invariant_of-self
invariant_of-self c = (
  post_held oral_kind c.self.inside.scenario c.self.inside.closed.items c.self.inside.board c.self.inside.opened c.self.inside.parts.items c.self.inside.full c.args.general
      c.mark_posted.new.parts.items c.self.invariant.0 c.mark_posted.ensures,
  c.self.invariant.1,
)
