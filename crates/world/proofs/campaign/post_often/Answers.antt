-- Repeated posts are one post.
use Rattle.std.proofs.Common.{◌≡◌, ◌-◌, ◌∙◌, ℕ, suc, sym, ap, arith}
use Rattle.std.specs.Prelude.{replicate}
use Rattle.world.specs.declared.event.Event.TheVariants.{Post}
use Rattle.world.specs.Kind.{run}
use Rattle.world.proofs.Listed.{posts_once}
use Rattle.world.proofs.campaign.post_often.Goals as goal

pub returns : goal.returns
returns g c =
    let w = g.W.PlayableWorld.seen c.args.world.now in
    let m : suc (c.args.times - 1) ≡ c.args.times = (let h = c.requires in omega arith) in
    c.give_post.ensures ∙ (sym (posts_once g.W.PlayableWorld.kind (c.args.times - 1) w c.args.general) ∙ ap (λ (n : ℕ). run g.W.PlayableWorld.kind w (replicate n (Post c.args.general))) m)
