-- The world is finished exactly if there is a chronicle.
use Rattle.std.proofs.Common.{◌≡◌, length, refl, ◌∙◌, arith}
use Rattle.world.proofs.Outcomes.{is_done}
use Rattle.world.proofs.world.World.chronicle.Goals as goal

pub returns-clause-finished : goal.returns-clause-finished
returns-clause-finished c =
    let s = c.self.inside in
    let len : c.len.result ≡ length s.closed.items = (let o = s.closed.ok in let h = c.len.ensures in omega arith) in
    let done = is_done s.scenario s.closed.items s.board s.opened s.parts.items s.full c.args.self c.len.result c.from.result c.bound.ensures.whole c.self.invariant.0 c.self.view_is len (c.from.ensures ∙ c.bound.ensures.same) c.if-len-from.false
    c.if-not-self.false in
    (λ e. done, λ f. refl)
