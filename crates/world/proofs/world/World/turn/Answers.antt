-- The code's tick is the event.
use Rattle.std.proofs.Common.{suc, length, ap, ◌∙◌, sym}
use Rattle.world.specs.World.{oral_kind, World}
use Rattle.world.proofs.Holding.{tick_held, tick_done}
use Rattle.world.proofs.world.World.turn.Goals as goal

pub invariant_of-self : goal.invariant_of-self
invariant_of-self c = (
  tick_held oral_kind c.self.inside.scenario c.self.inside.closed.items c.self.inside.board c.self.inside.opened c.self.inside.parts.items c.self.inside.full c.turn.result c.args.general c.round-round.result
      c.turn.new.parts.items c.turn.new.board (c.round-round.ensures ∙ ap (λ (w : World). suc (length w.closed)) (sym c.self.view_is)) c.self.invariant.0 c.turn.ensures.done c.turn.ensures.undone,
  c.self.invariant.1,
)

pub returns-clause-done : goal.returns-clause-done
returns-clause-done c =
    tick_done oral_kind c.self.inside.scenario c.self.inside.closed.items c.self.inside.board c.self.inside.opened c.self.inside.parts.items c.self.inside.full c.turn.result c.args.general c.round-round.result
    c.turn.new.parts.items c.turn.new.board c.args.self.now (c.round-round.ensures ∙ ap (λ (w : World). suc (length w.closed)) (sym c.self.view_is)) c.self.view_is c.turn.ensures.done
