-- The code's tick is the event.
use Rattle.std.proofs.Common.{suc, length, ap, ◌∙◌, sym}
use Rattle.world.specs.Kind.{World}
use Rattle.signed.specs.Kind.{signed_kind}
use Rattle.signed.proofs.Closed.{ticked_kept}
use Rattle.world.proofs.Holding.{tick_done}
use Rattle.signed.proofs.signed_world.SignedWorld.turn.Goals as goal

pub invariant_of-self : goal.invariant_of-self
invariant_of-self c =
    let s = c.self.inside in
    ticked_kept s.scenario s.closed.items s.board s.opened s.parts.items s.full s.sent.items s.signers.items c.self.invariant c.turn.result c.args.general c.round-round.result
    c.turn.new.parts.items c.turn.new.board (c.round-round.ensures ∙ ap (λ (w : World). suc (length w.closed)) (sym c.self.view_is)) c.turn.ensures.done c.turn.ensures.undone

pub returns-clause-done : goal.returns-clause-done
returns-clause-done c =
    let s = c.self.inside in
    tick_done signed_kind s.scenario s.closed.items s.board s.opened s.parts.items s.full c.turn.result c.args.general c.round-round.result
    c.turn.new.parts.items c.turn.new.board c.args.self.now (c.round-round.ensures ∙ ap (λ (w : World). suc (length w.closed)) (sym c.self.view_is)) c.self.view_is c.turn.ensures.done
