-- Turns without an access are ticks.
use Rattle.std.proofs.Common.{refl, sym, ap, ◌∙◌}
use Rattle.std.specs.Prelude.{slice_get, replicate}
use Rattle.world.specs.declared.event.Event.TheVariants.{Tick}
use Rattle.world.specs.Kind.{World, run}
use Rattle.signed.specs.Kind.{signed_kind}
use Rattle.signed.proofs.Closed.{ahead_kept}
use Rattle.world.proofs.Holding.{ahead_is}
use Rattle.signed.proofs.signed_world.SignedWorld.ahead.Goals as goal

pub invariant_of-self : goal.invariant_of-self
invariant_of-self c =
    let s = c.self.inside in
    ahead_kept s.scenario s.closed.items s.board s.opened s.parts.items s.full s.sent.items s.signers.items c.self.invariant c.args.limit c.ahead.result c.args.general c.ahead.new.parts.items c.ahead.ensures

pub returns-clause-same : goal.returns-clause-same
returns-clause-same c =
    let s = c.self.inside in
    let h = ahead_is signed_kind s.scenario s.closed.items s.board s.opened s.full c.args.limit c.ahead.result c.args.general s.parts.items c.ahead.new.parts.items (slice_get s.parts.items c.args.general) refl c.ahead.ensures in
    sym h ∙ ap (λ (w : World). run signed_kind w (replicate c.ahead.result (Tick c.args.general))) c.self.view_is
