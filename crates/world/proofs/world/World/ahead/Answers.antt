-- Turns without an access are ticks.
use Rattle.std.proofs.Common.{refl, sym, ap, ◌∙◌}
use Rattle.std.specs.Prelude.{slice_get, replicate}
use Rattle.world.specs.declared.event.Event.TheVariants.{Tick}
use Rattle.world.specs.World.{oral_kind, World, run}
use Rattle.world.proofs.Holding.{ahead_is, held_on}
use Rattle.world.proofs.world.World.ahead.Goals as goal

pub invariant_of-self : goal.invariant_of-self
invariant_of-self c =
    let s = c.self.inside in
    let h = ahead_is oral_kind s.scenario s.closed.items s.board s.opened s.full c.args.limit c.ahead.result c.args.general s.parts.items c.ahead.new.parts.items (slice_get s.parts.items c.args.general) refl c.ahead.ensures in
    (held_on oral_kind s.scenario s.closed.items s.board s.opened s.parts.items s.full s.closed.items s.board s.opened c.ahead.new.parts.items s.full (replicate c.ahead.result (Tick c.args.general)) c.self.invariant.0 (sym h) refl, c.self.invariant.1)

pub returns-clause-same : goal.returns-clause-same
returns-clause-same c =
    let s = c.self.inside in
    let h = ahead_is oral_kind s.scenario s.closed.items s.board s.opened s.full c.args.limit c.ahead.result c.args.general s.parts.items c.ahead.new.parts.items (slice_get s.parts.items c.args.general) refl c.ahead.ensures in
    sym h ∙ ap (λ (w : World). run w (replicate c.ahead.result (Tick c.args.general))) c.self.view_is
