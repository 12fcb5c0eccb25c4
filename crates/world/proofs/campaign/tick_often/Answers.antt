-- Turns up to an access are taken, and then one more tick.
use Rattle.std.proofs.Common.{◌≡◌, ◌-◌, ◌∙◌, sym, subst, List, arith}
use Rattle.std.specs.Prelude.{slice_get, replicate}
use Rattle.world.specs.declared.event.Event.TheVariants.{Tick}
use Rattle.world.specs.Part.{Progress}
use Rattle.world.specs.Kind.{World, run}
use Rattle.world.specs.Playing.{IsStill}
use Rattle.world.proofs.Ticking.{still_ticks, some_ahead, one_less}
use Rattle.world.proofs.campaign.tick_often.Goals as goal

pub returns-then-is_still : goal.returns-then-is_still
returns-then-is_still g c =
    let w = g.W.PlayableWorld.seen c.loop-left.world in
    let still : IsStill (slice_get w.parts c.args.general) = subst (λ (l : List Progress). IsStill (slice_get l c.args.general)) c.open_parts.ensures (c.is_still.ensures.0 c.if-is_still.true) in
    sym (still_ticks g.W.PlayableWorld.kind c.loop-left.left w c.args.general still) ∙ c.loop-left.invariant

pub loop-left-preserved-then-left-gt0 : goal.loop-left-preserved-then-left-gt0
loop-left-preserved-then-left-gt0 g c =
    let K = g.W.PlayableWorld.kind in
    let more = c.if-left-gt0.true in
    let target : World = run K (g.W.PlayableWorld.seen c.args.world.now) (replicate c.args.times (Tick c.args.general)) in
    let on = g.W.PlayableWorld.seen c.run_on-taken.new.self in
    let mid : run K on (replicate (c.loop-left.left - c.run_on-taken.result) (Tick c.args.general)) ≡ target =
    some_ahead K c.loop-left.left c.run_on-taken.result (c.loop-left.left - c.run_on-taken.result) (g.W.PlayableWorld.seen c.loop-left.world) on target (Tick c.args.general) (omega (arith, more)) c.run_on-taken.ensures.same c.loop-left.invariant in
    one_less K (c.loop-left.left - c.run_on-taken.result) (c.loop-left.left - c.run_on-taken.result - 1) on (g.W.PlayableWorld.seen c.tick.new.self) target (Tick c.args.general) (omega (arith, more)) c.in_ok-tick.ensures.done mid
