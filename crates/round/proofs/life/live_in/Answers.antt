-- The program runs from its start to its end.
use Rattle.std.proofs.Common.{◌∙◌, ℕ, List, [], ◌++◌, ap, sym, subst, arith, refl}
use Rattle.std.specs.Arc.{arc_value}
use Rattle.semantics.specs.Relay.{Relay}
use Rattle.round.specs.Activation.{Activation, started}
use Rattle.round.specs.Letters.{Letter}
use Rattle.round.specs.Contexts.{IsToldTo, shape_told, tells_oral}
use Rattle.round.specs.Running.{IsWayServed}
use Rattle.round.proofs.Onwards.{letter_of_run, own_run, lived}
use Rattle.round.proofs.Served.{served_first, any_error}
use Rattle.round.proofs.life.live_in.Goals as goal

pub loop-running-init : goal.loop-running-init
loop-running-init g c =
    let start = started c.args.patience (arc_value c.args.program) c.args.context.items c.args.outbox.relay in
    let served = g.S.Server.served c.args.server.now in
    subst (λ (a : Activation). IsWayServed c.args.general c.args.round start a served c.new-transcript.result.items served) (sym c.in_ok-running.ensures)
    (served_first c.args.general c.args.round start c.new-transcript.result.items served c.new-transcript.ensures.items)

pub loop-running-preserved : goal.loop-running-preserved
loop-running-preserved g c = c.in_ok-go_on.ensures.way _ _ c.loop-running.invariant

pub loop-running-smaller : goal.loop-running-smaller
loop-running-smaller g c =
    let later = c.in_ok-go_on.ensures.later in
    let few = c.in_ok-go_on.ensures.few in
    omega arith

pub into_letter-requires : goal.into_letter-requires
into_letter-requires g c =
    let way = c.loop-running.invariant.way in
    let s = way.same in
    letter_of_run c.args.general c.args.round c.loop-running.transcript.items c.loop-running.running c.has_ended.ensures.whole
    (subst (λ (l : List ℕ). IsToldTo c.args.general c.args.round l) (sym s.context) c.requires.own)
    (ap (λ (r : Relay). r.shape) s.relay ∙ (c.requires.shape ∙ ap (λ (l : List ℕ). shape_told c.args.general c.args.round l) (sym s.context)))
    (λ spoken. ap (λ (r : Relay). r.kind) s.relay ∙ c.requires.kind (subst (λ (l : List ℕ). tells_oral l) s.context spoken))
    way.fitting
    (own_run c.args.general c.args.round (arc_value c.args.program) c.args.context.items c.args.patience c.args.outbox.relay c.loop-running.transcript.items c.loop-running.running way)

pub returns-clause-lived : goal.returns-clause-lived
returns-clause-lived g c =
    lived c.args.general c.args.round (arc_value c.args.program) c.args.context.items c.args.patience c.args.outbox.relay c.loop-running.transcript.items c.loop-running.running c.into_letter.result
    c.has_ended.ensures.within c.loop-running.invariant.way (sym c.has_ended.ensures.ended ∙ c.loop-running-test.false) c.into_letter.ensures

pub returns-clause-served : goal.returns-clause-served
returns-clause-served g c = c.loop-running.invariant.whole ∙ ap (λ (l : Letter). g.S.Server.served c.args.server.now ++ l.transcript) (sym c.into_letter.ensures)

pub returns-in_err-running-clause-given_up : goal.returns-in_err-running-clause-given_up
returns-in_err-running-clause-given_up g c =
    let start = started c.args.patience (arc_value c.args.program) c.args.context.items c.args.outbox.relay in
    any_error c.from_residual.result _ (start, [], served_first c.args.general c.args.round start [] (g.S.Server.served c.args.server.now) refl)
