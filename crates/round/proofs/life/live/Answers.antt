-- The program runs from its start to its end, with an empty outbox for oral orders.
use Rattle.std.proofs.Common.{◌∙◌, ℕ, List, [], ap, sym, subst, refl}
use Rattle.std.specs.Prelude.{IfOk, OnErr}
use Rattle.std.specs.Arc.{arc_value}
use Rattle.semantics.specs.Outbox.{empty_outbox}
use Rattle.semantics.specs.Relay.{Relay, oral}
use Rattle.round.specs.Activation.{started}
use Rattle.round.specs.Contexts.{relay_told, shape_told}
use Rattle.round.specs.Running.{IsLivedIn, IsGivenUpIn}
use Rattle.round.proofs.Served.{served_first, any_error}
use Rattle.round.proofs.life.live.Goals as goal

pub live_in-requires-clause-shape : goal.live_in-requires-clause-shape
live_in-requires-clause-shape g c =
    ap (λ (r : Relay). r.shape) c.in_ok-outbox.ensures.relay
    ∙ (c.shape_told-shape.ensures ∙ ap (λ (l : List ℕ). shape_told c.args.general c.args.round l) c.as_slice.ensures.value)

pub live_in-requires-clause-kind : goal.live_in-requires-clause-kind
live_in-requires-clause-kind g c = λ spoken. ap (λ (r : Relay). r.kind) c.in_ok-outbox.ensures.relay

pub live_in-requires-clause-empty : goal.live_in-requires-clause-empty
live_in-requires-clause-empty g c = c.in_ok-outbox.ensures.empty ∙ ap empty_outbox (sym c.in_ok-outbox.ensures.relay)

pub returns-clause-lived : goal.returns-clause-lived
returns-clause-lived g c =
    let relay = c.in_ok-outbox.ensures.relay
    ∙ ap oral (c.shape_told-shape.ensures ∙ ap (λ (l : List ℕ). shape_told c.args.general c.args.round l) c.as_slice.ensures.value) in
    subst (λ (r : Relay). IfOk c.live_in.result (IsLivedIn c.args.general c.args.round (arc_value c.args.program) c.args.context.items r c.args.patience)) relay c.live_in.ensures.lived

pub returns-clause-given_up : goal.returns-clause-given_up
returns-clause-given_up g c =
    let relay = c.in_ok-outbox.ensures.relay
    ∙ ap oral (c.shape_told-shape.ensures ∙ ap (λ (l : List ℕ). shape_told c.args.general c.args.round l) c.as_slice.ensures.value) in
    subst (λ (r : Relay). OnErr c.live_in.result (IsGivenUpIn c.args.general c.args.round (arc_value c.args.program) c.args.context.items r c.args.patience (g.S.Server.served c.args.server.now) (g.S.Server.served c.live_in.new.server)))
    relay c.live_in.ensures.given_up

pub returns-in_err-outbox-clause-given_up : goal.returns-in_err-outbox-clause-given_up
returns-in_err-outbox-clause-given_up g c =
    let start = started c.args.patience (arc_value c.args.program) c.args.context.items (relay_told c.args.general c.args.round c.args.context.items) in
    any_error c.from_residual.result _ (start, [], served_first c.args.general c.args.round start [] (g.S.Server.served c.args.server.now) refl)
