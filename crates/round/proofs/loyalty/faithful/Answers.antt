-- The orders for all receivers are put in one pass.
use Rattle.std.proofs.Common.{◌∙◌, ap, map, Some}
use Rattle.semantics.specs.Relay.{Relay}
use Rattle.semantics.specs.Outbox.{places, taken_value}
use Rattle.round.proofs.loyalty.faithful.Goals as goal

pub returns : goal.returns
returns c =
    let relay = c.honest_to_all.ensures.relay ∙ c.in_ok-outbox.ensures.relay in
    let rows = c.honest_to_all.ensures.rows ∙ ap (λ (r : Relay). map (λ row. map (λ place. Some (taken_value c.args.context.now place.rank)) row) (places r)) c.in_ok-outbox.ensures.relay in
    let entries = c.honest_to_all.ensures.entries ∙ c.in_ok-outbox.ensures.unentered in
    (λ i. record { relay = relay i; rows = rows i; entries = entries i })
