use Rattle.std.proofs.Common.{ℕ, ◌≡◌, ◌+◌, ◌-◌, ◌*◌, ◌^◌, true, false, ap, ◌∙◌}
use Rattle.lies.specs.Estimate.{orders_taken, plan_steps, stored}
use Rattle.lies.proofs.Estimates.{last_steps, more_steps, product_stored, sum_stored, times_stored}
use Rattle.lies.proofs.steps.+plan_steps.Goals as goal

pub returns-then-relays-eq0 : goal.returns-then-relays-eq0
returns-then-relays-eq0 t c = last_steps c.args.votes c.args.relays c.args.loyals c.args.traitors c.args.is_traitor c.if-relays-eq0.true

pub returns : goal.returns
returns t c =
    let taken : c.orders_taken-taken.result ≡ orders_taken c.args.is_traitor = c.orders_taken-taken.ensures in
    let loyal : c.plan_steps-loyal.result ≡ stored (plan_steps c.args.votes (c.args.relays - 1) false (c.args.loyals - 1) c.args.traitors) =
    c.plan_steps-loyal.ensures ∙ ap (λ (x : ℕ). stored (plan_steps c.args.votes (c.args.relays - 1) false x c.args.traitors)) c.saturating_sub.ensures
    in
    let traitor : c.plan_steps-traitor.result ≡ stored (plan_steps c.args.votes (c.args.relays - 1) true c.args.loyals (c.args.traitors - 1)) =
    c.plan_steps-traitor.ensures ∙ ap (λ (x : ℕ). stored (plan_steps c.args.votes (c.args.relays - 1) true c.args.loyals x)) c.saturating_sub-2.ensures
    in
    let choices : c.saturating_mul.result ≡ stored (orders_taken c.args.is_traitor * c.args.votes) = c.saturating_mul.ensures ∙ ap (λ (x : ℕ). stored (x * c.args.votes)) taken in
    let all : c.saturating_mul-2.result ≡ stored (c.args.loyals * (orders_taken c.args.is_traitor * c.args.votes)) =
    times_stored c.from.result c.saturating_mul.result c.args.loyals (orders_taken c.args.is_traitor * c.args.votes) c.saturating_mul-2.result c.saturating_mul-2.ensures c.from.ensures choices
    in
    let below : c.saturating_mul-below_loyal.result ≡ stored (c.args.loyals * (orders_taken c.args.is_traitor * c.args.votes) * plan_steps c.args.votes (c.args.relays - 1) false (c.args.loyals - 1) c.args.traitors) =
    product_stored c.saturating_mul-2.result c.plan_steps-loyal.result (c.args.loyals * (orders_taken c.args.is_traitor * c.args.votes)) (plan_steps c.args.votes (c.args.relays - 1) false (c.args.loyals - 1) c.args.traitors) c.saturating_mul-below_loyal.result c.saturating_mul-below_loyal.ensures all loyal
    in
    let votes : c.saturating_mul-3.result ≡ stored (c.args.traitors * c.args.votes) = c.saturating_mul-3.ensures ∙ ap (λ (x : ℕ). stored (x * c.args.votes)) c.from-2.ensures in
    let under : c.saturating_mul-below_traitor.result ≡ stored (c.args.traitors * c.args.votes * plan_steps c.args.votes (c.args.relays - 1) true c.args.loyals (c.args.traitors - 1)) =
    product_stored c.saturating_mul-3.result c.plan_steps-traitor.result (c.args.traitors * c.args.votes) (plan_steps c.args.votes (c.args.relays - 1) true c.args.loyals (c.args.traitors - 1)) c.saturating_mul-below_traitor.result c.saturating_mul-below_traitor.ensures votes traitor
    in
    let one : c.saturating_pow.result ≡ stored (orders_taken c.args.is_traitor ^ c.args.loyals) = c.saturating_pow.ensures ∙ (λ i. stored (taken i ^ c.from-3.ensures i)) in
    let other : c.saturating_pow-2.result ≡ stored (c.args.votes ^ c.args.traitors) = c.saturating_pow-2.ensures ∙ (λ i. stored (c.args.votes ^ c.from-4.ensures i)) in
    let selections : c.saturating_mul-selections.result ≡ stored (orders_taken c.args.is_traitor ^ c.args.loyals * c.args.votes ^ c.args.traitors) =
    product_stored c.saturating_pow.result c.saturating_pow-2.result (orders_taken c.args.is_traitor ^ c.args.loyals) (c.args.votes ^ c.args.traitors) c.saturating_mul-selections.result c.saturating_mul-selections.ensures one other
    in
    let both = sum_stored c.saturating_mul-below_loyal.result c.saturating_mul-below_traitor.result
    (c.args.loyals * (orders_taken c.args.is_traitor * c.args.votes) * plan_steps c.args.votes (c.args.relays - 1) false (c.args.loyals - 1) c.args.traitors)
    (c.args.traitors * c.args.votes * plan_steps c.args.votes (c.args.relays - 1) true c.args.loyals (c.args.traitors - 1))
    c.saturating_add.result c.saturating_add.ensures below under
    in
    sum_stored c.saturating_mul-selections.result c.saturating_add.result (orders_taken c.args.is_traitor ^ c.args.loyals * c.args.votes ^ c.args.traitors)
    (c.args.loyals * (orders_taken c.args.is_traitor * c.args.votes) * plan_steps c.args.votes (c.args.relays - 1) false (c.args.loyals - 1) c.args.traitors
    + c.args.traitors * c.args.votes * plan_steps c.args.votes (c.args.relays - 1) true c.args.loyals (c.args.traitors - 1))
    c.saturating_add-2.result c.saturating_add-2.ensures selections both
    ∙ ap stored (more_steps c.args.votes c.args.relays c.args.loyals c.args.traitors c.args.is_traitor c.if-relays-eq0.false)
