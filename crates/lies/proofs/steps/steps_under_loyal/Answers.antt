use Rattle.std.proofs.Common.{ℕ, ◌≡◌, ◌-◌, ◌*◌, false, ap, ◌∙◌}
use Rattle.lies.specs.Estimate.{plan_steps, sets, stored}
use Rattle.lies.proofs.Estimates.{product_stored, stored_times}
use Rattle.lies.proofs.steps.steps_under_loyal.Goals as goal

pub returns : goal.returns
returns c =
    let loyals : c.from.result ≡ c.args.lieutenants - c.args.count = c.from.ensures ∙ c.saturating_sub-loyals.ensures in
    let attempts : c.saturating_mul.result ≡ stored (sets c.args.lieutenants c.args.count * (2 * (c.args.lieutenants - c.args.count))) =
    stored_times c.sets.result (2 * c.from.result) (sets c.args.lieutenants c.args.count) (2 * (c.args.lieutenants - c.args.count)) c.saturating_mul.result c.saturating_mul.ensures c.sets.ensures (ap (λ (x : ℕ). 2 * x) loyals)
    in
    product_stored c.saturating_mul.result c.plan_steps.result (sets c.args.lieutenants c.args.count * (2 * (c.args.lieutenants - c.args.count))) (plan_steps 2 c.args.bound false (c.args.lieutenants - c.args.count) c.args.count) c.saturating_mul-2.result c.saturating_mul-2.ensures attempts
    (c.plan_steps.ensures ∙ ap (λ (x : ℕ). stored (plan_steps 2 c.args.bound false x c.args.count)) c.saturating_sub-loyals.ensures)
