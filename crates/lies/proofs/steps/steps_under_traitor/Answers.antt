use Rattle.std.proofs.Common.{ℕ, ◌≡◌, ◌-◌, ◌*◌, true, ap, ◌∙◌}
use Rattle.lies.specs.Estimate.{plan_steps, sets, stored}
use Rattle.lies.proofs.Estimates.{product_stored}
use Rattle.lies.proofs.steps.steps_under_traitor.Goals as goal

pub returns : goal.returns
returns c =
    let first : c.from.result ≡ c.args.lieutenants - c.args.count = c.from.ensures ∙ c.saturating_sub-loyals.ensures in
    let second : c.from-2.result ≡ c.args.lieutenants - c.args.count = c.from-2.ensures ∙ c.saturating_sub-loyals.ensures in
    let pairs : c.saturating_mul.result ≡ stored ((c.args.lieutenants - c.args.count) * (c.args.lieutenants - c.args.count)) = c.saturating_mul.ensures ∙ (λ i. stored (first i * second i)) in
    let attempts : c.saturating_mul-2.result ≡ stored (sets c.args.lieutenants c.args.count * ((c.args.lieutenants - c.args.count) * (c.args.lieutenants - c.args.count))) =
    product_stored c.sets.result c.saturating_mul.result (sets c.args.lieutenants c.args.count) ((c.args.lieutenants - c.args.count) * (c.args.lieutenants - c.args.count)) c.saturating_mul-2.result c.saturating_mul-2.ensures c.sets.ensures pairs
    in
    product_stored c.saturating_mul-2.result c.plan_steps.result (sets c.args.lieutenants c.args.count * ((c.args.lieutenants - c.args.count) * (c.args.lieutenants - c.args.count))) (plan_steps 4 c.args.bound true (c.args.lieutenants - c.args.count) c.args.count) c.saturating_mul-3.result c.saturating_mul-3.ensures attempts
    (c.plan_steps.ensures ∙ ap (λ (x : ℕ). stored (plan_steps 4 c.args.bound true x c.args.count)) c.saturating_sub-loyals.ensures)
