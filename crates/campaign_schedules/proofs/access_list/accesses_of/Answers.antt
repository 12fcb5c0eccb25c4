use Rattle.std.proofs.Common.{ℕ, Vec, arith}
use Rattle.std.specs.Global.{Global}
use Rattle.std.proofs.lemmas.List.{length-map}
use Rattle.world.specs.Playing.{lists_in}
use Rattle.campaign_schedules.proofs.Listed.{listed}
use Rattle.campaign_schedules.proofs.access_list.accesses_of.Goals as goal

pub returns-clause-few : goal.returns-clause-few
returns-clause-few c =
    let rows = c.in_ok-rows_of.field-0 in
    let few = (listed c.args.text.now (lists_in rows.items) c.in_default.ensures c.in_ok-rows_of.ensures).1 in
    let long = length-map rows.items (λ (v : Vec ℕ Global). v.items) in
    omega arith
