use Rattle.std.proofs.Common.{ℕ, ◌≡◌, ◌≤◌, ◌+◌, ◌-◌, ◌*◌, true, false, ap, ◌∙◌, arith}
use Rattle.lies.specs.PlaceCounts.{places, places_bound}
use Rattle.lies.proofs.PlaceLemmas.{bound_small, last_places, more_places, own_few, part_few, sum_few}
use Rattle.lies.proofs.places.+places.Goals as goal

pub returns-then-relays-eq0-clause-value : goal.returns-then-relays-eq0-clause-value
returns-then-relays-eq0-clause-value t c = c.own_places-own.ensures ∙ last_places c.args.relays c.args.loyals c.args.traitors c.args.is_traitor c.if-relays-eq0.true

pub returns-then-relays-eq0-clause-few : goal.returns-then-relays-eq0-clause-few
returns-then-relays-eq0-clause-few t c =
    let few : c.own_places-own.result ≤ 13 = own_few c.own_places-own.result c.args.loyals c.args.is_traitor c.own_places-own.ensures c.requires.few in
    let e : places_bound c.args.relays ≡ 13 = ap places_bound c.if-relays-eq0.true in
    omega arith

pub overflow_mul-result : goal.overflow_mul-result
overflow_mul-result t c =
    let some = c.if-relays-eq0.false in
    let short = c.requires.short in
    let small = bound_small (c.args.relays - 1) (omega arith) in
    let h = part_few (c.args.relays - 1) c.args.loyals c.from.result c.places-loyal.result c.from.ensures c.requires.few c.places-loyal.ensures.few in
    omega arith

pub overflow_mul-result-2 : goal.overflow_mul-result-2
overflow_mul-result-2 t c =
    let some = c.if-relays-eq0.false in
    let short = c.requires.short in
    let small = bound_small (c.args.relays - 1) (omega arith) in
    let h = part_few (c.args.relays - 1) c.args.traitors c.from-2.result c.places-traitor.result c.from-2.ensures c.requires.few_traitors c.places-traitor.ensures.few in
    omega arith

pub overflow_add-result : goal.overflow_add-result
overflow_add-result t c =
    let some = c.if-relays-eq0.false in
    let short = c.requires.short in
    let small = bound_small (c.args.relays - 1) (omega arith) in
    let one = part_few (c.args.relays - 1) c.args.loyals c.from.result c.places-loyal.result c.from.ensures c.requires.few c.places-loyal.ensures.few in
    let two = part_few (c.args.relays - 1) c.args.traitors c.from-2.result c.places-traitor.result c.from-2.ensures c.requires.few_traitors c.places-traitor.ensures.few in
    omega arith

pub overflow_add-result-2 : goal.overflow_add-result-2
overflow_add-result-2 t c =
    let some = c.if-relays-eq0.false in
    let short = c.requires.short in
    let small = bound_small (c.args.relays - 1) (omega arith) in
    let few : c.own_places-own.result ≤ 13 = own_few c.own_places-own.result c.args.loyals c.args.is_traitor c.own_places-own.ensures c.requires.few in
    let one = part_few (c.args.relays - 1) c.args.loyals c.from.result c.places-loyal.result c.from.ensures c.requires.few c.places-loyal.ensures.few in
    let two = part_few (c.args.relays - 1) c.args.traitors c.from-2.result c.places-traitor.result c.from-2.ensures c.requires.few_traitors c.places-traitor.ensures.few in
    omega arith

pub returns-clause-value : goal.returns-clause-value
returns-clause-value t c =
    let loyal : c.places-loyal.result ≡ places (c.args.relays - 1) false (c.args.loyals - 1) c.args.traitors = c.places-loyal.ensures.value ∙ ap (λ (x : ℕ). places (c.args.relays - 1) false x c.args.traitors) c.saturating_sub.ensures in
    let traitor : c.places-traitor.result ≡ places (c.args.relays - 1) true c.args.loyals (c.args.traitors - 1) = c.places-traitor.ensures.value ∙ ap (λ (x : ℕ). places (c.args.relays - 1) true c.args.loyals x) c.saturating_sub-2.ensures in
    (λ i. c.own_places-own.ensures i + (c.from.ensures i * loyal i + c.from-2.ensures i * traitor i))
    ∙ more_places c.args.relays c.args.loyals c.args.traitors c.args.is_traitor c.if-relays-eq0.false

pub returns-clause-few : goal.returns-clause-few
returns-clause-few t c =
    sum_few c.args.relays c.own_places-own.result (c.from.result * c.places-loyal.result) (c.from-2.result * c.places-traitor.result) c.if-relays-eq0.false
    (own_few c.own_places-own.result c.args.loyals c.args.is_traitor c.own_places-own.ensures c.requires.few)
    (part_few (c.args.relays - 1) c.args.loyals c.from.result c.places-loyal.result c.from.ensures c.requires.few c.places-loyal.ensures.few)
    (part_few (c.args.relays - 1) c.args.traitors c.from-2.result c.places-traitor.result c.from-2.ensures c.requires.few_traitors c.places-traitor.ensures.few)
