use Rattle.std.proofs.Common.{◌-◌, ◌≡◌, arith, ap, sym, ◌∙◌}
use Rattle.show_tree.proofs.FactLemmas.{few_powers, none_below, more_below, product_small}
use Rattle.show_tree.proofs.facts.+below.Goals as goal

pub returns-then-relays-eq0-clause-value : goal.returns-then-relays-eq0-clause-value
returns-then-relays-eq0-clause-value t c = none_below c.args.generals c.args.size c.args.relays c.if-relays-eq0.true

pub overflow_add-result : goal.overflow_add-result
overflow_add-result t c =
    let small = few_powers (c.args.relays - 1) (let r = c.requires.rounds in omega arith) in
    let less = c.below.ensures.small in
    omega arith

pub overflow_mul-result : goal.overflow_mul-result
overflow_mul-result t c =
    let ne = c.if-relays-eq0.false in
    let rounds = c.requires.rounds in
    let few = c.requires.few in
    let first = c.saturating_sub.ensures in
    let second = c.saturating_sub-2.ensures in
    let same = c.from-children.ensures in
    let less = product_small c.from-children.result c.below.result c.args.relays (c.args.relays - 1) (omega arith) (omega arith) c.below.ensures.small in
    let small = few_powers c.args.relays c.requires.rounds in
    omega arith

pub returns-clause-value : goal.returns-clause-value
returns-clause-value t c =
    let ne = c.if-relays-eq0.false in
    let more = more_below c.args.generals c.args.size c.args.relays (c.args.relays - 1) (omega arith) in
    let children : c.from-children.result ≡ c.args.generals - 1 - c.args.size = c.from-children.ensures ∙ (c.saturating_sub-2.ensures ∙ ap (λ x. x - c.args.size) c.saturating_sub.ensures) in
    rw (children, c.below.ensures.value) (sym more)

pub returns-clause-small : goal.returns-clause-small
returns-clause-small t c =
    let ne = c.if-relays-eq0.false in
    let few = c.requires.few in
    let first = c.saturating_sub.ensures in
    let second = c.saturating_sub-2.ensures in
    let same = c.from-children.ensures in
    product_small c.from-children.result c.below.result c.args.relays (c.args.relays - 1) (omega arith) (omega arith) c.below.ensures.small
