use Rattle.std.proofs.Common.{◌≡◌, ◌<◌, ◌≤◌, ◌+◌, ◌-◌, ◌*◌, ◌^◌, ℕ, List, map, length, ap, ◌∙◌, arith, lit<, get_or}
use Rattle.std.specs.Prelude.{insert, slice_range}
use Rattle.std.specs.List.{range_with_len}
use Rattle.label.specs.Labels.{labels}
use Rattle.label.specs.Oral.{order_of}
use Rattle.resolve.specs.Decided.{decided, child, order_at_rank}
use Rattle.resolve.proofs.Steps.{order-read, step-last, step-more, more-before, own-put, more-behind, few-before, few-behind, rank-small, first-fits}
use Rattle.std.proofs.lemmas.List.{length-map}
use Rattle.label.proofs.Parts.{part-within, part-long, rank-within}
use Rattle.resolve.proofs.Lowest.{step-one}
use Rattle.tree.specs.LieutenantTree.{LieutenantTree, level_of}
use Rattle.resolve.proofs.recursion.+decide.Goals as goal

pub returns-then-relays-eq0 : goal.returns-then-relays-eq0
returns-then-relays-eq0 g t c = step-last (g.C.Combine.combined c.args.rule.now) c.args.tree.now c.args.relays c.args.size c.args.rank c.args.lower_off (get_or c.level.result.now c.args.rank 0) c.if-relays-eq0.true (order-read c.args.tree.now c.args.size c.args.rank c.level.result.now c.level.ensures.value)

pub overflow_mul-first : goal.overflow_mul-first
overflow_mul-first g t c =
    let few = c.space.ensures.kind.few in
    let w : c.saturating_sub-width.result ≤ 13 = let e = c.saturating_sub-width.ensures in let d = c.space.ensures.generals in omega arith in
    let r : c.args.rank < 2 ^ 32 = rank-small c.args.tree.now c.args.size c.args.rank c.space.ensures.kind c.requires.some (let h = c.requires.short in let b = c.space.ensures.kind.small in omega arith) c.requires.within in
    let h : c.args.rank * c.saturating_sub-width.result < 2 ^ 36 = first-fits c.args.rank c.saturating_sub-width.result r w in
    omega arith

pub overflow_add-first : goal.overflow_add-first
overflow_add-first g t c =
    let few = c.space.ensures.kind.few in
    let w : c.saturating_sub-width.result ≤ 13 = let e = c.saturating_sub-width.ensures in let d = c.space.ensures.generals in omega arith in
    let r : c.args.rank < 2 ^ 32 = rank-small c.args.tree.now c.args.size c.args.rank c.space.ensures.kind c.requires.some (let h = c.requires.short in let b = c.space.ensures.kind.small in omega arith) c.requires.within in
    let h : c.args.rank * c.saturating_sub-width.result < 2 ^ 36 = first-fits c.args.rank c.saturating_sub-width.result r w in
    let i : c.loop-i.i < c.args.lower_off = c.loop-i-test.true in
    let p = c.ranges.lower_off.fits in
    omega arith

pub decide-requires : goal.decide-requires
decide-requires g t c κs within =
    let i : c.loop-i.i < c.args.lower_off = c.loop-i-test.true in
    let lower_off = c.requires.lower_off in
    let width : c.saturating_sub-width.result ≡ c.args.tree.now.generals - 1 - c.args.size = c.saturating_sub-width.ensures ∙ ap (λ (n : ℕ). n - 1 - c.args.size) c.space.ensures.generals in
    (let h = c.decreases in let z = c.if-relays-eq0.false in omega arith, (within, (omega arith, (let h = c.requires.short in let z = c.if-relays-eq0.false in omega arith, (rank-within c.args.tree.now.generals c.args.tree.now.commander c.args.tree.now.general c.args.size c.args.rank c.saturating_sub-width.result c.loop-i.i c.space.ensures.kind.commander c.space.ensures.kind.general c.space.ensures.kind.lieutenant c.requires.some width c.requires.within (omega arith), omega arith)))))

pub push-requires : goal.push-requires
push-requires g t c =
    let i : c.loop-i.i < c.args.lower_off = c.loop-i-test.true in
    let lower_off = c.requires.lower_off in
    let few = c.space.ensures.kind.few in
    let some = c.requires.some in
    let long : length c.loop-i.orders.items ≡ c.loop-i.i = few-before (child (g.C.Combine.combined c.args.rule.now) c.args.tree.now (c.args.relays - 1) c.args.size c.args.rank c.args.lower_off) c.loop-i.i c.loop-i.orders.items c.loop-i.invariant in
    let room : length c.loop-i.orders.items < 13 = omega arith in
    (lit< tt, room)

pub loop-i-preserved : goal.loop-i-preserved
loop-i-preserved g t c =
    let width : c.saturating_sub-width.result ≡ c.args.tree.now.generals - 1 - c.args.size = c.saturating_sub-width.ensures ∙ ap (λ (n : ℕ). n - 1 - c.args.size) c.space.ensures.generals in
    more-before (g.C.Combine.combined c.args.rule.now) c.args.tree.now (c.args.relays - 1) c.args.size c.args.rank c.args.lower_off c.saturating_sub-width.result c.loop-i.i c.decide.result c.loop-i.orders.items c.push.new.self.items width c.loop-i-test.true c.loop-i.invariant c.decide.ensures c.push.ensures.items

pub push-requires-2 : goal.push-requires-2
push-requires-2 g t c =
    let i = c.loop-i.auto.i-end in
    let lower_off = c.requires.lower_off in
    let few = c.space.ensures.kind.few in
    let some = c.requires.some in
    let long : length c.loop-i.orders.items ≡ c.loop-i.i = few-before (child (g.C.Combine.combined c.args.rule.now) c.args.tree.now (c.args.relays - 1) c.args.size c.args.rank c.args.lower_off) c.loop-i.i c.loop-i.orders.items c.loop-i.invariant in
    let room : length c.loop-i.orders.items < 13 = omega arith in
    (lit< tt, room)

pub loop-j-init : goal.loop-j-init
loop-j-init g t c =
    own-put (child (g.C.Combine.combined c.args.rule.now) c.args.tree.now (c.args.relays - 1) c.args.size c.args.rank c.args.lower_off) c.args.lower_off c.loop-i.i (get_or c.level.result.now c.args.rank 0) c.loop-i.orders.items c.push-2.new.self.items (let h = c.loop-i-test.false in let e = c.loop-i.auto.i-end in omega arith) c.loop-i.invariant c.push-2.ensures.items

pub overflow_add-first-in-loop-j : goal.overflow_add-first-in-loop-j
overflow_add-first-in-loop-j g t c =
    let few = c.space.ensures.kind.few in
    let w : c.saturating_sub-width.result ≤ 13 = let e = c.saturating_sub-width.ensures in let d = c.space.ensures.generals in omega arith in
    let r : c.args.rank < 2 ^ 32 = rank-small c.args.tree.now c.args.size c.args.rank c.space.ensures.kind c.requires.some (let h = c.requires.short in let b = c.space.ensures.kind.small in omega arith) c.requires.within in
    let h : c.args.rank * c.saturating_sub-width.result < 2 ^ 36 = first-fits c.args.rank c.saturating_sub-width.result r w in
    let j : c.loop-j.j < c.saturating_sub-width.result = c.loop-j-test.true in
    omega arith

pub decide-requires-in-loop-j : goal.decide-requires-in-loop-j
decide-requires-in-loop-j g t c κs within =
    let j : c.loop-j.j < c.saturating_sub-width.result = c.loop-j-test.true in
    let from : c.args.lower_off ≤ c.loop-j.j = c.loop-j.auto.j in
    let width : c.saturating_sub-width.result ≡ c.args.tree.now.generals - 1 - c.args.size = c.saturating_sub-width.ensures ∙ ap (λ (n : ℕ). n - 1 - c.args.size) c.space.ensures.generals in
    (let h = c.decreases in let z = c.if-relays-eq0.false in omega arith, (within, (omega arith, (let h = c.requires.short in let z = c.if-relays-eq0.false in omega arith, (rank-within c.args.tree.now.generals c.args.tree.now.commander c.args.tree.now.general c.args.size c.args.rank c.saturating_sub-width.result c.loop-j.j c.space.ensures.kind.commander c.space.ensures.kind.general c.space.ensures.kind.lieutenant c.requires.some width c.requires.within j, omega arith)))))

pub push-requires-in-loop-j : goal.push-requires-in-loop-j
push-requires-in-loop-j g t c =
    let j : c.loop-j.j < c.saturating_sub-width.result = c.loop-j-test.true in
    let few = c.space.ensures.kind.few in
    let some = c.requires.some in
    let width : c.saturating_sub-width.result ≡ c.args.tree.now.generals - 1 - c.args.size = c.saturating_sub-width.ensures ∙ ap (λ (n : ℕ). n - 1 - c.args.size) c.space.ensures.generals in
    let long : length c.loop-j.orders.items ≡ c.loop-j.j + 1 = few-behind (child (g.C.Combine.combined c.args.rule.now) c.args.tree.now (c.args.relays - 1) c.args.size c.args.rank c.args.lower_off) c.loop-j.j c.args.lower_off (get_or c.level.result.now c.args.rank 0) c.loop-j.orders.items c.loop-j.auto.j c.loop-j.invariant in
    let room : length c.loop-j.orders.items < 13 = omega arith in
    (lit< tt, room)

pub loop-j-preserved : goal.loop-j-preserved
loop-j-preserved g t c =
    let width : c.saturating_sub-width.result ≡ c.args.tree.now.generals - 1 - c.args.size = c.saturating_sub-width.ensures ∙ ap (λ (n : ℕ). n - 1 - c.args.size) c.space.ensures.generals in
    more-behind (g.C.Combine.combined c.args.rule.now) c.args.tree.now (c.args.relays - 1) c.args.size c.args.rank c.args.lower_off c.saturating_sub-width.result c.loop-j.j c.decide-in-loop-j.result (get_or c.level.result.now c.args.rank 0) c.loop-j.orders.items c.push-in-loop-j.new.self.items width c.loop-j.auto.j c.loop-j.invariant c.decide-in-loop-j.ensures c.push-in-loop-j.ensures.items

pub returns : goal.returns
returns g t c =
    let width : c.saturating_sub-width.result ≡ c.args.tree.now.generals - 1 - c.args.size = c.saturating_sub-width.ensures ∙ ap (λ (n : ℕ). n - 1 - c.args.size) c.space.ensures.generals in
    let end : c.loop-j.j ≡ c.args.tree.now.generals - 1 - c.args.size = let h = c.loop-j-test.false in let e = c.loop-j.auto.j-end in let p = c.requires.lower_off in omega arith in
    c.combine.ensures ∙ step-more (g.C.Combine.combined c.args.rule.now) c.args.tree.now c.args.relays c.args.size c.args.rank c.args.lower_off (get_or c.level.result.now c.args.rank 0) c.as_slice.result.now (let z = c.if-relays-eq0.false in omega arith) (order-read c.args.tree.now c.args.size c.args.rank c.level.result.now c.level.ensures.value)
    (c.as_slice.ensures.value ∙ (c.loop-j.invariant ∙ ap (λ (l : ℕ). insert (map (child (g.C.Combine.combined c.args.rule.now) c.args.tree.now (c.args.relays - 1) c.args.size c.args.rank c.args.lower_off) (range_with_len 0 l)) c.args.lower_off (get_or c.level.result.now c.args.rank 0)) end))

pub children-children-requires : goal.children-children-requires
children-children-requires g t c =
    let width : c.saturating_sub-width.result ≡ c.args.tree.now.generals - 1 - c.args.size = c.saturating_sub-width.ensures ∙ ap (λ (n : ℕ). n - 1 - c.args.size) c.space.ensures.generals in
    let within : c.args.rank * c.saturating_sub-width.result + c.saturating_sub-width.result ≤ length (labels c.args.tree.now.generals c.args.tree.now.commander c.args.tree.now.general (c.args.size + 1)) = part-within c.args.tree.now.generals c.args.tree.now.commander c.args.tree.now.general c.args.size c.args.rank c.saturating_sub-width.result c.space.ensures.kind.commander c.space.ensures.kind.general c.space.ensures.kind.lieutenant c.requires.some width c.requires.within in
    let long = c.level-then-relays-eq1.ensures.long in
    omega arith

pub combine_told-requires-clause-place : goal.combine_told-requires-clause-place
combine_told-requires-clause-place g t c =
    let width : c.saturating_sub-width.result ≡ c.args.tree.now.generals - 1 - c.args.size = c.saturating_sub-width.ensures ∙ ap (λ (n : ℕ). n - 1 - c.args.size) c.space.ensures.generals in
    let within : c.args.rank * c.saturating_sub-width.result + c.saturating_sub-width.result ≤ length (labels c.args.tree.now.generals c.args.tree.now.commander c.args.tree.now.general (c.args.size + 1)) = part-within c.args.tree.now.generals c.args.tree.now.commander c.args.tree.now.general c.args.size c.args.rank c.saturating_sub-width.result c.space.ensures.kind.commander c.space.ensures.kind.general c.space.ensures.kind.lieutenant c.requires.some width c.requires.within in
    let long = c.level-then-relays-eq1.ensures.long in
    let many : length c.children-children.result.now ≡ c.saturating_sub-width.result = part-long c.level-then-relays-eq1.result.now c.children-children.result.now (c.args.rank * c.saturating_sub-width.result) c.saturating_sub-width.result (omega arith) c.children-children.ensures in
    let lower_off = c.requires.lower_off in
    omega arith

one : (f : List ℕ → ℕ) (t : LieutenantTree) (size rank lower_off width own order : ℕ) (children level : List ℕ) (k : ℕ) → k ≡ 1 → own ≡ order_at_rank t size rank → width ≡ t.generals - 1 - size → rank * width + width ≤ length level → level ≡ map order_of (level_of t (size + 1)) → children ≡ slice_range level (rank * width) (rank * width + width) → order ≡ f (insert children lower_off own) → order ≡ decided f t k size rank lower_off
one f t size rank lower_off width own order children level k ek eo ew l el ec e = e ∙ step-one f t k size rank lower_off width own children ek eo ew (rw (el, length-map) at l) (rw el at ec)

pub returns-then-relays-eq1 : goal.returns-then-relays-eq1
returns-then-relays-eq1 g t c =
    let width : c.saturating_sub-width.result ≡ c.args.tree.now.generals - 1 - c.args.size = c.saturating_sub-width.ensures ∙ ap (λ (n : ℕ). n - 1 - c.args.size) c.space.ensures.generals in
    let within : c.args.rank * c.saturating_sub-width.result + c.saturating_sub-width.result ≤ length (labels c.args.tree.now.generals c.args.tree.now.commander c.args.tree.now.general (c.args.size + 1)) = part-within c.args.tree.now.generals c.args.tree.now.commander c.args.tree.now.general c.args.size c.args.rank c.saturating_sub-width.result c.space.ensures.kind.commander c.space.ensures.kind.general c.space.ensures.kind.lieutenant c.requires.some width c.requires.within in
    let long = c.level-then-relays-eq1.ensures.long in
    one (g.C.Combine.combined c.args.rule.now) c.args.tree.now c.args.size c.args.rank c.args.lower_off c.saturating_sub-width.result (get_or c.level.result.now c.args.rank 0) c.combine_told.result c.children-children.result.now c.level-then-relays-eq1.result.now c.args.relays c.if-relays-eq1.true (order-read c.args.tree.now c.args.size c.args.rank c.level.result.now c.level.ensures.value) width (omega arith) c.level-then-relays-eq1.ensures.value c.children-children.ensures c.combine_told.ensures
