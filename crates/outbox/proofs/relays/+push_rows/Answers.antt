use Rattle.std.proofs.Common.{ℕ, ◌≡◌, ◌≤◌, ◌-◌, ◌++◌, List, length, get_or, subst, sym, ap, ◌∙◌, arith}
use Rattle.label.specs.Oral.{AllBelow}
use Rattle.label.proofs.Bounds.{on-get_or}
use Rattle.outbox.proofs.RowLemmas.{on-below}
use Rattle.outbox.proofs.Walked.{one_under, under_all}
use Rattle.outbox.proofs.relays.+push_rows.Goals as goal

pub without-requires : goal.without-requires
without-requires t c =
    let lent : List ℕ = c.as_slice-general-items.result.now in
    let i : ℕ = c.loop-general.general-index in
    let same : lent ≡ c.args.hearing = c.as_slice-general-items.ensures.value ∙ c.list-list.ensures in
    on-below 13 lent (get_or lent i 0) (subst (λ (ns : List ℕ). AllBelow 13 ns) (sym same) c.recall.ensures.below) (on-get_or lent i c.loop-general-test.true)

pub loop-general-preserved : goal.loop-general-preserved
loop-general-preserved t c =
    one_under (c.args.more - 1) c.loop-general.general-index c.args.hearing c.as_slice-general-items.result.now c.without.result c.args.rows.now.items c.loop-general.rows.items c.push_rows.new.rows.items
    (c.as_slice-general-items.ensures.value ∙ c.list-list.ensures) c.loop-general-test.true c.loop-general.invariant c.without.ensures c.in_ok-push_rows.ensures

pub returns : goal.returns
returns t c =
    let same : length c.as_slice-general-items.result.now ≡ length c.args.hearing = ap length (c.as_slice-general-items.ensures.value ∙ c.list-list.ensures) in
    let all : length c.args.hearing ≤ c.loop-general.general-index = let end = c.loop-general-test.false in omega arith in
    c.loop-general.invariant ∙ ap (λ rows. c.args.rows.now.items ++ rows) (under_all c.args.more c.loop-general.general-index c.args.hearing c.if-more-eq0.false all)
