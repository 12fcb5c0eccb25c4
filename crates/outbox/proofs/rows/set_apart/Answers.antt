-- Mixed rows are made one by one, or there are some already.
use Rattle.std.proofs.Common.{rules, ◌≡◌, ◌≢◌, ◌<◌, ◌∙◌, length, refl, arith}
use Rattle.std.proofs.lemmas.List.{take_all}
use Rattle.outbox.specs.Rows.{rows_seen}
use Rattle.outbox.proofs.AlikeRows.{seen_alike, seen_apart}
use Rattle.outbox.proofs.rows.set_apart.Goals as goal

pub returns-then-not-is_empty-clause-rows : goal.returns-then-not-is_empty-clause-rows
returns-then-not-is_empty-clause-rows c =
    let many : 0 < length c.args.apart.now.items = search rules in
    let some : length c.args.apart.now.items ≢ 0 = λ none. omega arith in
    seen_apart c.args.alike.now c.args.apart.now.items (rows_seen c.args.alike.now c.args.apart.now.items) some refl

pub returns-clause-rows : goal.returns-clause-rows
returns-clause-rows c =
    let none : length c.args.apart.now.items ≡ 0 = search rules in
    c.loop-row.invariant.items
    ∙ (take_all c.loop-row.row-index c.args.alike.now (let h = c.loop-row-test.false in omega arith)
    ∙ seen_alike c.args.alike.now c.args.apart.now.items (rows_seen c.args.alike.now c.args.apart.now.items) none refl)
