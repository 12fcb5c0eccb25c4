-- A lieutenant relays no label in round 1, and otherwise all labels that extend the commander's.
use Rattle.std.proofs.Common.{ℕ, suc, ◌-◌, ◌≡◌, ◌++◌, map, ap, ◌∙◌, arith}
use Rattle.label.specs.Labels.{labels}
use Rattle.outbox.specs.Rows.{row_for}
use Rattle.outbox.specs.Receivers.{rows_under}
use Rattle.outbox.proofs.RowByRow.{no_rows}
use Rattle.outbox.proofs.Walked.{walked}
use Rattle.outbox.proofs.relays.lieutenant_rows.Goals as goal

pub returns-then-shape-eq1 : goal.returns-then-shape-eq1
returns-then-shape-eq1 c = c.new.ensures.items ∙ no_rows c.args.shape c.args.shape.generals c.args.shape.commander c.args.shape.general c.args.shape.round c.if-shape-eq1.true

pub returns : goal.returns
returns c =
    let further : suc (c.args.shape.round - 2) ≡ c.args.shape.round - 1 = (let first = c.requires.shape.first in let other = c.if-shape-eq1.false in omega arith) in
    c.in_ok-push_rows.ensures
    ∙ (ap (λ rows. rows ++ rows_under (c.args.shape.round - 2) c.hearing.result) c.in_ok-rows.ensures.items
    ∙ (ap (rows_under (c.args.shape.round - 2)) c.hearing.ensures
    ∙ (walked c.args.shape (c.args.shape.round - 2) c.requires.lieutenant
    ∙ ap (λ (k : ℕ). map (row_for c.args.shape) (labels c.args.shape.generals c.args.shape.commander c.args.shape.general k)) further)))
