-- An order is put in place of an earlier one.
use Rattle.std.proofs.Common.{◌≡◌, ◌<◌, List, Option, ℕ, sym, ap, ◌∙◌, length, arith}
use Rattle.label.specs.Labels.{on}
use Rattle.outbox.specs.Rows.{receivers_in, put_in_row, row_of}
use Rattle.outbox.proofs.RowLemmas.{names_in, row_put, row_kept}
use Rattle.outbox.proofs.row.MixedRow.put.Goals as goal

pub returns-then-there-clause-row : goal.returns-then-there-clause-row
returns-then-there-clause-row c =
    let inside : c.args.receiver < 13 = c.has-there.ensures.below c.if-there.true in
    let long : length c.self.inside.orders ≡ 13 = c.self.invariant.long in
    ap (λ (orders : List (Option ℕ)). row_of orders c.self.inside.receivers) c.put.ensures
    ∙ (row_put c.self.inside.orders c.self.inside.receivers c.args.receiver c.args.order (omega arith) ∙ ap (put_in_row c.args.receiver c.args.order) c.self.view_is)

pub returns-then-there-clause-there : goal.returns-then-there-clause-there
returns-then-there-clause-there c = c.has-there.ensures.among ∙ ap (λ xs. on xs c.args.receiver) (sym (names_in c.self.inside.orders c.self.inside.receivers) ∙ ap receivers_in c.self.view_is)

pub returns-else-there-clause-row : goal.returns-else-there-clause-row
returns-else-there-clause-row c =
    row_kept c.args.self.now c.args.receiver c.args.order
    (ap (λ xs. on xs c.args.receiver) (sym (sym (names_in c.self.inside.orders c.self.inside.receivers) ∙ ap receivers_in c.self.view_is)) ∙ (sym c.has-there.ensures.among ∙ c.if-there.false))

pub returns-else-there-clause-there : goal.returns-else-there-clause-there
returns-else-there-clause-there c = c.has-there.ensures.among ∙ ap (λ xs. on xs c.args.receiver) (sym (names_in c.self.inside.orders c.self.inside.receivers) ∙ ap receivers_in c.self.view_is)
