-- There is a row of the label, or no such label.
use Rattle.std.proofs.Common.{◌≡◌, ◌≤◌, [], map, sym, ap, ◌∙◌, length, get_or, arith}
use Rattle.std.proofs.lemmas.List.{length-map, get_or_past}
use Rattle.outbox.specs.Contents.{Contents}
use Rattle.outbox.specs.Rows.{orders_in}
use Rattle.outbox.proofs.Looks.{get_orders}
use Rattle.outbox.proofs.outbox.Outbox.told.Goals as goal

pub returns-then-rank-len-clause-orders : goal.returns-then-rank-len-clause-orders
returns-then-rank-len-clause-orders c =
    let size : length (map orders_in c.self.inside.rows) ≡ length c.self.inside.rows = length-map c.self.inside.rows orders_in in
    let past : length (map orders_in c.self.inside.rows) ≤ c.args.rank = let n = c.len.ensures in omega arith in
    sym (get_or_past (map orders_in c.self.inside.rows) c.args.rank [] past) ∙ ap (λ (k : Contents). get_or k.rows c.args.rank []) c.self.view_is

pub at-requires : goal.at-requires
at-requires c = let n = c.len.ensures in omega arith

pub returns-clause-orders : goal.returns-clause-orders
returns-clause-orders c =
    c.told_at_once.ensures.orders ∙ (ap orders_in c.at.ensures ∙ (sym (get_orders c.self.inside.rows c.args.rank) ∙ ap (λ (k : Contents). get_or k.rows c.args.rank []) c.self.view_is))
