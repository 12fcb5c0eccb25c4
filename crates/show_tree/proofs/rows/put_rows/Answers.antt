use Rattle.std.proofs.Common.{arith}
use Rattle.std.specs.String.{string_bytes}
use Rattle.show_tree.proofs.RowLemmas.{row_more, rows_all}
use Rattle.show_tree.proofs.rows.put_rows.Goals as goal

pub loop-place-preserved : goal.loop-place-preserved
loop-place-preserved c =
    row_more c.args.generals c.args.general c.loop-place.place c.args.nodes.now c.index-nodes-place.result (string_bytes c.loop-place.out) (string_bytes c.put_row.new.out) _
    (let l = c.loop-place-test.true in omega arith) c.index-nodes-place.is c.loop-place.invariant c.in_ok-put_row.ensures

pub returns : goal.returns
returns c =
    rows_all c.args.generals c.args.general c.loop-place.place c.args.nodes.now (string_bytes c.loop-place.out) _
    (let l = c.loop-place-test.false in omega arith) c.loop-place.invariant
