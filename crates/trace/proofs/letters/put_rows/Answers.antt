use Rattle.std.proofs.Common.{◌<◌, ◌≤◌, [], ap, arith, length}
use Rattle.std.proofs.lemmas.List.{take_all}
use Rattle.trace.specs.Text.{text, row_lines}
use Rattle.trace.proofs.RoundLemmas.{rows_more, then_kept}
use Rattle.trace.proofs.WrittenLemmas.{then_rest, wrote-same}
use Rattle.trace.proofs.letters.put_rows.Goals as goal

pub loop-rank-preserved : goal.loop-rank-preserved
loop-rank-preserved g c =
    let inside : c.loop-rank.rank < length c.args.outbox.now.rows = let e = c.labels-rank-end.ensures.rows in let t = c.loop-rank-test.true in omega arith in (
      then_kept _ _ _ (rows_more c.args.outbox.now.rows c.loop-rank.rank [] inside) c.loop-rank.invariant.0 c.put_row.ensures.put,
      c.put_row.ensures.room,
    )

pub returns : goal.returns
returns g c =
    let rows = c.args.outbox.now.rows in
    let all : length rows ≤ c.loop-rank.rank = let e = c.labels-rank-end.ensures.rows in let t = c.loop-rank-test.false in omega arith in
    wrote-same _ _ (ap (λ rs. text (row_lines 0 rs)) (take_all c.loop-rank.rank rows all)) (then_rest c.loop-rank.invariant.0 (wrote-same _ _ c.as_slice.ensures c.put_all.ensures))
