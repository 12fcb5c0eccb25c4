use Rattle.std.proofs.Common.{arith}
use Rattle.std.specs.String.{string_bytes}
use Rattle.surveys.specs.Pictures.{column}
use Rattle.surveys.proofs.Pieces.{pieces_from_on}
use Rattle.surveys.proofs.sums_picture.put_columns.Goals as goal

pub loop-traitors-preserved : goal.loop-traitors-preserved
loop-traitors-preserved c =
    let before = c.loop-traitors-test.true in
    let from = c.loop-traitors.auto.traitors in (
      pieces_from_on (column c.args.columns) c.args.columns.first c.loop-traitors.traitors (string_bytes c.args.out.now) (string_bytes c.loop-traitors.out) _ from
          c.loop-traitors.invariant.0 c.in_ok-put_column.ensures,
      omega arith,
    )
