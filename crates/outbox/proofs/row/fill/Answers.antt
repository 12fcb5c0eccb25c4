-- Orders are put for the first receivers.
use Rattle.std.proofs.Common.{◌≡◌, ◌<◌, ◌∙◌, length, arith, get_or, min}
use Rattle.outbox.specs.Rows.{row_of}
use Rattle.label.proofs.Bounds.{on-get_or}
use Rattle.outbox.proofs.RowLemmas.{on-below, fill_step, filled_all, row_long}
use Rattle.outbox.proofs.Keeping.{row_written}
use Rattle.outbox.proofs.row.fill.Goals as goal

pub put-requires : goal.put-requires
put-requires c =
    let inside : c.loop-place.place < length c.args.receivers.now = omega arith in
    rw c.from.ensures (on-below 13 c.args.receivers.now (get_or c.args.receivers.now c.loop-place.place 0) c.requires.row.below (on-get_or c.args.receivers.now c.loop-place.place inside))

pub loop-place-preserved : goal.loop-place-preserved
loop-place-preserved c =
    let inside : c.loop-place.place < length c.args.receivers.now = omega arith in
    let within : c.loop-place.place < length c.args.orders.now = omega arith in
    record {
      kept = rw (c.put.ensures, c.from.ensures) (row_written c.loop-place.kept c.args.receivers.now (get_or c.args.receivers.now c.loop-place.place 0) _ c.loop-place.invariant.kept (on-get_or c.args.receivers.now c.loop-place.place inside));
      done = rw (c.put.ensures, c.from.ensures) (fill_step c.args.kept.now c.loop-place.kept c.args.receivers.now c.args.orders.now c.loop-place.place c.requires.row.distinct c.requires.row.below c.loop-place.invariant.kept.long inside within c.loop-place.invariant.done);
    }

pub returns-clause-row : goal.returns-clause-row
returns-clause-row c =
    let size : length (row_of c.args.kept.now c.args.receivers.now) ≡ length c.args.receivers.now = row_long c.args.kept.now c.args.receivers.now in
    let all : c.loop-place.place ≡ min (length (row_of c.args.kept.now c.args.receivers.now)) (length c.args.orders.now) = omega arith in
    c.loop-place.invariant.done ∙ filled_all c.args.orders.now (row_of c.args.kept.now c.args.receivers.now) c.loop-place.place all
