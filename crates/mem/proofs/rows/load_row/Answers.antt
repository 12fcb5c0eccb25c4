-- Number after number.
use Rattle.std.proofs.Common.{◌≡◌, ◌+◌, ◌*◌, ◌≤◌, ◌<◌, arith, rules, ◌∙◌, length-set, Err}
use Rattle.semantics.specs.Memory.{region_cells, room_of}
use Rattle.mem.specs.Answers.{cause_of}
use Rattle.mem.specs.Rows.{row_at}
use Rattle.mem.proofs.InARow.{row_goes_on, rest_stays, row_stops, row_at_place, length-region}
use Rattle.mem.proofs.rows.load_row.Goals as goal

pub returns-in_err-row-clause-refused : goal.returns-in_err-row-clause-refused
returns-in_err-row-clause-refused c =
    let cells = region_cells c.args.context.now c.args.stack.now c.in_ok-region.region in
    let long = length-region c.args.context.now c.args.stack.now c.in_ok-region.region c.recall.ensures c.bytes-bytes.ensures.context.long in
    let h : row_at c.args.context.now c.args.stack.now c.args.base c.args.count ≡ Err (cause_of c.in_err-row.field-0.0) =
    row_at_place c.args.context.now c.args.stack.now c.args.base c.args.count (c.in_ok-region.region, c.in_ok-region.place) c.in_ok-region.ensures.answer
    ∙ row_stops cells c.in_ok-region.place c.loop-i.i c.args.count (room_of c.in_ok-region.region) _ c.loop-i.row long c.in_ok-region.ensures.fits c.loop-i-test.true
    c.loop-i.invariant.so_far c.in_err-row.ensures in
    search rules

pub loop-i-preserved : goal.loop-i-preserved
loop-i-preserved c =
    let cells = region_cells c.args.context.now c.args.stack.now c.in_ok-region.region in
    let long = length-region c.args.context.now c.args.stack.now c.in_ok-region.region c.recall.ensures c.bytes-bytes.ensures.context.long in
    let fits : c.in_ok-region.place + 4 * c.args.count ≤ room_of c.in_ok-region.region = c.in_ok-region.ensures.fits in
    let lt : c.loop-i.i < c.args.count = c.loop-i-test.true in
    let few : c.args.count ≤ 13 = c.requires in
    record {
      long = length-set c.loop-i.row _ _ ∙ c.loop-i.invariant.long;
      rest = rest_stays c.loop-i.i c.in_ok-row.field-0 c.loop-i.row c.loop-i.invariant.rest;
      so_far = row_goes_on cells c.in_ok-region.place c.loop-i.i (room_of c.in_ok-region.region) c.in_ok-row.field-0 c.loop-i.row long (omega (arith, fits, lt)) c.loop-i.invariant.long
          (omega (arith, lt, few)) c.loop-i.invariant.so_far c.in_ok-row.ensures;
    }
