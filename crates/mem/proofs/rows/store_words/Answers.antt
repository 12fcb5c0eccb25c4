-- Word after word.
use Rattle.std.proofs.Common.{◌≤◌, length, arith, sym, ◌∙◌}
use Rattle.mem.proofs.InARow.{none_written, word_written, all_written}
use Rattle.mem.proofs.rows.store_words.Goals as goal

pub loop-i-init : goal.loop-i-init
loop-i-init c = sym (none_written c.args.stack.now c.in-Ok.place)

pub loop-i-preserved : goal.loop-i-preserved
loop-i-preserved c =
    c.put_number.ensures
    ∙ word_written c.args.stack.now c.loop-i.stack c.in-Ok.place c.loop-i.i c.args.words.now c.recall.ensures c.in-Ok.ensures.fits c.loop-i-test.true c.loop-i.invariant

pub returns : goal.returns
returns c =
    let within : c.loop-i.i ≤ length c.args.words.now = c.loop-i.auto.i-end in
    let past : length c.args.words.now ≤ c.loop-i.i = c.loop-i-test.false in
    all_written c.args.stack.now c.loop-i.stack c.args.base c.in-Ok.place c.loop-i.i c.args.words.now c.in-Ok.ensures.answer (omega (arith, within, past)) c.loop-i.invariant
