use Rattle.std.proofs.Common.{sym}
use Rattle.book.proofs.Endings.{ends_more}
use Rattle.book.proofs.loyal_marks.ends_in.Goals as goal

pub loop-other-preserved : goal.loop-other-preserved
loop-other-preserved c = sym (ends_more c.args.label.now c.loop-other.other-index _ c.args.general c.loop-other-test.true)
