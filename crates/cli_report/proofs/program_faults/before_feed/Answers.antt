use Rattle.std.proofs.Common.{◌∙◌, sym}
use Rattle.cli_report.proofs.FeedLemmas.{before_more}
use Rattle.cli_report.proofs.program_faults.before_feed.Goals as goal

pub loop-i-preserved : goal.loop-i-preserved
loop-i-preserved c =
    c.loop-i.invariant
    ∙ before_more c.args.quote.now c.args.text.now c.loop-i.i c.loop-i-test.true (rw c.behind-rest.ensures at (sym c.is_feed.ensures ∙ c.if-is_feed.false))
    (rw c.behind-rest.ensures at (sym c.stands_at.ensures ∙ c.if-stands_at.false))
