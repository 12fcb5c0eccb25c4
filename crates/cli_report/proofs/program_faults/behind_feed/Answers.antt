use Rattle.std.proofs.Common.{◌∙◌, sym}
use Rattle.cli_report.proofs.FeedLemmas.{behind_more}
use Rattle.cli_report.proofs.program_faults.behind_feed.Goals as goal

pub loop-i-preserved : goal.loop-i-preserved
loop-i-preserved c =
    sym (behind_more c.args.text.now c.loop-i.i c.loop-i-test.true (rw c.behind-rest.ensures at (sym c.is_feed.ensures ∙ c.if-is_feed.false))) ∙ c.loop-i.invariant
