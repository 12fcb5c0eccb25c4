use Rattle.std.proofs.Common.{◌∙◌, sym}
use Rattle.cli_report.proofs.FeedLemmas.{quote_end, quote_more}
use Rattle.cli_report.proofs.program_faults.before_quote.Goals as goal

pub loop-i-preserved : goal.loop-i-preserved
loop-i-preserved c =
    c.loop-i.invariant
    ∙ quote_more c.args.quote.now c.args.text.now c.loop-i.i c.loop-i-test.true (rw c.behind-rest.ensures at (sym c.stands_at.ensures ∙ c.if-stands_at.false))

pub returns-then-stands_at : goal.returns-then-stands_at
returns-then-stands_at c =
    sym (c.loop-i.invariant
    ∙ quote_end c.args.quote.now c.args.text.now c.loop-i.i c.loop-i-test.true (rw c.behind-rest.ensures at (sym c.stands_at.ensures ∙ c.if-stands_at.true)))
