use Rattle.trace.proofs.SignedLines.{head_parts}
use Rattle.trace.proofs.WrittenLemmas.{then_wrote, wrote-same}
use Rattle.trace.proofs.signed_chronicles.put_signed_head.Goals as goal

pub returns : goal.returns
returns g c =
    wrote-same _ _ (head_parts c.args.scenario.now c.patience.result c.patience.ensures)
    (then_wrote (then_wrote (then_wrote (then_wrote c.put_all.ensures c.put_campaign_of.ensures) c.put_all-2.ensures) c.put_order.ensures) c.put_all-3.ensures)
