use Rattle.std.specs.Prelude.{decimal, codes}
use Rattle.trace.proofs.WrittenLemmas.{then_wrote, wrote-same}
use Rattle.trace.proofs.LineLemmas.{campaign_parts}
use Rattle.trace.proofs.heading.put_campaign.Goals as goal

pub returns : goal.returns
returns g c =
    wrote-same _ _ (campaign_parts (codes "generals") (decimal c.args.generals) (codes "bound") (decimal c.args.bound) (codes "commander") (decimal c.args.commander) (codes "order") (decimal c.args.order))
    (then_wrote (then_wrote (then_wrote c.put_headed.ensures c.put_headed-2.ensures) c.put_headed-3.ensures) c.put_headed-4.ensures)
