use Rattle.campaign_orders.proofs.Agreeing.{proved_findings_agree}
use Rattle.campaign_orders.proofs.laws.findings_agree.Goals as goal

pub returns : goal.returns
returns c = proved_findings_agree
