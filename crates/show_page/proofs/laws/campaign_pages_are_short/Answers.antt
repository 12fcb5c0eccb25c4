use Rattle.show_page.proofs.ShortLaws.{proved_campaign_pages_are_short}
use Rattle.show_page.proofs.laws.campaign_pages_are_short.Goals as goal

pub returns : goal.returns
returns c = proved_campaign_pages_are_short
