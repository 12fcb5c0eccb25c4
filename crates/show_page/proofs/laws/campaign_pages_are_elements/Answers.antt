use Rattle.show_page.proofs.AccountLaws.{proved_campaign_pages_are_elements}
use Rattle.show_page.proofs.laws.campaign_pages_are_elements.Goals as goal

pub returns : goal.returns
returns c = proved_campaign_pages_are_elements
