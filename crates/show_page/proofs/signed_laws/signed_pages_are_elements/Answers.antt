use Rattle.show_page.proofs.SignedAccountLaws.{proved_signed_pages_are_elements}
use Rattle.show_page.proofs.signed_laws.signed_pages_are_elements.Goals as goal

pub returns : goal.returns
returns c = proved_signed_pages_are_elements
