use Rattle.show_page.proofs.SignedShortLaws.{proved_signed_pages_are_short}
use Rattle.show_page.proofs.signed_laws.signed_pages_are_short.Goals as goal

pub returns : goal.returns
returns c = proved_signed_pages_are_short
