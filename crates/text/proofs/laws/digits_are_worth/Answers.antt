use Rattle.text.proofs.WorthLaws.{digits_worth}
use Rattle.text.proofs.laws.digits_are_worth.Goals as goal

pub returns : goal.returns
returns c = digits_worth
