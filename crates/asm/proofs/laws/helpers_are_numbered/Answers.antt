use Rattle.asm.proofs.HelperLaws.{helpers_numbered}
use Rattle.asm.proofs.laws.helpers_are_numbered.Goals as goal

pub returns : goal.returns
returns c = helpers_numbered
