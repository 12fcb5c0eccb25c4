use Rattle.codec.proofs.Reading.{one_meaning}
use Rattle.codec.proofs.laws.one_instruction.Goals as goal

pub returns : goal.returns
returns c = one_meaning
