use Rattle.codec.proofs.OpcodeLaws.{opcodes_told}
use Rattle.codec.proofs.laws.opcodes_are_told.Goals as goal

pub returns : goal.returns
returns c = opcodes_told
