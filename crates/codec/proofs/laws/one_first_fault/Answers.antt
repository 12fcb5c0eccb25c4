use Rattle.codec.proofs.ProgramLaws.{one_first_fault}
use Rattle.codec.proofs.laws.one_first_fault.Goals as goal

pub returns : goal.returns
returns c = one_first_fault
