use Rattle.codec.proofs.ProgramLaws.{one_program}
use Rattle.codec.proofs.laws.one_program.Goals as goal

pub returns : goal.returns
returns c = one_program
