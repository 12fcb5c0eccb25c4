use Rattle.codec.proofs.ProgramLaws.{no_first_fault}
use Rattle.codec.proofs.laws.no_fault_in_programs.Goals as goal

pub returns : goal.returns
returns c = no_first_fault
