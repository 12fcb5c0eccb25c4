use Rattle.asm.proofs.NameLaws.{jumps_lead}
use Rattle.asm.proofs.laws.jumps_lead_to_names.Goals as goal

pub returns : goal.returns
returns c = jumps_lead
