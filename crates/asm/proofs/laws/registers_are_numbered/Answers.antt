use Rattle.asm.proofs.OperandLemmas.{register_of-text}
use Rattle.asm.proofs.TableLaws.{register_read}
use Rattle.asm.proofs.laws.registers_are_numbered.Goals as goal

pub returns : goal.returns
returns c = record { read = register_read; written = register_of-text }
