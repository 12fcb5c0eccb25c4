use Rattle.asm.proofs.MnemonicLemmas.{mnemonic_of-name}
use Rattle.asm.proofs.TableLaws.{mnemonic_read}
use Rattle.asm.proofs.laws.mnemonics_are_named.Goals as goal

pub returns : goal.returns
returns c = record { read = mnemonic_read; written = mnemonic_of-name }
