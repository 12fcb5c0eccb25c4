use Rattle.asm.specs.Table.{mnemonics}
use Rattle.cli_report.specs.Mnemonics.{mnemonic_names}
use Rattle.cli_report.proofs.mnemonics.names.Goals as goal

pub returns : goal.returns
unfolding mnemonic_names mnemonics
returns c = c.words.ensures
