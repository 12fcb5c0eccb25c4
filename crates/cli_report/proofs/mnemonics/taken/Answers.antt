use Rattle.std.proofs.Common.{◌∙◌}
use Rattle.asm.specs.Table.{mnemonic_of, mnemonics}
use Rattle.cli_report.specs.Mnemonics.{taken}
use Rattle.cli_report.proofs.TakenLemmas.{taken_by}
use Rattle.cli_report.proofs.mnemonics.taken.Goals as goal

pub returns : goal.returns
unfolding taken mnemonic_of mnemonics
returns c = c.search.ensures ∙ taken_by c.args.word.now mnemonics
