use Rattle.asm.specs.Table.{mnemonics}
use Rattle.asm.proofs.mnemonic.section.Goals as goal

pub returns : goal.returns
unfolding mnemonics
returns c = c.bounds-start.ensures.found
