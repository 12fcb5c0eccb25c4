use Rattle.std.proofs.Common.{rules, refl, arith}
use Rattle.asm.specs.Table.{mnemonic_of, mnemonics}
use Rattle.asm.proofs.SectionLemmas.{by_letters}
use Rattle.asm.proofs.mnemonic.bounds.Goals as goal

pub returns-in-106-clause-found : goal.returns-in-106-clause-found
unfolding mnemonics
returns-in-106-clause-found c = by_letters 106 115 21 16 c.args.word.now (omega arith) (search rules) (search rules) refl refl

pub returns-in-108-clause-found : goal.returns-in-108-clause-found
unfolding mnemonics
returns-in-108-clause-found c = by_letters 108 100 42 8 c.args.word.now (omega arith) (search rules) (search rules) refl refl

pub returns-in-115-clause-found : goal.returns-in-115-clause-found
unfolding mnemonics
returns-in-115-clause-found c = by_letters 115 116 69 8 c.args.word.now (omega arith) (search rules) (search rules) refl refl

pub returns-in-empty-clause-found : goal.returns-in-empty-clause-found
unfolding mnemonic_of mnemonics
returns-in-empty-clause-found c = refl
