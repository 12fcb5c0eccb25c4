use Rattle.std.proofs.Common.{refl}
use Rattle.asm.specs.Table.{mnemonic_of, mnemonics}
use Rattle.asm.proofs.SectionLemmas.{by_letter}
use Rattle.asm.proofs.mnemonic.bounds_by_letter.Goals as goal

pub returns-in_default-clause-found : goal.returns-in_default-clause-found
unfolding mnemonic_of mnemonics
returns-in_default-clause-found c rest = refl

pub returns-in-97-clause-found : goal.returns-in-97-clause-found
unfolding mnemonics
returns-in-97-clause-found c rest = by_letter 97 0 6 c.args.letter rest c.in-97.is refl refl

pub returns-in-98-clause-found : goal.returns-in-98-clause-found
unfolding mnemonics
returns-in-98-clause-found c rest = by_letter 98 6 3 c.args.letter rest c.in-98.is refl refl

pub returns-in-99-clause-found : goal.returns-in-99-clause-found
unfolding mnemonics
returns-in-99-clause-found c rest = by_letter 99 9 1 c.args.letter rest c.in-99.is refl refl

pub returns-in-100-clause-found : goal.returns-in-100-clause-found
unfolding mnemonics
returns-in-100-clause-found c rest = by_letter 100 10 2 c.args.letter rest c.in-100.is refl refl

pub returns-in-101-clause-found : goal.returns-in-101-clause-found
unfolding mnemonics
returns-in-101-clause-found c rest = by_letter 101 12 1 c.args.letter rest c.in-101.is refl refl

pub returns-in-106-clause-found : goal.returns-in-106-clause-found
unfolding mnemonics
returns-in-106-clause-found c rest = by_letter 106 13 24 c.args.letter rest c.in-106.is refl refl

pub returns-in-108-clause-found : goal.returns-in-108-clause-found
unfolding mnemonics
returns-in-108-clause-found c rest = by_letter 108 37 13 c.args.letter rest c.in-108.is refl refl

pub returns-in-109-clause-found : goal.returns-in-109-clause-found
unfolding mnemonics
returns-in-109-clause-found c rest = by_letter 109 50 11 c.args.letter rest c.in-109.is refl refl

pub returns-in-110-clause-found : goal.returns-in-110-clause-found
unfolding mnemonics
returns-in-110-clause-found c rest = by_letter 110 61 2 c.args.letter rest c.in-110.is refl refl

pub returns-in-111-clause-found : goal.returns-in-111-clause-found
unfolding mnemonics
returns-in-111-clause-found c rest = by_letter 111 63 2 c.args.letter rest c.in-111.is refl refl

pub returns-in-114-clause-found : goal.returns-in-114-clause-found
unfolding mnemonics
returns-in-114-clause-found c rest = by_letter 114 65 2 c.args.letter rest c.in-114.is refl refl

pub returns-in-115-clause-found : goal.returns-in-115-clause-found
unfolding mnemonics
returns-in-115-clause-found c rest = by_letter 115 67 17 c.args.letter rest c.in-115.is refl refl

pub returns-in-120-clause-found : goal.returns-in-120-clause-found
unfolding mnemonics
returns-in-120-clause-found c rest = by_letter 120 84 2 c.args.letter rest c.in-120.is refl refl
