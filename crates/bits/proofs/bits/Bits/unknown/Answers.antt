use Rattle.word.specs.declared.Width.TheVariants.{W32, W64}
use Rattle.bits.proofs.Laws.{unknown_at}
use Rattle.bits.proofs.bits.Bits.unknown.Goals as goal
use Rattle.bits.proofs.bits.Bits.unknown.Goals.{in-W32, in-W64}

pub returns-clause-holds : goal.returns-clause-holds
returns-clause-holds c = λ x h. elim c.match-width.branch [
  | in-W32 w ↦ rw w.mask-is (unknown_at c.args.width W32 x w.in-W32.is h)
  | in-W64 w ↦ rw w.mask-is (unknown_at c.args.width W64 x w.in-W64.is h)
]
