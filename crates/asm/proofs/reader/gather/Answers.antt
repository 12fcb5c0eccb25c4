use Rattle.std.proofs.Common.{refl, arith, rules}
use Rattle.std.proofs.lemmas.Grind.{common_steps}
use Rattle.asm.specs.Program.{nothing}
use Rattle.asm.proofs.KeepingLemmas.{units_are}
use Rattle.asm.proofs.reader.gather.Goals as goal

pub loop-line-init : goal.loop-line-init
loop-line-init c = record {
  room = omega arith;
  counted = omega arith;
  numbered = omega arith;
  kept = (nothing, record { units = refl; sources = λ few. search rules; few = search rules; names = λ q. grind (arith, common_steps) }, refl);
}

pub returns-clause-units : goal.returns-clause-units
returns-clause-units c = units_are _ c.loop-line.invariant.kept.0 c.loop-line.invariant.kept.1
