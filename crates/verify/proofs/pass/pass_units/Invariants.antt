use Rattle.std.proofs.Common.{◌≡◌, Ok, length}
use Rattle.insn.specs.Program.{slots_of}
use Rattle.verify.specs.Kept.{AtHand}
use Rattle.verify.specs.Ready.{AreMade}
use Rattle.verify.specs.Judgement.{KnownSoFar, passed_to}
use Rattle.verify.proofs.pass.pass_units.Given as goal

abbrev pub invariant-loop-unit : goal.invariant-loop-unit
invariant-loop-unit l = record {
  room : length l.pending.items ≡ length (slots_of l.program);
  long : length l.codes.items ≡ length (slots_of l.program);
  made : AreMade l.program l.codes.items l.first l.unit;
  comes : (reached : KnownSoFar) × (passed_to l.program l.unit ≡ Ok reached) × AtHand reached l.unit l.hand l.pending.items;
}
