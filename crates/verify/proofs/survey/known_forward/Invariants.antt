use Rattle.std.proofs.Common.{◌≡◌, ◌<◌, ℕ, Ok, length}
use Rattle.std.specs.Prelude.{slice_get}
use Rattle.insn.specs.Program.{slots_of}
use Rattle.verify.specs.Judgement.{passed_to}
use Rattle.verify.specs.KnownAtUnits.{known_on_the_pass}
use Rattle.verify.proofs.survey.known_forward.Given as goal

abbrev pub invariant-loop-unit : goal.invariant-loop-unit
invariant-loop-unit l = record {
  room : length l.pending.items ≡ length (slots_of l.program);
  long : length l.codes.items ≡ length (slots_of l.program);
  comes : passed_to l.program l.unit ≡ Ok l.pending.items;
  known : (unit : ℕ) → unit < length l.states.items → slice_get l.states.items unit ≡ known_on_the_pass l.program unit;
  so_far : length l.states.items ≡ l.unit;
}
