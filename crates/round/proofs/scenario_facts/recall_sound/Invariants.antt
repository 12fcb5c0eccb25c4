use Rattle.std.proofs.Common.{◌≡◌, ◌<◌, ℕ, List, Some}
use Rattle.std.specs.Prelude.{slice_get}
use Rattle.insn.specs.declared.insn.Insn.{Insn}
use Rattle.semantics.specs.Run.{IsSound}
use Rattle.round.proofs.scenario_facts.recall_sound.Given as goal

abbrev pub invariant-loop-seat : goal.invariant-loop-seat
invariant-loop-seat l = (i : ℕ) → i < l.seat-index → (program : List Insn) → slice_get l.seats i ≡ Some (Some program) → IsSound program
