use Rattle.std.proofs.Common.{◌≡◌, ◌*◌, ◌≤◌, length, take}
use Rattle.insn.specs.Program.{slots_of}
use Rattle.reaching.proofs.edits.units_of.Given as goal

abbrev pub invariant-loop-insn : goal.invariant-loop-insn
invariant-loop-insn l = record {
  here : l.units ≡ length (slots_of (take l.insn-index l.insns));
  few : l.units ≤ 2 * l.insn-index;
}
