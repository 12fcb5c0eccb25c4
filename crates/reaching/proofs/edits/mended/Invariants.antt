use Rattle.std.proofs.Common.{◌≡◌, ◌*◌, ◌≤◌, length, take}
use Rattle.insn.specs.Program.{slots_of}
use Rattle.reaching.specs.Mends.{mended}
use Rattle.reaching.proofs.edits.mended.Given as goal

abbrev pub invariant-loop-insn : goal.invariant-loop-insn
invariant-loop-insn l = record {
  so_far : l.out.items ≡ mended l.edit l.place 0 (take l.insn-index l.insns);
  here : l.unit ≡ length (slots_of (take l.insn-index l.insns));
  few : length l.out.items ≤ 3 * l.insn-index;
}
