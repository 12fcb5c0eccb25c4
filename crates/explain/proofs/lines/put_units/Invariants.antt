use Rattle.std.proofs.Common.{◌≡◌, ◌++◌, length, take}
use Rattle.std.specs.String.{string_bytes}
use Rattle.insn.specs.Program.{slots_of}
use Rattle.explain.specs.Explained.{known_lines}
use Rattle.explain.specs.Here.{known_of}
use Rattle.explain.specs.Units.{written_in}
use Rattle.explain.proofs.lines.put_units.Given as goal

abbrev pub invariant-loop-insn : goal.invariant-loop-insn
invariant-loop-insn l =
    (string_bytes l.out ≡ string_bytes l.fn.out ++ known_lines (written_in l.written) l.surveyed.program.now (known_of l.surveyed) l.fault 0 (take l.insn-index l.insns)) × (l.unit ≡ length (slots_of (take l.insn-index l.insns)))
