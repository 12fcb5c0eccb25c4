use Rattle.std.proofs.Common.{◌≤◌, ◌<◌, ◌+◌, arith, length, string_bytes}
use Rattle.insn.specs.Program.{slots_of}
use Rattle.insn.proofs.SlotLemmas.{slots_so_far, units_bound}
use Rattle.explain.specs.Here.{known_of}
use Rattle.explain.specs.Units.{written_in}
use Rattle.explain.proofs.UnitLemmas.{known_lines_so_far}
use Rattle.explain.proofs.lines.put_units.Goals as goal

pub overflow_add-unit : goal.overflow_add-unit
overflow_add-unit c =
    let lt : c.loop-insn.insn-index < length c.args.insns.now = omega arith in
    let room : c.loop-insn.unit + c.units.result ≤ length (slots_of c.args.insns.now) = units_bound c.args.insns.now c.loop-insn.insn-index _ _ _ lt c.insn-item.is c.loop-insn.invariant.1 c.units.ensures.units in
    omega arith

pub loop-insn-preserved : goal.loop-insn-preserved
loop-insn-preserved c =
    let lt : c.loop-insn.insn-index < length c.args.insns.now = omega arith in (
      known_lines_so_far (written_in c.args.written.now) c.args.surveyed.now.program.now (string_bytes c.args.out.now) _ _ c.args.insns.now (known_of c.args.surveyed.now) c.args.fault.now c.loop-insn.insn-index _ _ lt c.insn-item.is c.loop-insn.invariant.1 c.loop-insn.invariant.0 c.in_ok-put_reached.ensures,
      slots_so_far c.args.insns.now c.loop-insn.insn-index _ _ _ lt c.insn-item.is c.loop-insn.invariant.1 c.units.ensures.units,
    )
