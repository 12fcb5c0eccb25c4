use Rattle.std.proofs.Common.{◌<◌, arith, length}
use Rattle.insn.proofs.SlotLemmas.{slots_so_far}
use Rattle.reaching.proofs.edits.units_of.Goals as goal

pub loop-insn-preserved : goal.loop-insn-preserved
loop-insn-preserved c =
    let lt : c.loop-insn.insn-index < length c.args.insns.now = omega arith in record {
      here = slots_so_far c.args.insns.now c.loop-insn.insn-index _ _ _ lt c.insn-item.is c.loop-insn.invariant.here c.units.ensures.units;
      few = let less = c.loop-insn.invariant.few in let two = c.units.ensures.few in omega arith;
    }
