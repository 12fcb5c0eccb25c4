use Rattle.std.proofs.Common.{◌≤◌, ◌<◌, ◌+◌, arith, length}
use Rattle.insn.specs.Program.{slots_of}
use Rattle.insn.proofs.SlotLemmas.{slots_so_far, units_bound, length-le-slots_of}
use Rattle.reaching.proofs.MendLemmas.{edited_few, few_more, mended_so_far, starts_inside}
use Rattle.reaching.proofs.edits.mended.Goals as goal

pub push_edited-requires-clause-unit : goal.push_edited-requires-clause-unit
push_edited-requires-clause-unit c =
    let lt : c.loop-insn.insn-index < length c.args.insns.now = omega arith in
    let inside : c.loop-insn.unit < length (slots_of c.args.insns.now) = starts_inside c.args.insns.now c.loop-insn.insn-index _ _ lt c.insn-item.is c.loop-insn.invariant.here in
    let few = c.requires.units in
    omega arith

pub overflow_add-unit : goal.overflow_add-unit
overflow_add-unit c =
    let lt : c.loop-insn.insn-index < length c.args.insns.now = omega arith in
    let room : c.loop-insn.unit + c.units.result ≤ length (slots_of c.args.insns.now) = units_bound c.args.insns.now c.loop-insn.insn-index _ _ _ lt c.insn-item.is c.loop-insn.invariant.here c.units.ensures.units in
    omega arith

pub loop-insn-preserved : goal.loop-insn-preserved
loop-insn-preserved c =
    let lt : c.loop-insn.insn-index < length c.args.insns.now = omega arith in record {
      so_far = mended_so_far _ _ c.args.insns.now c.args.edit.now c.args.place c.loop-insn.insn-index _ _ lt c.insn-item.is c.loop-insn.invariant.here c.loop-insn.invariant.so_far c.in_ok-push_edited.ensures;
      here = slots_so_far c.args.insns.now c.loop-insn.insn-index _ _ _ lt c.insn-item.is c.loop-insn.invariant.here c.units.ensures.units;
      few = few_more _ _ _ c.loop-insn.insn-index c.loop-insn.invariant.few (edited_few c.args.edit.now c.args.place c.loop-insn.unit _) c.in_ok-push_edited.ensures;
    }

pub returns-clause-few : goal.returns-clause-few
returns-clause-few c = omega (arith, c.loop-insn.invariant.few, length-le-slots_of c.args.insns.now, c.requires.units)
