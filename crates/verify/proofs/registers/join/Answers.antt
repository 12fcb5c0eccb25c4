use Rattle.std.proofs.Common.{arith, ◌≢◌, get_or-set_other, ◌<◌, length, length-set}
use Rattle.verify.proofs.TableLemmas.{join_step}
use Rattle.verify.proofs.TableLemmas.{joins_all}
use Rattle.verify.proofs.registers.join.Goals as goal
use Rattle.absval.specs.declared.value.AbsVal.TheVariants.{Unset}

pub loop-i-preserved : goal.loop-i-preserved
loop-i-preserved c =
    let xs = c.loop-i.registers in
    let i = c.loop-i.i in
    let x = c.join_one.new.register in
    let l : i < length xs = omega arith in
    let m : i < length c.args.other.now = omega arith in
    record {
      size = rw (length-set xs i x) c.loop-i.invariant.size;
      rest = λ k j. let n : k ≢ i = omega arith in rw (get_or-set_other xs i k x Unset n) (c.loop-i.invariant.rest k (omega arith));
      exact = join_step xs c.args.registers.now c.args.other.now i x c.index-registers-i.result c.index-other-i.result l m (c.loop-i.invariant.rest i (omega arith)) c.join_one.ensures c.loop-i.invariant.exact;
    }

pub returns : goal.returns
returns c = joins_all c.args.registers.now c.args.other.now c.loop-i.registers c.loop-i.invariant.size (λ k l. c.loop-i.invariant.exact k (omega arith))
