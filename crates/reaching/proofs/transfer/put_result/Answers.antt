use Rattle.std.proofs.Common.{arith, ◌≡◌, ◌≢◌, ◌<◌, ◌∙◌, refl, ap, length, length-set, get_or-set_other}
use Rattle.absval.specs.declared.value.AbsVal.{AbsVal}
use Rattle.absval.specs.NumberSets.{within}
use Rattle.verify.proofs.Zips.{at_set}
use Rattle.verify.proofs.TableLemmas.{behind_whole}
use Rattle.reaching.proofs.transfer.put_result.Goals as goal
use Rattle.absval.specs.declared.value.AbsVal.TheVariants.{Unset, Number}

pub loop-r-init : goal.loop-r-init
loop-r-init c =
    let xs = c.args.registers.now in
    let x = Number c.within.result in
    let l : 0 < length xs = omega (arith, c.told-registers) in
    record {
      size = length-set xs 0 x ∙ c.told-registers;
      first = at_set (λ (a : AbsVal). a ≡ Number (within c.args.range)) xs 0 0 x Unset l (λ e. ap Number c.within.ensures.exact) (λ n. absurd (n refl));
      unset = λ k ge lt. absurd (omega arith);
      others = λ k ge le. let n : k ≢ 0 = omega arith in get_or-set_other xs 0 k x Unset n;
    }

pub loop-r-preserved : goal.loop-r-preserved
loop-r-preserved c =
    let xs = c.loop-r.registers in
    let i = c.loop-r.r in
    let l : i < length xs = omega arith in
    record {
      size = rw (length-set xs i Unset) c.loop-r.invariant.size;
      first = at_set (λ (a : AbsVal). a ≡ Number (within c.args.range)) xs i 0 Unset Unset l (λ e. absurd (omega arith)) (λ n. c.loop-r.invariant.first);
      unset = λ k ge lt. at_set (λ (a : AbsVal). a ≡ Unset) xs i k Unset Unset l (λ e. refl) (λ n. c.loop-r.invariant.unset k ge (omega arith));
      others = λ k ge le. let n : k ≢ i = omega arith in rw (get_or-set_other xs i k Unset Unset n) (c.loop-r.invariant.others k ge (omega arith));
    }

pub returns : goal.returns
returns c =
    behind_whole (within c.args.range) c.args.registers.now c.loop-r.registers c.told-registers c.loop-r.invariant.size c.loop-r.invariant.first
    (λ r ge le. c.loop-r.invariant.unset r ge (omega arith)) (λ r ge. c.loop-r.invariant.others r (omega arith) (omega arith))
