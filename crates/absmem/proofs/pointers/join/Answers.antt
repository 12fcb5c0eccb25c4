use Rattle.std.proofs.Common.{◌≡◌, ◌≤◌, length-set, set, arith, ◌∙◌, refl, ap}
use Rattle.absmem.specs.declared.spill.Spill.{Spill}
use Rattle.absmem.specs.Known.{spill_at, joined_spill}
use Rattle.absmem.proofs.Keeping.{joined_more, left_more}
use Rattle.absmem.proofs.pointers.join.Goals as goal

pub loop-b-preserved : goal.loop-b-preserved
loop-b-preserved c =
    let here : c.loop-b.b ≤ c.loop-b.b = omega arith in
    let joined : Spill = joined_spill (spill_at c.loop-b.spills c.loop-b.b) (spill_at c.args.other.now c.loop-b.b) in
    let whole : c.settle.new.spills ≡ set c.loop-b.spills c.loop-b.b joined =
    c.settle.ensures ∙ ap (λ (other : Spill). set c.loop-b.spills c.loop-b.b (joined_spill (spill_at c.loop-b.spills c.loop-b.b) other)) c.at.ensures.known in
    record {
      size = rw whole (length-set c.loop-b.spills c.loop-b.b joined ∙ c.loop-b.invariant.size);
      done = λ j lt. rw whole (joined_more c.args.spills.now c.args.other.now c.loop-b.spills c.loop-b.b j joined c.loop-b-test.true c.loop-b.invariant.size refl
          (c.loop-b.invariant.left c.loop-b.b here) c.loop-b.invariant.done lt);
      left = λ j le. rw whole (left_more c.args.spills.now c.loop-b.spills c.loop-b.b j joined c.loop-b.invariant.left le);
    }
