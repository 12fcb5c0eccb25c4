-- One more order is appended.
use Rattle.std.proofs.Common.{ℕ, ◌≡◌, List, Option, [], ◌∷◌, ◌++◌, length, length-append, ap, ◌∙◌, arith}
use Rattle.outbox.proofs.AlikeRows.{one_more, told_seen}
use Rattle.outbox.proofs.alike_row.UniformRow.told.Goals as goal

pub loop-number-preserved : goal.loop-number-preserved
loop-number-preserved c =
    let o : Option ℕ = c.self.inside.order in
    let before : List (Option ℕ) = c.loop-number.told.items in
    record {
      all = c.push.ensures.items ∙ (ap (λ (xs : List (Option ℕ)). xs ++ o ∷ []) c.loop-number.invariant.all ∙ one_more o c.loop-number.number);
      few = (let e = ap length c.push.ensures.items in let long = length-append before (o ∷ []) in let few = c.loop-number.invariant.few in omega arith);
    }

pub returns : goal.returns
returns c =
    let end : c.loop-number.number ≡ c.count-count.result = let l = c.loop-number-test.false in let g = c.loop-number.auto.number-end in omega arith in
    c.loop-number.invariant.all ∙ told_seen c.self.inside.order c.self.inside.receivers c.args.self.now c.loop-number.number c.self.view_is (end ∙ c.count-count.ensures.count)
