use Rattle.std.proofs.Common.{take, get_or, arith, inl, inr}
use Rattle.std.proofs.lemmas.List.{take_more, take_all}
use Rattle.combine.proofs.Voting.{Led, leads-up, leads-down, leads-only}
use Rattle.combine.proofs.campaign_rule.majority.candidate.Goals as goal
use Rattle.combine.proofs.campaign_rule.majority.candidate.Goals.{then-lead-eq0, else-lead-eq0, then-x-candidate, else-x-candidate}

pub loop-x-preserved : goal.loop-x-preserved
loop-x-preserved c =
    let led : Led c.loop-x.candidate c.loop-x.lead (get_or c.args.orders.now c.loop-x.x-index 0) c.if-lead-eq0.candidate =
    elim c.if-lead-eq0.branch [
      | then-lead-eq0 w ↦ inl (w.if-lead-eq0.true, w.candidate-is)
      | else-lead-eq0 w ↦ inr (w.if-lead-eq0.false, w.candidate-is)
    ]
    in
    rw (take_more c.args.orders.now c.loop-x.x-index 0 c.loop-x-test.true)
    (elim c.if-x-candidate.branch [
      | then-x-candidate w ↦ rw w.lead-is (leads-up (take c.loop-x.x-index c.args.orders.now) c.loop-x.candidate c.loop-x.lead (get_or c.args.orders.now c.loop-x.x-index 0) c.if-lead-eq0.candidate c.loop-x.invariant led w.if-x-candidate.true)
      | else-x-candidate w ↦ rw w.lead-is (leads-down (take c.loop-x.x-index c.args.orders.now) c.loop-x.candidate c.loop-x.lead (get_or c.args.orders.now c.loop-x.x-index 0) c.if-lead-eq0.candidate c.loop-x.invariant led w.if-x-candidate.false).1
    ])

pub returns : goal.returns
returns c = λ v most. leads-only c.args.orders.now c.loop-x.candidate c.loop-x.lead v (rw (take_all c.loop-x.x-index c.args.orders.now (let h = c.loop-x-test.false in omega arith)) at c.loop-x.invariant) most
