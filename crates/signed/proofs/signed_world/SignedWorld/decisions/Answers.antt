-- The decisions follow from the chains that the closed rounds have sent.
use Rattle.std.proofs.Common.{◌≡◌, length, ap, subst, ◌∙◌, arith}
use Rattle.world.specs.Kind.{World}
use Rattle.signed.specs.Chronicle.{signed_decisions}
use Rattle.signed.proofs.Closed.{few_rounds, sent_long}
use Rattle.signed.proofs.Promised.{held_agree}
use Rattle.signed.proofs.signed_world.SignedWorld.decisions.Goals as goal

pub decisions_of-requires-clause-sent : goal.decisions_of-requires-clause-sent
decisions_of-requires-clause-sent c = (c.self.inside.closed.items, c.as_slice.ensures.value ∙ c.self.invariant.chains)

pub decisions_of-requires-clause-few : goal.decisions_of-requires-clause-few
decisions_of-requires-clause-few c =
    let s = c.self.inside in
    let long = sent_long s.scenario s.closed.items s.board s.opened s.parts.items s.full s.sent.items s.signers.items c.self.invariant in
    let few = few_rounds s.scenario s.closed.items s.board s.opened s.parts.items s.full s.sent.items s.signers.items c.self.invariant c.recall.ensures in
    let same = ap length c.as_slice.ensures.value in
    omega arith

pub returns-clause-values : goal.returns-clause-values
returns-clause-values c =
    let s = c.self.inside in
    subst (λ (w : World). c.decisions_of.result.items ≡ signed_decisions w.scenario w.closed) c.self.view_is
    (c.decisions_of.ensures s.closed.items (c.as_slice.ensures.value ∙ c.self.invariant.chains))

pub returns-clause-agree : goal.returns-clause-agree
returns-clause-agree c =
    let s = c.self.inside in
    held_agree s.scenario s.closed.items s.board s.opened s.parts.items s.full s.sent.items s.signers.items c.args.self.now c.decisions_of.result.items c.recall.ensures c.self.invariant c.self.view_is (returns-clause-values c)
