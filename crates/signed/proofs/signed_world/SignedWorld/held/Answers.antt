-- The chains held follow from the chains sent.
use Rattle.std.proofs.Common.{◌≡◌, subst, ◌∙◌}
use Rattle.std.specs.Prelude.{IfOk}
use Rattle.std.proofs.lemmas.Result.{IfOk-weaker}
use Rattle.world.specs.Kind.{World}
use Rattle.signed.specs.Kind.{held_in}
use Rattle.signed.specs.Sending.{HeldChains, held_of}
use Rattle.signed.proofs.Lent.{held_here}
use Rattle.signed.proofs.signed_world.SignedWorld.held.Goals as goal

pub returns : goal.returns
returns c =
    let s = c.self.inside in
    subst (λ (v : World). IfOk c.behind.result (λ (h : HeldChains). h.chains ≡ held_in v.scenario v.closed c.args.general)) c.self.view_is
    (IfOk-weaker c.behind.result (λ (h : HeldChains). h ≡ held_of c.args.general c.as_slice.result.now) (λ (h : HeldChains). h.chains ≡ held_in s.scenario s.closed.items c.args.general)
    (λ h is. held_here s.scenario s.closed.items c.as_slice.result.now c.args.general h (c.as_slice.ensures.value ∙ c.self.invariant.chains) is) c.behind.ensures.held)
