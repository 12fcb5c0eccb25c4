-- The part has an activation, or none.
use Rattle.std.proofs.Common.{◌∙◌, Some, None, sym, subst}
use Rattle.std.specs.Prelude.{IfOk}
use Rattle.world.specs.declared.part.Progress.{Progress}
use Rattle.campaign_orders.specs.OpenRounds.{IsPartAfter}
use Rattle.campaign_orders.proofs.marked_part.MarkedPart.next_access.Goals as goal

pub returns-in-Acting : goal.returns-in-Acting
returns-in-Acting c =
    subst (λ (p : Progress). IfOk c.next_access.result (λ made. IsPartAfter c.args.general c.args.words.now (Some p) made)) (sym c.in-Acting.is ∙ c.self.view_is) c.next_access.ensures

pub returns-in-Silent : goal.returns-in-Silent
returns-in-Silent c = subst (λ (p : Progress). IsPartAfter c.args.general c.args.words.now (Some p) None) (sym c.in-Silent.is ∙ c.self.view_is) tt

pub returns-in-Posted : goal.returns-in-Posted
returns-in-Posted c = subst (λ (p : Progress). IsPartAfter c.args.general c.args.words.now (Some p) None) (sym c.in-Posted.is ∙ c.self.view_is) tt
