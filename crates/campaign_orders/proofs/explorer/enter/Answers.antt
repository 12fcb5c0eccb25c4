-- The order is counted by an earlier finding, or appended.
use Rattle.std.proofs.Common.{◌∷◌, [], ◌++◌, ◌∙◌, sym, ap, subst, List}
use Rattle.campaign_orders.specs.Exploring.{Finding}
use Rattle.campaign_orders.specs.Places.{IsPlaceOf, IsNowhere}
use Rattle.world.specs.Playing.{lists_in}
use Rattle.campaign_orders.proofs.Passing.{entered_there, entered_behind}
use Rattle.campaign_orders.proofs.explorer.enter.Goals as goal

pub returns-in-Some : goal.returns-in-Some
returns-in-Some c =
    let fs = c.args.findings.now.items in
    let there = subst (λ (l : List Finding). IsPlaceOf l c.args.decisions.now c.in-Some.place) c.as_slice.ensures.value c.in-Some.ensures in
    sym (entered_there fs c.in-Some.place c.args.decisions.now (lists_in c.args.order.now) c.index_mut.result.now c.count_again.new.self there.0 there.1 there.2 c.index_mut.ensures.value c.count_again.ensures)

pub returns-in_ok-push-in-None : goal.returns-in_ok-push-in-None
returns-in_ok-push-in-None c =
    let fs = c.args.findings.now.items in
    let none = subst (λ (l : List Finding). IsNowhere l c.args.decisions.now) c.as_slice.ensures.value c.in-None.ensures in
    c.in_ok-push-in-None.ensures.items
    ∙ (ap (λ (f : Finding). fs ++ f ∷ []) c.in_ok-first-in-None.ensures ∙ sym (entered_behind fs c.args.decisions.now (lists_in c.args.order.now) none))
