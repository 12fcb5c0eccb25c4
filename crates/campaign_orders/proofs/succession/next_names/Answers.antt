-- The least greater name replaces an earlier one.
use Rattle.std.proofs.Common.{◌∙◌, ap, arith}
use Rattle.campaign_orders.specs.Succession.{next_names}
use Rattle.campaign_orders.proofs.Passing.{turned_before}
use Rattle.campaign_orders.proofs.succession.next_names.Goals as goal

pub returns-in-Some : goal.returns-in-Some
returns-in-Some c =
    turned_before c.loop-place.names.items c.deref.result.now c.loop-place.place c.index.result.now c.in-Some.general c.truncate.new.self.items
    (omega arith) c.loop-place.invariant.within c.loop-place.invariant.none c.index.ensures c.deref.ensures.value c.in-Some.ensures c.truncate.ensures.items ∙ ap next_names c.loop-place.invariant.same
