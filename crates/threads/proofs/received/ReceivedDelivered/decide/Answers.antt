-- The lieutenants' trees are resolved.
use Rattle.std.proofs.Common.{List, length, ◌∙◌, ap, subst, arith}
use Rattle.std.specs.List.{AllZip}
use Rattle.combine.specs.Rule.{combined_by}
use Rattle.combine.specs.declared.campaign_rule.Rule.{Rule}
use Rattle.tree.specs.LieutenantTree.{LieutenantTree}
use Rattle.resolve.specs.Decided.{Decides}
use Rattle.threads.proofs.Deciding.{zip_long, all_decided}
use Rattle.threads.proofs.received.ReceivedDelivered.decide.Goals as goal

pub resolve_all-requires-sync-R : goal.resolve_all-requires-sync-R
resolve_all-requires-sync-R g c = λ κs within. c.requires.shared

pub as_array-requires : goal.as_array-requires
as_array-requires g c =
    let long = zip_long (combined_by c.rule.result) c.trees.result.now c.in_ok-orders.orders.items c.in_ok-orders.ensures in
    let count = c.requires.told.1.count in
    let trees = ap length c.trees.ensures in
    let few = c.recall.ensures.few in
    let same = ap length c.as_slice.ensures.value in
    omega arith

pub returns : goal.returns
returns g c before told =
    let s = c.args.scenario.now in
    let orders = c.in_ok-orders.orders.items in
    let all : AllZip (Decides (combined_by s.rule)) c.args.self.now.trees orders =
    subst (λ (trees : List LieutenantTree). AllZip (Decides (combined_by s.rule)) trees orders) c.trees.ensures
    (subst (λ (rule : Rule). AllZip (Decides (combined_by rule)) c.trees.result.now orders) c.rule.ensures c.in_ok-orders.ensures) in
    c.as_array.ensures ∙ (c.as_slice.ensures.value ∙ all_decided s before c.args.self.now orders c.recall.ensures.commander told all)
