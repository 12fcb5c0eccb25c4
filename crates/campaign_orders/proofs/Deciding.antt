-- The laws of orders of accesses.
use Rattle.std.proofs.Common.{◌≡◌, ℕ, suc, List, sym, ap, subst, ◌∙◌}
use Rattle.world.specs.declared.event.Event.{Event}
use Rattle.round.specs.Scenario.{Scenario, IsScenario}
use Rattle.world.specs.Kind.{Kind, World, opening, run}
use Rattle.world.specs.KindLists.{IsComplete, replayed, names_in}
use Rattle.world.specs.Campaigns.{AreCampaigns}
use Rattle.world.proofs.Replaying.{runs_are_replays}
use Rattle.world.proofs.Lasting.{replayed_complete}
use Rattle.campaign_orders.specs.Orders.{order_of, IsOrder, IsFrom, OrdersDecide}
use Rattle.campaign_orders.proofs.Walking.{order_walks}
use Rattle.campaign_orders.proofs.Leading.{leads}

module _ (K : Kind) (good : AreCampaigns K) where
  -- A complete run is the replay of its order.
  pub again : (s : Scenario) (events : List Event) → IsScenario s → IsComplete K s events → run K (opening K s) (replayed K s (order_of K s events)) ≡ run K (opening K s) events
  again s events is c = (runs_are_replays K good).worlds s events is c

  same_worlds : (s : Scenario) (events others : List Event) → IsScenario s → IsComplete K s events → IsComplete K s others →
      order_of K s events ≡ order_of K s others → run K (opening K s) events ≡ run K (opening K s) others
  same_worlds s events others is c d e =
      sym (again s events is c) ∙ (ap (λ (o : List (List ℕ)). run K (opening K s) (replayed K s o)) e ∙ again s others is d)

  pub replay_has : (s : Scenario) (order : List (List ℕ)) → IsScenario s → IsOrder K s order → IsComplete K s (replayed K s order) × (order_of K s (replayed K s order) ≡ order)
  replay_has s order is o =
      let e : run K (opening K s) (replayed K s order) ≡ run K (opening K s) o.0 = ap (λ (x : List (List ℕ)). run K (opening K s) (replayed K s x)) (sym o.2) ∙ again s o.0 is o.1 in
      (replayed_complete K s (good s is) order, ap (λ (w : World). names_in 1 w.ledger (suc s.bound)) e ∙ o.2)

  pub to_steps : (s : Scenario) (order : List (List ℕ)) → IsScenario s → IsOrder K s order → IsFrom K (opening K s) (suc s.bound) order
  to_steps s order is o = (let A : List (List ℕ) → Type 0 = λ x. IsFrom K (opening K s) (suc s.bound) x in subst A o.2 (order_walks K good s o.0 is o.1))

  pub orders_decide : OrdersDecide K
  orders_decide = record {
    worlds = same_worlds;
    runs = again;
    replays = replay_has;
    steps = λ s order is. (to_steps s order is, λ h. leads K good s order is h);
  }
