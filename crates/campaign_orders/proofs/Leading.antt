-- Choosing, again and again, which general makes the next access leads to the order of a complete run.
use Rattle.std.proofs.Common.{◌≡◌, ℕ, zero, suc, List, [], ◌∷◌, ◌++◌, true, false, refl, sym, ap, subst, ◌∙◌, append-nil, arith}
use Rattle.round.specs.Scenario.{Scenario, IsScenario}
use Rattle.world.specs.Kind.{Kind, World, opening}
use Rattle.world.specs.KindLists.{replayed, names_in}
use Rattle.world.specs.Campaigns.{IsCampaign, AreCampaigns}
use Rattle.world.proofs.Lasting.{opening_due, replayed_complete}
use Rattle.campaign_orders.specs.Orders.{past, behind, IsRoundFrom, IsFrom, order_of, IsOrder}
use Rattle.campaign_orders.proofs.Walking.{order_walks}
use Rattle.campaign_orders.specs.Walks.{IsWalk, AreWalks, IsCompletion}
use Rattle.campaign_orders.proofs.Completing.{completes}

module _ (K : Kind) where
  pub round_walks : (names : List ℕ) (w : World) → IsRoundFrom K w names → IsWalk K w names
  round_walks [] w h = tt
  round_walks (g ∷ names) w h = (h.0, round_walks names (past K w g) h.1)

  pub from_walks : (k : ℕ) (order : List (List ℕ)) (w : World) → IsFrom K w k order → AreWalks K w order
  from_walks zero order w h = (let A : List (List ℕ) → Type 0 = λ o. AreWalks K w o in subst A (sym h) tt)
  from_walks (suc k) [] w h = absurd h
  from_walks (suc k) (names ∷ order) w h = (round_walks names w h.0, from_walks k order (behind K w names) h.1)

  -- After all accesses of a round nobody makes a further one.
  none_comes : (names q : List ℕ) (w : World) → IsRoundFrom K w names → IsRoundFrom K w (names ++ q) → q ≡ []
  none_comes [] [] w h k = refl
  none_comes [] (g ∷ q) w h k = absurd (let f : false ≡ true = sym (h g) ∙ k.0 in cc)
  none_comes (g ∷ names) q w h k = none_comes names q (past K w g) h.1 k.1

  pub same_round : (names row : List ℕ) (w : World) → IsRoundFrom K w names → IsRoundFrom K w row → (q : List ℕ) → row ≡ names ++ q → row ≡ names
  same_round names row w h k q e =
      let A : List ℕ → Type 0 = λ l. IsRoundFrom K w l in
      let none : q ≡ [] = none_comes names q w h (subst A e k) in
      e ∙ (ap (λ (l : List ℕ). names ++ l) none ∙ append-nil names)

  completed_same : (k : ℕ) (order rows : List (List ℕ)) (w : World) → IsFrom K w k order → IsFrom K w k rows → IsCompletion order rows → rows ≡ order
  completed_same zero order rows w h j c = j ∙ sym h
  completed_same (suc k) [] rows w h j c = absurd h
  completed_same (suc k) (names ∷ order) [] w h j c = absurd j
  completed_same (suc k) (names ∷ order) (row ∷ rows) w h j c =
      let one : row ≡ names = same_round names row w h.0 j.0 c.0.0 c.0.1 in
      let A : List ℕ → Type 0 = λ l. IsFrom K (behind K w l) k rows in
      (λ i. one i ∷ completed_same k order rows (behind K w names) h.1 (subst A one j.1) c.1 i)

  -- The order of a replay, given its names.
  pub replay_completes : (s : Scenario) (names : List (List ℕ)) → IsCampaign K s → AreWalks K (opening K s) names → IsCompletion names (order_of K s (replayed K s names))
  replay_completes s names is h =
      let r = completes K s is (suc s.bound) names (opening K s) (opening_due K s is) (omega arith) h in
      let A : List (List ℕ) → Type 0 = λ l. IsCompletion names l in
      subst A (ap (λ l. names_in 1 l (suc s.bound)) (sym r.ledger)) r.completion

  pub leads : AreCampaigns K → (s : Scenario) (order : List (List ℕ)) → IsScenario s → IsFrom K (opening K s) (suc s.bound) order → IsOrder K s order
  leads good s order is h =
      let complete = replayed_complete K s (good s is) order in
      let rows = order_of K s (replayed K s order) in
      let c = replay_completes s order (good s is) (from_walks (suc s.bound) order (opening K s) h) in
      (replayed K s order, complete, completed_same (suc s.bound) order rows (opening K s) h (order_walks K good s (replayed K s order) is complete) c)
