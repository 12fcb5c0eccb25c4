-- In the outcomes found the loyal lieutenants agree if the traitors are few enough.
use Rattle.std.proofs.Common.{◌≡◌, List, ℕ, All, refl, sym, subst, ◌∙◌}
use Rattle.std.proofs.lemmas.List.Elements.{All-weaker}
use Rattle.label.specs.Lieutenants.{AgreeInList}
use Rattle.round.specs.Letters.{messages}
use Rattle.round.specs.Scenario.{Scenario, IsScenario, is_traitor}
use Rattle.world.specs.Chronicle.{decisions}
use Rattle.world.specs.Kind.{World, opening, run}
use Rattle.world.specs.KindLists.{replayed}
use Rattle.world.specs.Promises.{AgreeIfTolerable}
use Rattle.world.specs.World.{oral_kind}
use Rattle.world.proofs.Campaigns.{oral_campaigns}
use Rattle.world.proofs.Listed.{replayed_finished}
use Rattle.world.proofs.Punctual.{run_scenario}
use Rattle.world.proofs.Verdicts.{proved_decisions_agree}
use Rattle.campaign_orders.specs.declared.exploration.Reach.{Reach}
use Rattle.campaign_orders.specs.declared.exploration.Reach.TheVariants.{Whole, Beyond, InPart}
use Rattle.campaign_orders.specs.Outcomes.{oral_outcome}
use Rattle.campaign_orders.specs.Exploring.{Finding, IsReal, IsFinding, IsLowerFinding, IsCappedFinding}
use Rattle.campaign_orders.specs.Agreeing.{FindingsAgree}

real_agrees : (s : Scenario) → IsScenario s → (f : Finding) → IsReal oral_kind oral_outcome s f → AgreeIfTolerable s f.decisions
real_agrees s is f h bound =
    let es = replayed oral_kind s f.example in
    let w : World = run oral_kind (opening oral_kind s) es in
    let done = replayed_finished oral_kind oral_campaigns s f.example w is refl in
    let same : w.scenario ≡ s = run_scenario oral_kind es (opening oral_kind s) in
    let A : List ℕ → Type 0 = λ ds. AgreeInList s.generals s.commander s.order (is_traitor s) ds in
    subst A ((λ i. decisions (sym same i) (messages w.closed)) ∙ h.outcome) (proved_decisions_agree s es is done bound)

pub proved_findings_agree : FindingsAgree
proved_findings_agree s most e is h = by e.reach refl
  where
    by : (r : Reach) → e.reach ≡ r → All (λ (f : Finding). AgreeIfTolerable s f.decisions) e.findings
    by Whole t = All-weaker (IsFinding oral_kind oral_outcome s) (λ (f : Finding). AgreeIfTolerable s f.decisions) (λ f k. real_agrees s is f k.real) e.findings (h.all t).each
    by Beyond t = All-weaker (IsCappedFinding oral_kind oral_outcome s) (λ (f : Finding). AgreeIfTolerable s f.decisions) (λ f k. real_agrees s is f k.real) e.findings (h.beyond t).1.each
    by InPart t = All-weaker (IsLowerFinding oral_kind oral_outcome s) (λ (f : Finding). AgreeIfTolerable s f.decisions) (λ f k. real_agrees s is f k.real) e.findings (h.part t).1.each
