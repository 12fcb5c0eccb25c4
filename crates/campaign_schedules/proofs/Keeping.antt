-- The schedules that an exploration keeps lead to its outcomes.
use Rattle.std.proofs.Common.{◌≡◌, ◌∙◌, ℕ, zero, suc, List, [], ◌∷◌, All, map, refl, sym, ap, subst, arith}
use Rattle.std.specs.List.{AllZip}
use Rattle.std.proofs.lemmas.List.Elements.{All-weaker}
use Rattle.round.specs.Scenario.{Scenario, IsScenario}
use Rattle.world.specs.Kind as kind
use Rattle.world.specs.KindLists.{listed, replayed}
use Rattle.world.specs.Schedules.{lines_by}
use Rattle.world.specs.World.{oral_kind}
use Rattle.world.proofs.Campaigns.{oral_campaigns}
use Rattle.campaign_orders.specs.declared.exploration.Reach.{Reach}
use Rattle.campaign_orders.specs.declared.exploration.Reach.TheVariants.{Whole, Beyond, InPart}
use Rattle.campaign_orders.specs.Exploring.{Finding, Exploration, IsCappedFinding, IsExploration, IsFinding, IsLowerFinding, IsReal}
use Rattle.campaign_orders.specs.Keeping.{example_text}
use Rattle.campaign_orders.specs.Orders.{order_of}
use Rattle.campaign_orders.specs.Outcomes.{oral_outcome, outcome_in}
use Rattle.campaign_orders.specs.Schedules.{schedule_from}
use Rattle.campaign_orders.proofs.Concluding.{from_count}
use Rattle.campaign_orders.proofs.Deciding.{replay_has, to_steps}
use Rattle.campaign_orders.proofs.ScheduleLaws.{orders_are_schedules}
use Rattle.campaign_schedules.proofs.Retracing.{read_of}
use Rattle.campaign_schedules.proofs.Within.{AreShort}
use Rattle.campaign_schedules.specs.Keeping.{GivesOutcome, KeptSchedulesPlay}

-- States that a finding is real: some run of the campaign has it.
abbrev Real : Scenario → Finding → Type 0
Real s f = IsReal oral_kind oral_outcome s f

all_real : (s : Scenario) (most : ℕ) (e : Exploration) → IsExploration oral_kind oral_outcome s most e → All (Real s) e.findings
all_real s most e h = by e.reach refl
  where
    by : (r : Reach) → e.reach ≡ r → All (Real s) e.findings
    by Whole t = All-weaker (IsFinding oral_kind oral_outcome s) (Real s) (λ f k. k.real) e.findings (h.all t).each
    by Beyond t = All-weaker (IsCappedFinding oral_kind oral_outcome s) (Real s) (λ f k. k.real) e.findings (h.beyond t).1.each
    by InPart t = All-weaker (IsLowerFinding oral_kind oral_outcome s) (Real s) (λ f k. k.real) e.findings (h.part t).1.each

module _ (s : Scenario) (is : IsScenario s) (short : AreShort s) where
  gives_outcome : (f : Finding) → Real s f → GivesOutcome s f (example_text oral_kind s f)
  gives_outcome f real =
      let laws = orders_are_schedules oral_kind oral_campaigns in
      let walks = laws.orders s f.example is real.example in
      let schedule = schedule_from oral_kind (kind.opening oral_kind s) f.example in
      let long = from_count (suc s.bound) f.example (kind.opening oral_kind s) (to_steps oral_kind oral_campaigns s f.example is real.example) in
      let few = is.rounds in
      let played : listed s (lines_by schedule) ≡ replayed oral_kind s f.example = laws.played s f.example is walks in
      record {
        schedule = schedule;
        read = read_of oral_kind oral_campaigns s f.example schedule is short (omega arith) (walks, refl);
        outcome = ap (outcome_in oral_kind oral_outcome s) played ∙ real.outcome;
        order = ap (order_of oral_kind s) played ∙ (replay_has oral_kind oral_campaigns s f.example is real.example).1;
      }

  each_gives : (fs : List Finding) → All (Real s) fs → AllZip (GivesOutcome s) fs (map (example_text oral_kind s) fs)
  each_gives [] h = tt
  each_gives (f ∷ fs) h = (gives_outcome f (h zero f (omega arith)), each_gives fs (λ k d lt. h (suc k) d (omega arith)))

  pub kept_play : KeptSchedulesPlay s
  kept_play most text schedules kept =
      subst (λ (l : List (List ℕ)). AllZip (GivesOutcome s) kept.exploration.findings l) (sym kept.kept) (each_gives kept.exploration.findings (all_real s most kept.exploration kept.explores))
