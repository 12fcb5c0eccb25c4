-- The schedules for an exploration's examples are short enough to be read.
use Rattle.std.proofs.Common.{◌≡◌, ℕ, suc, ◌≤◌, List, length, map, All, Some, arith}
use Rattle.std.proofs.lemmas.List.Elements.{All-map}
use Rattle.insn.specs.declared.insn.Insn.{Insn}
use Rattle.round.specs.Scenario.{Scenario, IsScenario, program_of}
use Rattle.world.specs.Kind.{opening}
use Rattle.world.specs.World.{oral_kind}
use Rattle.world.proofs.Campaigns.{oral_campaigns}
use Rattle.campaign_orders.specs.Exploring.{Exploration, IsExploration}
use Rattle.campaign_orders.specs.Keeping.{example_text}
use Rattle.campaign_orders.specs.Outcomes.{oral_outcome}
use Rattle.campaign_orders.proofs.Concluding.{from_count}
use Rattle.campaign_orders.proofs.Deciding.{to_steps}
use Rattle.campaign_orders.proofs.Replaying.{all_orders, all_walk}
use Rattle.campaign_orders.proofs.Spending.{text_short}

pub examples_short : (s : Scenario) → IsScenario s → ((g : ℕ) (program : List Insn) → program_of s g ≡ Some program → length program ≤ 4096) → (most : ℕ) (e : Exploration) → IsExploration oral_kind oral_outcome s most e
    → All (λ (text : List ℕ). length text ≤ 1048576) (map (example_text oral_kind s) e.findings)
examples_short s is short most e h =
    All-map (λ (text : List ℕ). length text ≤ 1048576) (example_text oral_kind s) e.findings
    (λ k d lt.
    let walks = all_walk s is most e h k d lt in
    let rounds = from_count (suc s.bound) _ (opening oral_kind s) (to_steps oral_kind oral_campaigns s _ is (all_orders s is most e h k d lt)) in
    let few = is.rounds in
    text_short oral_kind s (oral_campaigns s is) is.few short _ (omega arith) walks)
