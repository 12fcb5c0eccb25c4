use Rattle.std.proofs.Common.{◌≤◌, ◌++◌, ◌∙◌, ◌+◌, arith, ap, refl, List, ℕ}
use Rattle.std.specs.String.{string_bytes}
use Rattle.table_scenario.specs.Programs.{round_text}
use Rattle.table_scenario.proofs.Placing.{next_round}
use Rattle.table_scenario.proofs.programs.push_rounds.Goals as goal

pub loop-round-preserved : goal.loop-round-preserved
loop-round-preserved g c =
    let t = g.H.Heard.seen c.args.table.now in
    let later : 2 ≤ c.loop-round.round = omega (arith, c.loop-round.auto.round) in
    c.in_ok-push_round.ensures
    ∙ (ap (λ (x : List ℕ). x ++ round_text t c.args.general c.loop-round.round) c.loop-round.invariant
    ∙ next_round (round_text t c.args.general) c.loop-round.round (c.loop-round.round + 1) (string_bytes c.args.text.now) later refl)
