use Rattle.std.proofs.Common.{◌≡◌, ◌≤◌, ◌*◌, ◌^◌, length, take}
use Rattle.std.specs.Prelude.{sum_by}
use Rattle.surveys.specs.Plot.{Traitor}
use Rattle.surveys.proofs.campaign_order.statements.Given as goal

abbrev pub invariant-loop-traitor : goal.invariant-loop-traitor
invariant-loop-traitor l =
    (l.count ≡ sum_by (λ (t : Traitor). length t.lies) (take l.traitor-index l.plot.traitors)) × (l.count ≤ l.traitor-index * 2 ^ 64)
