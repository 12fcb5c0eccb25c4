use Rattle.std.proofs.Common.{◌≡◌, ◌≤◌, ◌*◌, take}
use Rattle.std.specs.Prelude.{sum_by}
use Rattle.campaign_orders.specs.Listing.{instructions}
use Rattle.campaign_orders.proofs.layers.most_in_round.Given as goal

abbrev pub invariant-loop-general : goal.invariant-loop-general
invariant-loop-general l = record {
  sum : l.sum ≡ sum_by instructions (take l.general l.scenario.programs);
  few : l.sum ≤ l.general * 4096;
}
