use Rattle.world.specs.Playing.{lists_in}
use Rattle.world.specs.World.{oral_kind}
use Rattle.campaign_orders.specs.Outcomes.{oral_outcome}
use Rattle.campaign_orders.proofs.Visiting.{IsVisited}
use Rattle.campaign_orders.proofs.explorer.explore_least.Given as goal

abbrev pub invariant-loop-visited : goal.invariant-loop-visited
invariant-loop-visited l = IsVisited oral_kind oral_outcome l.scenario l.visited (lists_in l.names.items) l.findings.items
