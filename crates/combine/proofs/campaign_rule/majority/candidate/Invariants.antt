use Rattle.std.proofs.Common.{take}
use Rattle.combine.proofs.Voting.{Leads}
use Rattle.combine.proofs.campaign_rule.majority.candidate.Given as goal

abbrev pub invariant-loop-x : goal.invariant-loop-x
invariant-loop-x l = Leads (take l.x-index l.orders) l.candidate l.lead
