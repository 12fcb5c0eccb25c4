use Rattle.std.proofs.Common.{length, ◌-◌}
use Rattle.threads.proofs.account.+are_accounted.Given as goal

abbrev pub decreases-are_accounted : goal.decreases-are_accounted
decreases-are_accounted g l = length l.rows.now - l.at
