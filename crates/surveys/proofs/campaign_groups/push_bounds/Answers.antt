use Rattle.std.proofs.Common.{ℕ}
use Rattle.surveys.specs.Groups.{groups_in, of_bound}
use Rattle.surveys.proofs.Pieces.{pieces_on}
use Rattle.surveys.proofs.campaign_groups.push_bounds.Goals as goal

pub loop-bound-preserved : goal.loop-bound-preserved
loop-bound-preserved c =
    pieces_on (λ (m : ℕ). groups_in c.args.generals m (of_bound m c.args.findings.now)) c.loop-bound.bound c.args.groups.now.items c.loop-bound.groups.items _
    c.loop-bound.invariant c.in_ok-push_bound.ensures
