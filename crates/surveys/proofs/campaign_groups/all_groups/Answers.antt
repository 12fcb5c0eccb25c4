use Rattle.std.proofs.Common.{ℕ, []}
use Rattle.surveys.specs.Groups.{groups_by_bound, of_generals}
use Rattle.surveys.proofs.Pieces.{pieces_on}
use Rattle.surveys.proofs.campaign_groups.all_groups.Goals as goal

pub loop-generals-preserved : goal.loop-generals-preserved
loop-generals-preserved c =
    pieces_on (λ (n : ℕ). groups_by_bound n (of_generals n c.args.findings.now)) c.loop-generals.generals [] c.loop-generals.groups.items _
    c.loop-generals.invariant c.in_ok-push_generals.ensures
