use Rattle.std.proofs.Common.{ℕ, [], ◌∷◌}
use Rattle.surveys.specs.Groups.{group_of}
use Rattle.surveys.proofs.Pieces.{pieces_on}
use Rattle.surveys.proofs.campaign_groups.push_groups.Goals as goal

pub loop-traitors-preserved : goal.loop-traitors-preserved
loop-traitors-preserved c =
    pieces_on (λ (t : ℕ). group_of c.args.generals c.args.bound c.args.findings.now t ∷ []) c.loop-traitors.traitors c.args.groups.now.items c.loop-traitors.groups.items _
    c.loop-traitors.invariant c.in_ok-push_group.ensures
