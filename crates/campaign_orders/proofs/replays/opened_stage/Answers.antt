-- The round is open already, or the campaign is played again.
use Rattle.std.proofs.Common.{◌∙◌, ap, sym}
use Rattle.world.specs.Kind.{opening}
use Rattle.world.specs.Playing.{lists_in}
use Rattle.world.specs.World.{oral_kind}
use Rattle.campaign_orders.specs.Layers.{reached}
use Rattle.campaign_orders.specs.Stages.{world_at}
use Rattle.campaign_orders.proofs.replays.opened_stage.Goals as goal

pub returns-in-Open : goal.returns-in-Open
returns-in-Open c = ap (world_at (lists_in c.args.rows.now) c.args.names.now) (sym c.in-Open.is)

pub returns-in_ok-round-in-Begun : goal.returns-in_ok-round-in-Begun
returns-in_ok-round-in-Begun c =
    c.in_ok-round-in-Begun.ensures
    ∙ (ap (λ s. reached (opening oral_kind s) (lists_in c.args.rows.now) c.args.names.now) c.scenario-in-Begun.ensures ∙ ap (world_at (lists_in c.args.rows.now) c.args.names.now) (sym c.in-Begun.is))
