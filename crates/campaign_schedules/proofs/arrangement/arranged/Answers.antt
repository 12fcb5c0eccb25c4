-- A list that cannot be read has a fault in its text.
use Rattle.std.proofs.Common.{rules}
use Rattle.world.specs.World.{oral_kind}
use Rattle.campaign_schedules.specs.Arranged.{IfFault, IsUnarranged}
use Rattle.campaign_schedules.proofs.Stopping.{unlisted}
use Rattle.campaign_schedules.proofs.arrangement.arranged.Goals as goal

pub returns-in_err-rows-clause-unarranged : goal.returns-in_err-rows-clause-unarranged
returns-in_err-rows-clause-unarranged c =
    let fault : IfFault c.in_err-rows.field-0.0 (IsUnarranged oral_kind c.args.scenario.now c.args.text.now) = unlisted oral_kind c.args.scenario.now c.args.text.now c.in_err-rows.field-0.0 c.in_err-rows.ensures.fault in
    search rules
