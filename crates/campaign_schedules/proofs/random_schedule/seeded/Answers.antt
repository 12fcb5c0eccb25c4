use Rattle.std.proofs.Common.{◌∙◌, ap, string_bytes}
use Rattle.std.proofs.lemmas.Result.{IfOk-weaker}
use Rattle.campaign_orders.specs.Text.{schedule_text}
use Rattle.campaign_schedules.proofs.Seeds.{seeds_are_read}
use Rattle.campaign_schedules.proofs.random_schedule.seeded.Goals as goal

pub returns-clause-read : goal.returns-clause-read
returns-clause-read c =
    IfOk-weaker c.schedule_text.result _ _
    (λ text is. seeds_are_read c.schedules_are_read.ensures c.args.seed (string_bytes text) (is ∙ ap schedule_text c.in_ok-schedule.ensures)) c.schedule_text.ensures
