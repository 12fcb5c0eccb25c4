use Rattle.std.proofs.Common.{ap, ◌∙◌}
use Rattle.campaign_schedules.proofs.Retracing.{signed_ledger_at, signed_retraced_by}
use Rattle.trace.specs.SignedAudit.{signed_chronicle_told}
use Rattle.campaign_schedules.proofs.schedules.signed_retraced.Goals as goal

pub signed_schedule_of-requires : goal.signed_schedule_of-requires
signed_schedule_of-requires c =
    signed_ledger_at c.args.scenario.now c.args.text.now c.accesses.result.now c.recall.ensures (c.accesses.ensures ∙ ap (λ chronicle. chronicle.accesses) (c.in_ok-chronicle.ensures.chronicle ∙ ap (signed_chronicle_told c.args.scenario.now) c.as_bytes.ensures.value))

pub returns-clause-retraced : goal.returns-clause-retraced
returns-clause-retraced c =
    signed_retraced_by c.args.scenario.now c.args.text.now c.accesses.result.now c.in_ok-schedule.schedule c.recall.ensures (c.accesses.ensures ∙ ap (λ chronicle. chronicle.accesses) (c.in_ok-chronicle.ensures.chronicle ∙ ap (signed_chronicle_told c.args.scenario.now) c.as_bytes.ensures.value))
    c.in_ok-schedule.ensures.again c.in_ok-schedule.ensures.entries c.in_ok-schedule.ensures.read c.in_ok-schedule_text.ensures
