use Rattle.std.proofs.Common.{◌≡◌, ◌-◌, suc, length, sym, ap, ◌∙◌, arith, List, Option}
use Rattle.label.specs.Labels.{on}
use Rattle.lies.specs.Plans.{without}
use Rattle.lies.specs.PlannedMessages.{choice_in, received}
use Rattle.lies.specs.declared.choice.Choice.{Choice}
use Rattle.lies.proofs.CodeLemmas.{message_last, message_step, message_stops, without_few}
use Rattle.lies.proofs.message.+message.Goals as goal

pub message-returns-in_default : goal.message-returns-in_default
message-returns-in_default g t c =
    c.received.ensures
    ∙ (ap (λ (o : Option (List Choice)). received (on c.args.traitors.now) c.args.sender o c.args.receiver) c.plan-plan.ensures.plan
    ∙ message_last (g.C.Combine.combined c.args.rule.now) (on c.args.traitors.now) c.args.relays c.args.off.now c.args.sender c.args.aims.now c.args.rest.now c.args.receiver c.in_default.ensures.cases)

pub message_by-returns-in_default : goal.message_by-returns-in_default
message_by-returns-in_default g t c =
    let long = c.requires.long in
    let more : c.args.relays ≡ suc (c.args.relays - 1) = omega arith in
    message_stops (g.C.Combine.combined c.args.rule.now) (on c.args.traitors.now) c.args.relays (c.args.relays - 1) c.args.off.now c.args.sender c.args.aims.now c.args.general c.args.later.now c.args.receiver more
    (ap (λ (o : Option (List Choice)). choice_in o c.args.general) (sym c.plan-plan.ensures.plan) ∙ (sym c.choice_in.ensures ∙ c.in_default.is))

pub message_by-message-requires : goal.message_by-message-requires
message_by-message-requires g t c κs within =
    let few = without_few c.args.off.now c.args.general in
    let so : length c.as_slice.result.now ≡ length (without c.args.off.now c.args.general) = ap length (c.as_slice.ensures.value ∙ c.without.ensures) in
    let most = c.requires.few in
    let short = c.requires.short in
    let long = c.requires.long in
    (let h = c.decreases in omega arith, (within, (omega arith, (omega arith, omega arith))))

pub message_by-returns : goal.message_by-returns
message_by-returns g t c =
    let long = c.requires.long in
    let more : c.args.relays ≡ suc (c.args.relays - 1) = omega arith in
    c.message.ensures
    ∙ message_step (g.C.Combine.combined c.args.rule.now) (on c.args.traitors.now) c.args.relays (c.args.relays - 1) c.args.off.now c.as_slice.result.now c.args.sender c.of.result c.args.aims.now c.next_aims.result c.args.general c.args.later.now c.args.receiver
    c.in-Some.choice more
    (ap (λ (o : Option (List Choice)). choice_in o c.args.general) (sym c.plan-plan.ensures.plan) ∙ (sym c.choice_in.ensures ∙ c.in-Some.is))
    (c.as_slice.ensures.value ∙ c.without.ensures) (c.of.ensures (on c.args.traitors.now) c.args.general (sym c.is_among.ensures)) c.next_aims.ensures
