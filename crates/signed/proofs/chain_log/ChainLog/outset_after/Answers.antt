-- The context and the outbox follow from the chains of the first rounds.
use Rattle.std.proofs.Common.{◌∙◌, take, length, sym, ap, subst, arith}
use Rattle.round.specs.Scenario.{program_of}
use Rattle.signed.specs.Logs.{LogSeen}
use Rattle.signed.specs.Sending.{IsSent, context_behind, entries_behind, relay_behind}
use Rattle.signed.specs.Sent.{Sent}
use Rattle.signed.proofs.Along.{sent_length}
use Rattle.signed.proofs.Logs.{front_context, front_entries, front_length, front_relay, front_sent}
use Rattle.signed.proofs.chain_log.ChainLog.outset_after.Goals as goal

pub split_at-requires : goal.split_at-requires
split_at-requires c =
    let told = c.requires.told in
    let long = ap length (c.as_slice.ensures.value ∙ (ap (λ (l : LogSeen). l.sent) c.self.view_is ∙ told.1.chains)) ∙ sent_length c.args.scenario.now told.0 in
    let rounds = told.1.rounds in
    let passed = c.requires.passed in
    let from = c.from.ensures in
    omega arith

pub outset-requires-clause-left : goal.outset-requires-clause-left
outset-requires-clause-left c =
    let told = c.requires.told in
    let same = c.split_at.ensures.front ∙ (λ i. take (c.from.ensures i) ((c.as_slice.ensures.value ∙ ap (λ (l : LogSeen). l.sent) c.self.view_is) i)) in
    let long = ap length same ∙ front_length c.args.scenario.now told.0 c.args.self.now told.1 c.args.rounds c.requires.passed in
    let left = c.requires.left in
    omega arith

pub outset-requires-clause-sent : goal.outset-requires-clause-sent
outset-requires-clause-sent c =
    let s = c.args.scenario.now in
    let told = c.requires.told in
    let same = c.split_at.ensures.front ∙ (λ i. take (c.from.ensures i) ((c.as_slice.ensures.value ∙ ap (λ (l : LogSeen). l.sent) c.self.view_is) i)) in
    subst (λ (x : Sent). IsSent s x) (sym same) (front_sent s told.0 c.args.self.now told.1 c.args.rounds c.requires.passed)

pub returns-clause-context : goal.returns-clause-context
returns-clause-context c before is =
    let s = c.args.scenario.now in
    let g = c.args.general in
    let same = c.split_at.ensures.front ∙ (λ i. take (c.from.ensures i) ((c.as_slice.ensures.value ∙ ap (λ (l : LogSeen). l.sent) c.self.view_is) i)) in
    c.in_ok-context.ensures.context ∙ (ap (λ (x : Sent). context_behind s x g) same ∙ front_context s before c.args.self.now is c.args.rounds c.requires.passed g)

pub returns-clause-relay : goal.returns-clause-relay
returns-clause-relay c before is =
    let s = c.args.scenario.now in
    let g = c.args.general in
    let same = c.split_at.ensures.front ∙ (λ i. take (c.from.ensures i) ((c.as_slice.ensures.value ∙ ap (λ (l : LogSeen). l.sent) c.self.view_is) i)) in
    c.in_ok-context.ensures.relay ∙ (ap (λ (x : Sent). relay_behind s x g) same ∙ front_relay s before c.args.self.now is c.args.rounds c.requires.passed g)

pub returns-clause-entries : goal.returns-clause-entries
returns-clause-entries c before is =
    let s = c.args.scenario.now in
    let g = c.args.general in
    let same = c.split_at.ensures.front ∙ (λ i. take (c.from.ensures i) ((c.as_slice.ensures.value ∙ ap (λ (l : LogSeen). l.sent) c.self.view_is) i)) in
    c.in_ok-context.ensures.entries
    ∙ (ap (λ (x : Sent). entries_behind s x g (program_of s g)) same ∙ front_entries s before c.args.self.now is c.args.rounds c.requires.passed g (program_of s g))
