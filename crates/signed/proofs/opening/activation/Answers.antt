-- The context is a whole one.
use Rattle.std.proofs.Common.{length, ap, ◌∙◌}
use Rattle.signed.proofs.Receipts.{sent_rows}
use Rattle.signed.proofs.Written.{context_whole}
use Rattle.signed.proofs.opening.activation.Goals as goal

pub context-requires-clause-rows : goal.context-requires-clause-rows
context-requires-clause-rows c = sent_rows c.args.scenario.now c.args.sent.now c.requires.sent

pub outbox-requires-clause-rows : goal.outbox-requires-clause-rows
outbox-requires-clause-rows c = sent_rows c.args.scenario.now c.args.sent.now c.requires.sent

pub start-requires-clause-context : goal.start-requires-clause-context
start-requires-clause-context c = ap length c.in_ok-context.ensures ∙ (context_whole c.args.scenario.now c.args.sent.now c.args.general).long
