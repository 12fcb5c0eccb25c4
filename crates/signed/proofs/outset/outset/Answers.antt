-- The context and the outbox follow from the chains that the general holds.
use Rattle.signed.proofs.Receipts.{sent_rows}
use Rattle.signed.proofs.outset.outset.Goals as goal

pub context-requires-clause-rows : goal.context-requires-clause-rows
context-requires-clause-rows c = sent_rows c.args.scenario.now c.args.sent.now c.requires.sent
