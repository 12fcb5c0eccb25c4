-- A traitor begins with an empty outbox, and a loyal general with his chains.
use Rattle.signed.proofs.Receipts.{sent_rows}
use Rattle.signed.proofs.outset.begun_outbox.Goals as goal

pub outbox-requires-clause-rows : goal.outbox-requires-clause-rows
outbox-requires-clause-rows c = sent_rows c.args.scenario.now c.args.sent.now c.requires.sent
