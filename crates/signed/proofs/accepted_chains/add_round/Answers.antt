use Rattle.std.proofs.Common.{sym}
use Rattle.signed.specs.Sending.{lent}
use Rattle.signed.specs.Sent.{delivered, sent_in}
use Rattle.signed.proofs.Gathering.{gathered_more}
use Rattle.signed.proofs.accepted_chains.add_round.Goals as goal

pub loop-sender-preserved : goal.loop-sender-preserved
loop-sender-preserved c =
    rw (c.in_ok-add_sending.ensures, c.loop-sender.invariant, c.sent.ensures)
    (sym (gathered_more c.loop-sender.sender (delivered (sent_in c.args.chronicle.now.scenario c.args.chronicle.now.letters)) c.args.round c.args.general (lent c.args.chains.now.items)))
