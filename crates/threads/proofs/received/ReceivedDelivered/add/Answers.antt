-- One more round is delivered.
use Rattle.std.proofs.Common.{◌∷◌, [], arith, length-append}
use Rattle.threads.proofs.received.ReceivedDelivered.add.Goals as goal

pub returns-clause-count : goal.returns-clause-count
returns-clause-count c =
    let before = c.requires.told in
    let old = before.1.rounds in
    let new = (c.deliver.ensures before.0 before.1).rounds in
    omega (arith, length-append before.0 (c.args.letters.now ∷ []))
