-- The reason for a label that does not go to the receiver.
use Rattle.std.proofs.Common.{◌≡◌, ◌∙◌, ◌<◌, length, arith}
use Rattle.std.specs.String.{string_bytes}
use Rattle.std.proofs.lemmas.Result.{on_ok_weaker}
use Rattle.label.specs.Relay.{relay}
use Rattle.trial.proofs.RowReasons.{unplaced}
use Rattle.trial.proofs.reasons.put_no_place.Goals as goal

pub returns : goal.returns
returns c =
    let past = c.if-rank-from.false in
    let from = c.from.ensures in
    let few = c.labels_relayed-labels.ensures in
    let lt : c.args.rank < length (relay c.args.shape) = omega (arith, past, from, few) in
    on_ok_weaker c.put_unheard.result
    (λ e. unplaced c.args.shape c.args.rank c.args.receiver (string_bytes c.args.out.now) (string_bytes c.put_unheard.new.out) (string_bytes c.in_ok-label.label) c.as_str.result.now lt c.in_ok-label.ensures (c.as_str.ensures.value ∙ c.in_ok-such.ensures.ok) e)
    c.put_unheard.ensures
