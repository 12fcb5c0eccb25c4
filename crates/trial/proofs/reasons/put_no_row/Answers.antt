-- The reason for a label that nobody receives.
use Rattle.std.proofs.Common.{◌≡◌, ◌<◌, ◌++◌, length, arith}
use Rattle.std.specs.Prelude.{codes}
use Rattle.std.specs.String.{string_bytes}
use Rattle.std.proofs.lemmas.Bool.{ne_eqb}
use Rattle.std.proofs.lemmas.Result.{on_ok_weaker}
use Rattle.label.specs.Relay.{relay}
use Rattle.trial.proofs.RowReasons.{unreceived}
use Rattle.trial.proofs.reasons.put_no_row.Goals as goal

pub returns : goal.returns
returns c =
    let past = c.if-rank-from.false in
    let from = c.from.ensures in
    let few = c.labels_relayed-labels.ensures in
    let lt : c.args.rank < length (relay c.args.shape) = omega (arith, past, from, few) in
    on_ok_weaker c.write.result
    (λ e. unreceived c.args.shape c.args.rank c.args.orders (string_bytes c.args.out.now) (string_bytes c.write.new.self) (string_bytes c.in_ok-label.label) lt (ne_eqb c.args.orders 0 c.if-orders-eq0.false) c.in_ok-label.ensures e)
    c.write.ensures.bytes
