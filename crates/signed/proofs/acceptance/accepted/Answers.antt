use Rattle.std.proofs.Common.{◌≡◌, ◌+◌, ℕ, List, [], get_or, take, sym, ap, ◌∙◌, arith}
use Rattle.std.proofs.lemmas.List.{get_or_read}
use Rattle.signed.specs.Accepted.{accepted}
use Rattle.signed.specs.Entries.{Dispatch}
use Rattle.signed.specs.Sent.{delivered}
use Rattle.signed.specs.Sending.{added_by, received_in}
use Rattle.signed.proofs.Adding.{accepted_none, accepted_by}
use Rattle.signed.proofs.acceptance.accepted.Goals as goal

pub loop-round-init : goal.loop-round-init
loop-round-init c = λ n rows. c.new-orders.ensures ∙ sym (ap (λ (orders : List ℕ). take 8 orders) (accepted_none n (delivered c.args.sent.now) c.args.general))

pub loop-round-preserved : goal.loop-round-preserved
loop-round-preserved c = λ n rows.
    let sent = c.args.sent.now in
    let here : c.index-sent-round.result ≡ get_or sent c.loop-round.round [] = get_or_read sent c.loop-round.round c.index-sent-round.result (omega arith) c.index-sent-round.is [] in
    c.add_round.ensures (accepted n (delivered sent) c.loop-round.round c.args.general) (c.loop-round.invariant n rows)
    ∙ ap (λ (orders : List ℕ). take 8 orders) (
    ap (λ (row : List (List Dispatch)). added_by (c.loop-round.round + 1) c.args.general (accepted n (delivered sent) c.loop-round.round c.args.general) (received_in c.args.general row)) here
    ∙ sym (accepted_by n sent c.loop-round.round c.args.general (rows c.loop-round.round [] (omega arith))))
