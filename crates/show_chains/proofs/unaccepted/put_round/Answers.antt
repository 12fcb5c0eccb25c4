use Rattle.std.proofs.Common.{ℕ, ◌+◌, ◌++◌, ◌∙◌, ap}
use Rattle.std.specs.String.{string_bytes}
use Rattle.book.proofs.Gathering.{range_text}
use Rattle.show_chains.specs.Unaccepted.{lines_from}
use Rattle.show_chains.proofs.unaccepted.put_round.Goals as goal

pub loop-sender-preserved : goal.loop-sender-preserved
loop-sender-preserved c =
    let from = λ (round : ℕ). lines_from c.args.chronicle.now c.args.brought.now round c.args.general in
    let piece = from (c.args.before + 1) in
    c.in_ok-put_sender.ensures
    ∙ (ap (λ (i : ℕ). string_bytes c.loop-sender.out ++ from (i + 1) c.loop-sender.sender) c.from-round.ensures
    ∙ (ap (λ xs. xs ++ piece c.loop-sender.sender) c.loop-sender.invariant ∙ range_text piece c.loop-sender.sender (string_bytes c.args.out.now)))
