-- A general's letter sends chains from those that he holds.
use Rattle.std.proofs.Common.{◌≡◌, List, ap, ◌∙◌}
use Rattle.std.proofs.lemmas.Result.{IfOk-weaker}
use Rattle.round.specs.Letters.{letter_of}
use Rattle.signed.specs.Entries.{Dispatch, dispatched}
use Rattle.signed.specs.Logs.{entries_in}
use Rattle.signed.specs.Sent.{sends}
use Rattle.signed.proofs.Logs.{sends_by}
use Rattle.signed.proofs.Receipts.{dispatched_is}
use Rattle.signed.proofs.letter_sendings.letter_sending.Goals as goal

pub returns : goal.returns
returns c =
    let a = c.args in
    let s = a.scenario.now in
    let es = c.entries_of-entries.result.now in
    let letter = letter_of a.letters.now a.general in
    IfOk-weaker c.dispatched.result
    (λ (x : List Dispatch). x ≡ dispatched c.generals.result a.signer.now.commander a.signer.now.general c.in_ok-held.held.chains es)
    (λ (x : List Dispatch). x ≡ sends s a.sent.now a.general letter)
    (λ x is. is ∙ (dispatched_is s a.sent.now a.general c.generals.result a.signer.now c.in_ok-held.held es (entries_in letter) c.requires.rows
    c.generals.ensures.same c.requires.own c.in_ok-held.ensures.held (c.entries_of-entries.ensures.same ∙ ap (λ g. entries_in (letter_of a.letters.now g)) c.from.ensures)
    ∙ sends_by s a.sent.now a.general letter))
    c.dispatched.ensures
