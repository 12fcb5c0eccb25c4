-- The chains follow from what he holds and from his entries.
use Rattle.std.proofs.Common.{◌≡◌, List, ◌∙◌}
use Rattle.std.specs.Prelude.{slice_get}
use Rattle.std.proofs.lemmas.Result.{IfOk-weaker}
use Rattle.signed.specs.Entries.{Dispatch, dispatched}
use Rattle.signed.specs.Sending.{entries_drafted, draft_in, part_in}
use Rattle.signed.specs.Sent.{held_behind}
use Rattle.signed.proofs.Reading.{draft_at, part_at}
use Rattle.signed.proofs.Receipts.{sent_rows, dispatched_is}
use Rattle.signed.proofs.round_drafts.sending.Goals as goal

pub returns : goal.returns
returns c =
    let a = c.args in
    let s = a.scenario.now in
    let d : draft_in c.get.result ≡ slice_get a.drafts.now a.general = draft_at a.drafts.now a.general c.from-place.result c.get.result c.get.ensures.lookup c.from-place.ensures in
    let p : part_in c.get-2.result ≡ slice_get a.parts.now a.general = part_at a.parts.now a.general c.from-place.result c.get-2.result c.get-2.ensures.lookup c.from-place.ensures in
    let es = c.entries-entries.result.now in
    IfOk-weaker c.dispatched.result
    (λ (x : List Dispatch). x ≡ dispatched c.generals.result a.signer.now.commander a.signer.now.general c.in_ok-held.held.chains es)
    (λ (x : List Dispatch). x ≡ dispatched s.generals s.commander a.general (held_behind s.generals a.sent.now a.general) (entries_drafted (slice_get a.drafts.now a.general) (slice_get a.parts.now a.general)))
    (λ x is. is ∙ dispatched_is s a.sent.now a.general c.generals.result a.signer.now c.in_ok-held.held es (entries_drafted (slice_get a.drafts.now a.general) (slice_get a.parts.now a.general)) (sent_rows s a.sent.now c.requires.sent)
    c.generals.ensures.same c.requires.own c.in_ok-held.ensures.held (c.entries-entries.ensures.same ∙ (λ i. entries_drafted (d i) (p i))))
    c.dispatched.ensures
