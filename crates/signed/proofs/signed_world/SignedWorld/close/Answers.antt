-- The code's close is the event.
use Rattle.std.proofs.Common.{◌≡◌, ◌≤◌, ◌∷◌, ◌++◌, [], List, suc, length, drop, ap, sym, subst, ◌∙◌, arith}
use Rattle.std.specs.Prelude.{◌&&◌}
use Rattle.std.specs.List.{list_all}
use Rattle.round.specs.Letters.{Letter}
use Rattle.world.specs.declared.event.Event.TheVariants.{Close}
use Rattle.world.specs.declared.part.Progress.{Progress}
use Rattle.world.specs.Part.{owes_no_letter}
use Rattle.world.specs.Kind.{World, happen}
use Rattle.signed.specs.Kind.{signed_kind}
use Rattle.signed.specs.Sending.{beginnings_behind, drafts_behind}
use Rattle.signed.specs.Sent.{Sent, round_sent}
use Rattle.signed.proofs.Closed.{all_drafted, closed_is, closed_kept, closed_now, closing_sent, drafts_of, drafts_same, is_sent, round_pushed, row_now, row_written, sendings_same, sent_long}
use Rattle.signed.proofs.signed_world.SignedWorld.close.Goals as goal

pub drafts-requires-clause-left : goal.drafts-requires-clause-left
drafts-requires-clause-left c =
    let s = c.self.inside in
    let le : length s.closed.items ≤ s.scenario.bound = subst (λ (w : World). length w.closed ≤ w.scenario.bound) (sym c.self.view_is) c.requires in
    let long : length c.as_slice-sent.result.now ≡ length s.closed.items = ap length c.as_slice-sent.ensures.value ∙ sent_long s.scenario s.closed.items s.board s.opened s.parts.items s.full s.sent.items s.signers.items c.self.invariant in
    omega arith

pub drafts-requires-clause-sent : goal.drafts-requires-clause-sent
drafts-requires-clause-sent c =
    let s = c.self.inside in
    let h = is_sent s.scenario s.closed.items s.board s.opened s.parts.items s.full s.sent.items s.signers.items c.recall.ensures c.self.invariant in
    (h.0, h.1, c.as_slice-sent.ensures.value ∙ h.2)

pub sendings-requires-clause-sent : goal.sendings-requires-clause-sent
sendings-requires-clause-sent c =
    let s = c.self.inside in
    let h = is_sent s.scenario s.closed.items s.board s.opened s.parts.items s.full s.sent.items s.signers.items c.recall.ensures c.self.invariant in
    (h.0, h.1, c.as_slice-sent.ensures.value ∙ h.2)

pub beginnings-requires : goal.beginnings-requires
beginnings-requires c =
    let s = c.self.inside in
    let le : length s.closed.items ≤ s.scenario.bound = subst (λ (w : World). length w.closed ≤ w.scenario.bound) (sym c.self.view_is) c.requires in
    let drafted : c.in_ok-drafts.drafts.items ≡ drafts_behind s.scenario s.sent.items (drop s.opened s.board.ledger) s.parts.items =
    drafts_same s.scenario s.sent.items c.as_slice-sent.result.now (drop s.opened s.board.ledger) c.since-accesses.result.now s.parts.items c.as_slice.result.now c.in_ok-drafts.drafts.items
    c.in_ok-drafts.ensures c.as_slice-sent.ensures.value (c.since-accesses.ensures ∙ ap (drop s.opened) c.ledger.ensures.same) c.as_slice.ensures.value in
    let now = round_pushed s.scenario s.closed.items s.board s.opened s.parts.items s.full s.sent.items s.signers.items c.self.invariant c.in_ok-drafts.drafts.items drafted c.in_ok-sendings.sendings c.push.new.self.items
    (sendings_same s.scenario s.sent.items c.as_slice-sent.result.now c.in_ok-drafts.drafts.items c.as_slice-3.result.now s.parts.items c.as_slice-4.result.now c.in_ok-sendings.sendings
    c.in_ok-sendings.ensures c.as_slice-sent.ensures.value c.as_slice-3.ensures.value c.as_slice-4.ensures.value) c.in_ok-push.ensures.items in
    let there = closing_sent s.scenario s.closed.items s.board s.opened s.parts.items s.full s.sent.items s.signers.items c.self.invariant c.push.new.self.items c.recall.ensures le now in
    record { sent = (there.0, there.1, c.as_slice-5.ensures.value ∙ there.2) }

pub letters-letters-requires-clause-count : goal.letters-letters-requires-clause-count
letters-letters-requires-clause-count c =
    let s = c.self.inside in
    let drafted : c.in_ok-drafts.drafts.items ≡ drafts_behind s.scenario s.sent.items (drop s.opened s.board.ledger) s.parts.items =
    drafts_same s.scenario s.sent.items c.as_slice-sent.result.now (drop s.opened s.board.ledger) c.since-accesses.result.now s.parts.items c.as_slice.result.now c.in_ok-drafts.drafts.items
    c.in_ok-drafts.ensures c.as_slice-sent.ensures.value (c.since-accesses.ensures ∙ ap (drop s.opened) c.ledger.ensures.same) c.as_slice.ensures.value in
    all_drafted s.scenario s.closed.items s.board s.opened s.parts.items s.full s.sent.items s.signers.items c.self.invariant c.in_ok-drafts.drafts.items drafted ∙ sym c.generals-generals.ensures.same

pub letters-letters-requires-clause-runs : goal.letters-letters-requires-clause-runs
letters-letters-requires-clause-runs c =
    let s = c.self.inside in
    let drafted : c.in_ok-drafts.drafts.items ≡ drafts_behind s.scenario s.sent.items (drop s.opened s.board.ledger) s.parts.items =
    drafts_same s.scenario s.sent.items c.as_slice-sent.result.now (drop s.opened s.board.ledger) c.since-accesses.result.now s.parts.items c.as_slice.result.now c.in_ok-drafts.drafts.items
    c.in_ok-drafts.ensures c.as_slice-sent.ensures.value (c.since-accesses.ensures ∙ ap (drop s.opened) c.ledger.ensures.same) c.as_slice.ensures.value in
    drafts_of s.scenario s.closed.items s.board s.opened s.parts.items s.full s.sent.items s.signers.items c.self.invariant c.in_ok-drafts.drafts.items drafted c.round-round.result c.recall.ensures
    (c.round-round.ensures ∙ ap (λ (w : World). suc (length w.closed)) (sym c.self.view_is))

-- From what the drafts were made.
drafted : (c : goal.After-drop-self-inside) → c.in_ok-drafts.drafts.items ≡ drafts_behind c.self.inside.scenario c.self.inside.sent.items (drop c.self.inside.opened c.self.inside.board.ledger) c.self.inside.parts.items
drafted c =
    let s = c.self.inside in
    drafts_same s.scenario s.sent.items c.as_slice-sent.result.now (drop s.opened s.board.ledger) c.since-accesses.result.now s.parts.items c.as_slice.result.now c.in_ok-drafts.drafts.items
    c.in_ok-drafts.ensures c.as_slice-sent.ensures.value (c.since-accesses.ensures ∙ ap (drop s.opened) c.ledger.ensures.same) c.as_slice.ensures.value

at_bound : (c : goal.After-drop-self-inside) → length c.self.inside.closed.items ≤ c.self.inside.scenario.bound
at_bound c = subst (λ (w : World). length w.closed ≤ w.scenario.bound) (sym c.self.view_is) c.requires

sent_is : (c : goal.After-drop-self-inside) → c.push.new.self.items
    ≡ c.self.inside.sent.items ++ round_sent c.self.inside.scenario c.self.inside.sent.items (row_now c.self.inside.scenario c.self.inside.closed.items c.self.inside.board c.self.inside.opened c.self.inside.parts.items c.self.inside.full c.self.inside.sent.items c.self.inside.signers.items c.self.invariant) ∷ []
sent_is c =
    let s = c.self.inside in
    round_pushed s.scenario s.closed.items s.board s.opened s.parts.items s.full s.sent.items s.signers.items c.self.invariant c.in_ok-drafts.drafts.items (drafted c) c.in_ok-sendings.sendings c.push.new.self.items
    (sendings_same s.scenario s.sent.items c.as_slice-sent.result.now c.in_ok-drafts.drafts.items c.as_slice-3.result.now s.parts.items c.as_slice-4.result.now c.in_ok-sendings.sendings
    c.in_ok-sendings.ensures c.as_slice-sent.ensures.value c.as_slice-3.ensures.value c.as_slice-4.ensures.value) c.in_ok-push.ensures.items

rounds_are : (c : goal.After-drop-self-inside) → c.push_reserved.new.self.items
    ≡ closed_now c.self.inside.scenario c.self.inside.closed.items c.self.inside.board c.self.inside.opened c.self.inside.parts.items c.self.inside.full c.self.inside.sent.items c.self.inside.signers.items c.self.invariant
rounds_are c =
    let s = c.self.inside in
    c.push_reserved.ensures.items
    ∙ ((λ i. c.reserve.ensures.items i ++ c.letters-letters.result.items ∷ [])
    ∙ ap (λ (row : List Letter). s.closed.items ++ row ∷ [])
    (row_written s.scenario s.closed.items s.board s.opened s.parts.items s.full s.sent.items s.signers.items c.self.invariant c.in_ok-drafts.drafts.items (drafted c) c.generals-generals.result c.round-round.result c.letters-letters.result.items
    c.generals-generals.ensures.same (c.round-round.ensures ∙ ap (λ (w : World). suc (length w.closed)) (sym c.self.view_is)) c.letters-letters.ensures))

parts_are : (c : goal.After-drop-self-inside) → c.in-Ok.parts.items ≡ beginnings_behind c.self.inside.scenario c.push.new.self.items
parts_are c = c.in-Ok.ensures ∙ ap (λ (x : Sent). beginnings_behind c.self.inside.scenario x) c.as_slice-5.ensures.value

full_is : (c : goal.After-drop-self-inside) → c.is_full-full.result ≡ (c.self.inside.full && list_all owes_no_letter c.self.inside.parts.items)
full_is c = c.is_full-full.ensures ∙ ap (λ (l : List Progress). c.self.inside.full && list_all owes_no_letter l) c.as_slice-6.ensures.value

pub invariant_of-self-2 : goal.invariant_of-self-2
invariant_of-self-2 c =
    let s = c.self.inside in
    closed_kept s.scenario s.closed.items s.board s.opened s.parts.items s.full s.sent.items s.signers.items c.self.invariant c.push.new.self.items c.recall.ensures (at_bound c) (sent_is c)
    c.push_reserved.new.self.items (length c.ledger-2.result.now) c.in-Ok.parts.items c.is_full-full.result (rounds_are c) (parts_are c) (ap length c.ledger-2.ensures.same) (full_is c)

pub returns-clause-done : goal.returns-clause-done
returns-clause-done c =
    let s = c.self.inside in
    closed_is s.scenario s.closed.items s.board s.opened s.parts.items s.full s.sent.items s.signers.items c.self.invariant c.push.new.self.items c.recall.ensures (at_bound c) (sent_is c)
    c.push_reserved.new.self.items (length c.ledger-2.result.now) c.in-Ok.parts.items c.is_full-full.result (rounds_are c) (parts_are c) (ap length c.ledger-2.ensures.same) (full_is c)
    ∙ ap (λ (w : World). happen signed_kind w Close) c.self.view_is
