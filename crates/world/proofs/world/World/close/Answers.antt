-- The code's close is the event.
use Rattle.std.proofs.Common.{◌≡◌, ◌≤◌, ◌∷◌, ◌++◌, [], List, suc, length, drop, refl, ap, sym, subst, ◌∙◌}
use Rattle.std.specs.Prelude.{◌&&◌}
use Rattle.std.specs.List.{list_all}
use Rattle.world.specs.declared.event.Event.TheVariants.{Close}
use Rattle.world.specs.Part.{Progress, owes_no_letter}
use Rattle.round.specs.Letters.{Letter}
use Rattle.world.specs.World.{oral_kind, World, happen}
use Rattle.world.specs.Reached.{world_of}
use Rattle.world.specs.Held.{letters_held, beginnings}
use Rattle.world.proofs.Holding.{held_on, close_is, held_letters}
use Rattle.world.proofs.Hearing.{row_told, told_on}
use Rattle.world.proofs.Drafting.{drafts_count, drafts_run, drafts_same, row_is}
use Rattle.world.proofs.world.World.close.Goals as goal
use Rattle.world.proofs.Campaigns.{oral_campaigns, oral_relays}

pub letters-letters-requires-clause-count : goal.letters-letters-requires-clause-count
letters-letters-requires-clause-count c =
    let s = c.self.inside in
    drafts_count s.scenario c.as_slice.result.now c.since-accesses.result.now c.as_slice-2.result.now c.in_ok-drafts.drafts.items c.round-round.result c.in_ok-drafts.ensures ∙ sym c.generals-generals.ensures.same

pub letters-letters-requires-clause-runs : goal.letters-letters-requires-clause-runs
letters-letters-requires-clause-runs c =
    let s = c.self.inside in
    drafts_run s.scenario s.closed.items (drop s.opened s.board.ledger) s.parts.items c.in_ok-drafts.drafts.items c.round-round.result
    (drafts_same s.scenario s.closed.items c.as_slice.result.now (drop s.opened s.board.ledger) c.since-accesses.result.now s.parts.items c.as_slice-2.result.now c.in_ok-drafts.drafts.items
    c.in_ok-drafts.ensures c.as_slice.ensures.value (c.since-accesses.ensures ∙ ap (drop s.opened) c.ledger.ensures.same) c.as_slice-2.ensures.value)
    (c.round-round.ensures ∙ ap (λ (w : World). suc (length w.closed)) (sym c.self.view_is))
    (held_letters oral_kind oral_campaigns oral_relays s.scenario s.closed.items s.board s.opened s.parts.items s.full (drop s.opened s.board.ledger) c.recall.ensures c.self.invariant.0 refl)

pub deliver-requires-clause-letters : goal.deliver-requires-clause-letters
deliver-requires-clause-letters c =
    let s = c.self.inside in
    row_told s.scenario s.closed.items s.board s.opened s.parts.items s.full s.told c.as_slice-4.result.now c.recall.ensures c.self.invariant.0 c.self.invariant.1
    (c.as_slice-4.ensures.value ∙ row_is s.scenario s.closed.items (drop s.opened s.board.ledger) s.parts.items c.in_ok-drafts.drafts.items c.generals-generals.result c.round-round.result c.letters-letters.result.items
    (drafts_same s.scenario s.closed.items c.as_slice.result.now (drop s.opened s.board.ledger) c.since-accesses.result.now s.parts.items c.as_slice-2.result.now c.in_ok-drafts.drafts.items
    c.in_ok-drafts.ensures c.as_slice.ensures.value (c.since-accesses.ensures ∙ ap (drop s.opened) c.ledger.ensures.same) c.as_slice-2.ensures.value) c.generals-generals.ensures.same (c.round-round.ensures ∙ ap (λ (w : World). suc (length w.closed)) (sym c.self.view_is)) c.letters-letters.ensures)

closed_is : (c : goal.After-drop-self-inside) → c.push_reserved.new.self.items ≡ c.self.inside.closed.items ++ c.letters-letters.result.items ∷ []
closed_is c = c.push_reserved.ensures.items ∙ ap (λ (l : List (List Letter)). l ++ c.letters-letters.result.items ∷ []) c.reserve.ensures.items

is_close : (c : goal.After-drop-self-inside) →
    world_of c.self.inside.scenario c.push_reserved.new.self.items c.self.inside.board (length c.ledger-2.result.now) c.brief.new.parts.items c.is_full-full.result
    ≡ happen (world_of c.self.inside.scenario c.self.inside.closed.items c.self.inside.board c.self.inside.opened c.self.inside.parts.items c.self.inside.full) Close
is_close c =
    let s = c.self.inside in
    let le : length s.closed.items ≤ s.scenario.bound = subst (λ (w : World). length w.closed ≤ w.scenario.bound) (sym c.self.view_is) c.requires in
    let letters_are : c.letters-letters.result.items ≡ letters_held s.scenario s.closed.items (drop s.opened s.board.ledger) s.parts.items =
    row_is s.scenario s.closed.items (drop s.opened s.board.ledger) s.parts.items c.in_ok-drafts.drafts.items c.generals-generals.result c.round-round.result c.letters-letters.result.items
    (drafts_same s.scenario s.closed.items c.as_slice.result.now (drop s.opened s.board.ledger) c.since-accesses.result.now s.parts.items c.as_slice-2.result.now c.in_ok-drafts.drafts.items
    c.in_ok-drafts.ensures c.as_slice.ensures.value (c.since-accesses.ensures ∙ ap (drop s.opened) c.ledger.ensures.same) c.as_slice-2.ensures.value) c.generals-generals.ensures.same (c.round-round.ensures ∙ ap (λ (w : World). suc (length w.closed)) (sym c.self.view_is)) c.letters-letters.ensures in
    let parts_are : c.brief.new.parts.items ≡ beginnings s.scenario c.push_reserved.new.self.items =
    c.brief.ensures ∙ ap (λ (l : List (List Letter)). beginnings s.scenario l) c.as_slice-5.ensures.value in
    let full_is : c.is_full-full.result ≡ (s.full && list_all owes_no_letter s.parts.items) =
    c.is_full-full.ensures ∙ ap (λ (l : List Progress). s.full && list_all owes_no_letter l) c.as_slice-3.ensures.value in
    close_is oral_kind oral_campaigns oral_relays s.scenario s.closed.items s.board s.opened s.parts.items s.full c.letters-letters.result.items c.push_reserved.new.self.items (length c.ledger-2.result.now) c.brief.new.parts.items c.is_full-full.result
    c.recall.ensures c.self.invariant.0 le letters_are (closed_is c) parts_are (ap length c.ledger-2.ensures.same) full_is

pub invariant_of-self-2 : goal.invariant_of-self-2
invariant_of-self-2 c = (
  held_on oral_kind c.self.inside.scenario c.self.inside.closed.items c.self.inside.board c.self.inside.opened c.self.inside.parts.items c.self.inside.full
      c.push_reserved.new.self.items c.self.inside.board (length c.ledger-2.result.now) c.brief.new.parts.items c.is_full-full.result (Close ∷ []) c.self.invariant.0 (is_close c) refl,
  told_on c.self.inside.scenario c.self.inside.closed.items c.push_reserved.new.self.items c.as_slice-4.result.now c.letters-letters.result.items c.deliver.new.self c.as_slice-4.ensures.value (closed_is c)
      (c.deliver.ensures c.self.inside.closed.items c.self.invariant.1),
)

pub returns-clause-done : goal.returns-clause-done
returns-clause-done c = is_close c ∙ ap (λ (w : World). happen w Close) c.self.view_is
