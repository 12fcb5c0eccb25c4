-- The world before any event.
use Rattle.std.proofs.Common.{List, true, ap, sym, subst, ◌∙◌}
use Rattle.round.specs.Letters.{Letter}
use Rattle.world.specs.KindHeld.{world_of}
use Rattle.signed.specs.Sending.{signatures, IsSignedHeld}
use Rattle.signed.proofs.Closed.{none_sent, opened, opened_held}
use Rattle.signed.proofs.signed_world.SignedWorld.open.Goals as goal

pub beginnings-requires : goal.beginnings-requires
beginnings-requires c = record { sent = none_sent c.args.scenario }

pub invariant_of-result : goal.invariant_of-result
invariant_of-result c =
    let s = c.args.scenario in
    subst (λ (x : List (List Letter)). IsSignedHeld s x c.new-board.result 0 c.in_ok-parts.parts.items true c.new-2.result.items c.in_ok-signers.signers.items) (sym c.new.ensures.items)
    (opened_held s c.new-board.result c.in_ok-parts.parts.items c.new-2.result.items c.in_ok-signers.signers.items (c.new-board.ensures.opening ∙ c.board.ensures) (c.new-board.ensures.words ∙ c.board.ensures) c.new-board.ensures.ledger
    c.in_ok-parts.ensures c.new-2.ensures.items (c.in_ok-signers.ensures ∙ (λ i. signatures (c.generals.ensures.same i) (c.commander.ensures.same i))))

pub returns : goal.returns
returns c =
    let s = c.args.scenario in
    ap (λ (x : List (List Letter)). world_of s x c.new-board.result 0 c.in_ok-parts.parts.items true) c.new.ensures.items
    ∙ opened s c.new-board.result c.in_ok-parts.parts.items (c.new-board.ensures.words ∙ c.board.ensures) c.new-board.ensures.ledger c.in_ok-parts.ensures
