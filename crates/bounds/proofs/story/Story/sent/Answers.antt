use Rattle.std.proofs.Common.{ℕ, List, cond, ◌+◌, ◌-◌, ◌%◌, ◌<◌, length, get_or, Some, sym, ap, ◌∙◌, arith}
use Rattle.label.specs.Oral.{AllBelow}
use Rattle.label.proofs.Bounds.{below-at}
use Rattle.bounds.specs.Stories.{group_of, crossings}
use Rattle.bounds.proofs.CrossingLemmas.{byte_is, sent_by_traitor, sent_truly}
use Rattle.bounds.proofs.story.Story.sent.Goals as goal

pub group_of-sender-requires : goal.group_of-sender-requires
group_of-sender-requires c =
    let below : AllBelow 13 c.generals-generals.result.now = rw c.generals-generals.ensures.value c.generals-generals.ensures.kind.below in
    let some : 0 < length c.args.label.now = c.generals-generals.ensures.kind.filled in
    below-at 13 c.generals-generals.result.now (length c.generals-generals.result.now - 1) below (omega (arith, some, ap length c.generals-generals.ensures.value))

pub returns-then-sender-lying_group : goal.returns-then-sender-lying_group
returns-then-sender-lying_group c =
    ap (λ x. Some ((x + c.crossings-crossed.result + c.from-more.result) % 2)) c.copy.ensures.value
    ∙ sent_by_traitor c.args.self c.args.commander c.args.label.now c.args.receiver c.group_of-sender.result c.group_of-own.result c.crossings-crossed.result c.from-more.result
    c.generals-generals.ensures.kind.filled
    (c.group_of-sender.ensures ∙ ap (λ (w : List ℕ). group_of c.args.commander (get_or w (length w - 1) 0)) c.generals-generals.ensures.value)
    c.group_of-own.ensures
    (c.crossings-crossed.ensures.value ∙ ap (crossings c.args.commander) c.generals-generals.ensures.value)
    (c.from-more.ensures ∙ (byte_is c.is_crossing.result ∙ ap (λ b. cond {A = ℕ} b 1 0) c.is_crossing.ensures))
    (c.if-sender-lying_group.true ∙ c.lying_group.ensures)

pub returns-else-sender-lying_group : goal.returns-else-sender-lying_group
returns-else-sender-lying_group c =
    ap (λ x. Some ((x + c.crossings-crossed.result) % 2)) c.copy-else-sender-lying_group.ensures.value
    ∙ sent_truly c.args.self c.args.commander c.args.label.now c.args.receiver c.group_of-sender.result c.crossings-crossed.result
    c.generals-generals.ensures.kind.filled
    (c.group_of-sender.ensures ∙ ap (λ (w : List ℕ). group_of c.args.commander (get_or w (length w - 1) 0)) c.generals-generals.ensures.value)
    (c.crossings-crossed.ensures.value ∙ ap (crossings c.args.commander) c.generals-generals.ensures.value)
    (λ e. c.if-sender-lying_group.false (e ∙ sym c.lying_group.ensures))
