use Rattle.std.proofs.Common.{◌≡◌, ◌∙◌, ◌∷◌, ◌++◌, [], List, ap, sym, arith, get_or, cond, refl, append-nil}
use Rattle.std.proofs.lemmas.List.{take_all}
use Rattle.show_diagram.specs.declared.told_order.Telling.{Telling}
use Rattle.show_diagram.specs.Lists.{is_same}
use Rattle.show_diagram.specs.Order.{firsts}
use Rattle.show_diagram.proofs.OrderLemmas.{firsts_more}
use Rattle.show_diagram.proofs.TallyLemmas.{nothing_told, seen_more, was_new, was_seen}
use Rattle.show_diagram.proofs.lists.told_once.Goals as goal
use Rattle.show_diagram.proofs.lists.told_once.Goals.{then-branch+in_ok-push, else-branch}

pub loop-telling-preserved : goal.loop-telling-preserved
loop-telling-preserved c =
    let i = c.loop-telling.telling-index in
    let x : Telling = get_or c.args.tellings.now i nothing_told in
    let known = c.loop-telling.invariant.0 x in (
      λ q. seen_more q nothing_told c.args.tellings.now i _ _ c.loop-telling-test.true (c.loop-telling.invariant.0 q) (c.in_ok-insert.ensures.updates.0 q),
      firsts_more is_same c.args.tellings.now i x nothing_told _ c.loop-telling.things.items _ c.loop-telling-test.true refl refl c.loop-telling.invariant.1
          (elim c.if-branch.branch [
            | then-branch+in_ok-push w ↦
                let new = sym known ∙ was_new _ _ c.in_ok-insert.ensures.added w.if-branch.true in
                ap (λ v. v.items) w.things-is ∙ (w.in_ok-push.ensures.items ∙ sym (ap (λ b. c.loop-telling.things.items ++ cond b [] (x ∷ [])) new))
            | else-branch w ↦
                let seen = sym known ∙ was_seen _ _ c.in_ok-insert.ensures.added w.if-branch.false in
                ap (λ v. v.items) w.things-is ∙ (sym (append-nil c.loop-telling.things.items) ∙ sym (ap (λ b. c.loop-telling.things.items ++ cond b [] (x ∷ [])) seen))
          ]),
    )

pub returns : goal.returns
returns c =
    c.loop-telling.invariant.1 ∙ ap (firsts is_same []) (take_all c.loop-telling.telling-index c.args.tellings.now (let l = c.loop-telling-test.false in omega arith))
