-- One more order is appended.
use Rattle.std.proofs.Common.{ℕ, ◌≡◌, List, Option, None, [], ◌∷◌, ◌++◌, length, length-append, map, take, get_or, sym, ap, ◌∙◌, arith}
use Rattle.std.proofs.lemmas.List.{take_all, take_more, map-append}
use Rattle.outbox.proofs.AlikeRows.{row_told}
use Rattle.outbox.proofs.row.told.Goals as goal

pub loop-receiver-preserved : goal.loop-receiver-preserved
loop-receiver-preserved c =
    let kept : List (Option ℕ) = c.args.kept.now in
    let names : List ℕ = c.args.receivers.now in
    let i : ℕ = c.loop-receiver.receiver-index in
    let f : ℕ → Option ℕ = λ n. get_or kept n None in
    let before : List (Option ℕ) = c.loop-receiver.told.items in
    let here : c.at.result ≡ f (get_or names i 0) = c.at.ensures ∙ ap f c.from.ensures in
    record {
      told = c.push.ensures.items ∙ (ap (λ (xs : List (Option ℕ)). xs ++ c.at.result ∷ []) c.loop-receiver.invariant.told
          ∙ (ap (λ (o : Option ℕ). map f (take i names) ++ o ∷ []) here ∙ (sym (map-append f (take i names) (get_or names i 0 ∷ [])) ∙ ap (map f) (sym (take_more names i 0 c.loop-receiver-test.true)))));
      few = (let e = ap length c.push.ensures.items in let long = length-append before (c.at.result ∷ []) in let few = c.loop-receiver.invariant.few in omega arith);
    }

pub returns-clause-orders : goal.returns-clause-orders
returns-clause-orders c =
    c.loop-receiver.invariant.told
    ∙ (ap (map (λ n. get_or c.args.kept.now n None)) (take_all c.loop-receiver.receiver-index c.args.receivers.now (let h = c.loop-receiver-test.false in omega arith)) ∙ sym (row_told c.args.kept.now c.args.receivers.now))

pub returns-clause-few : goal.returns-clause-few
returns-clause-few c = let few = c.loop-receiver.invariant.few in let most = c.requires in omega (arith, few, most)
