use Rattle.std.proofs.Common.{List, ◌++◌, sym, ap, ◌∙◌, arith, append-nil}
use Rattle.std.specs.Borrow.{Bor}
use Rattle.std.proofs.lemmas.List.{map_push}
use Rattle.signed.specs.Chains.{Chain}
use Rattle.signed.specs.Sending.{lent}
use Rattle.signed.proofs.Lending.{one_came, came_then, came_else}
use Rattle.signed.proofs.held_chains.take.Goals as goal
use Rattle.signed.proofs.held_chains.take.Goals.{then-has+in_ok-push, else-has}

pub loop-chain-preserved : goal.loop-chain-preserved
loop-chain-preserved c =
    let p = c.args.general in
    let x = c.loop-chain-item.result in
    let before : List Chain = lent c.loop-chain.chains.items in
    let more = one_came p (lent c.args.chains.now.items) before c.chains-chain-items.result.now c.loop-chain.chain-index x (omega arith) (omega arith) c.loop-chain-item.is c.loop-chain.invariant.came in
    elim c.if-has.branch [
      | then-has+in_ok-push w ↦ record {
        came = rw w.chains-is (
            ap (λ (cs : List (Bor Chain)). lent cs) w.in_ok-push.ensures.items
            ∙ (map_push (λ (b : Bor Chain). b.now) c.loop-chain.chains.items _
            ∙ (ap (λ (ys : List Chain). before ++ ys) (sym (came_then p x (sym c.has.ensures ∙ w.if-has.true))) ∙ more)));
        few = rw w.chains-is (omega (arith, w.in_ok-push.ensures.len));
      }
      | else-has w ↦ record {
        came = rw w.chains-is (sym (append-nil before) ∙ (ap (λ (ys : List Chain). before ++ ys) (sym (came_else p x (sym c.has.ensures ∙ w.if-has.false))) ∙ more));
        few = rw w.chains-is (omega arith);
      }
    ]
