use Rattle.std.proofs.Common.{◌≡◌, ◌+◌, ◌<◌, ℕ, suc, List, length, take, refl, sym, subst, Some, arith}
use Rattle.std.specs.Prelude.{slice_get}
use Rattle.std.proofs.lemmas.List.{length-take-le}
use Rattle.std.proofs.lemmas.Option.{slice_get_read}
use Rattle.round.specs.Letters.{Letter}
use Rattle.round.specs.Origin.{AreLettersOf}
use Rattle.threads.proofs.ledger_letters.deliver_all.Goals as goal

pub returns-then-not-are_letters_of : goal.returns-then-not-are_letters_of
returns-then-not-are_letters_of g c are =
    let s = c.args.scenario.now in
    let i = c.loop-row.row-index in
    let row : List Letter = c.row-item.result in
    let lt : i < length c.args.rows.now = c.loop-row-test.true in
    let at : slice_get c.args.rows.now i ≡ Some row = slice_get_read c.args.rows.now _ i row refl lt c.row-item.is in
    let long : length (take i c.args.rows.now) ≡ i = length-take-le i c.args.rows.now (omega arith) in
    let e : suc i ≡ c.from-round.result + 1 = (let a = c.loop-row.invariant.count in let b = c.rounds.ensures in let d = c.from-round.ensures in omega arith) in
    let mine : AreLettersOf s (c.from-round.result + 1) row = (let A : ℕ → Type 0 = λ n. AreLettersOf s n row in subst A e (are i row at)) in
    let none = c.if-not-are_letters_of.ensures.1 (subst (λ (ls : List Letter). AreLettersOf s (c.from-round.result + 1) ls) (sym c.letters.ensures) mine) in
    cc
