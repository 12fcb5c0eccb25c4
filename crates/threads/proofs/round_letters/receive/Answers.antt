-- The letters that are taken are those of the next round.
use Rattle.std.proofs.Common.{◌≡◌, ◌+◌, ℕ, suc, List, sym, subst, arith}
use Rattle.round.specs.Letters.{Letter}
use Rattle.round.specs.Origin.{AreLettersOf}
use Rattle.threads.proofs.round_letters.receive.Goals as goal

pub returns-clause-letters : goal.returns-clause-letters
returns-clause-letters g c =
    let s = c.args.scenario.now in
    let e : c.from.result + 1 ≡ suc (g.D.Delivered.count c.args.told.now) = (let a = c.rounds.ensures in let b = c.from.ensures in omega arith) in
    let A : ℕ → List Letter → Type 0 = λ n ls. AreLettersOf s n ls in
    subst (λ (ls : List Letter). A (suc (g.D.Delivered.count c.args.told.now)) ls) (sym c.in_ok-letters.ensures.same) (subst (λ (n : ℕ). A n c.in_ok-collector.letters.items) e c.in_ok-letters.ensures.placed)
