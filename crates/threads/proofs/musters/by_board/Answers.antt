-- The chronicle's accesses are the ledger of the board that was taken back from the threads.
use Rattle.std.proofs.Common.{◌≡◌, List, sym, subst, ◌∙◌}
use Rattle.std.specs.Prelude.{IfSome}
use Rattle.std.proofs.lemmas.Result.{err_from_is_err_and}
use mathlib.Core.List.{IsPrefix}
use Rattle.board.specs.Board.{Access}
use Rattle.board.specs.Ledger.{RecordedBoard}
use Rattle.threads.specs.Outcomes.{IfUnlike}
use Rattle.threads.specs.declared.failed_muster.FailedMuster.{FailedMuster}
use Rattle.threads.proofs.Coded.{unlike_never}
use Rattle.threads.proofs.musters.by_board.Goals as goal

pub judge-judged-requires-clause-all : goal.judge-judged-requires-clause-all
judge-judged-requires-clause-all g c κs within =
    let laws = g.met.D.Delivered g.world.𝓛 g.world.𝓜 g.world.𝓡 ((λ s x. x), (λ x. x), (λ x. x), λ x. x) in
    laws.counted c.args.scenario.now c.in_ok-rounds.rounds.items c.in_ok-rounds.told c.in_ok-rounds.ensures.told ∙ c.in_ok-rounds.ensures.rounds

pub returns-clause-history : goal.returns-clause-history
returns-clause-history g c =
    subst (λ (l : List Access). IsPrefix c.args.witness.seen l) (sym c.into_ledger.ensures.same) c.into_board-board.ensures.met

pub returns-in_err-rounds-clause-unlike : goal.returns-in_err-rounds-clause-unlike
returns-in_err-rounds-clause-unlike g c =
    let Is : RecordedBoard → Type 0 = λ b. (b.opening ≡ c.args.scenario.now.board) × IsPrefix c.args.witness.seen b.ledger in
    let P : FailedMuster → Type 0 = λ failed. IfSome failed.outcomes.halt (λ halt. IfUnlike halt Is) in
    let own = c.in_err-rounds.field-0.0 in
    let N : FailedMuster → Type 0 = λ failed. IfSome failed.outcomes.halt (λ halt. IfUnlike halt (λ b. ⊥)) in
    let none : N own = rw c.in_err-rounds.was at c.collect.ensures.unjudged in
    let why : P own = unlike_never own.outcomes.halt Is none in
    let p = err_from_is_err_and c.from_residual.result c.from_residual.ensures.1 in
    rw (p.1, p.2) why
