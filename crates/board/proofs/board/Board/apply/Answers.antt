use Rattle.std.proofs.Common.{◌≡◌, true, List, ℕ, sym, subst}
use Rattle.semantics.specs.Call.{fits}
use Rattle.board.proofs.Serving.{reply_fits}
use Rattle.board.proofs.Keeping.{kept_next}
use Rattle.board.proofs.board.Board.apply.Goals as goal

pub invariant_of-self-2 : goal.invariant_of-self-2
invariant_of-self-2 c =
    kept_next c.self.inside.opening c.self.inside.words c.self.inside.ledger.items _ c.change.new.words _ c.in_ok-push.ensures.items c.in_ok-answer.ensures.words c.change.ensures c.recall.ensures c.self.invariant

pub returns-clause-fits : goal.returns-clause-fits
returns-clause-fits c =
    subst (λ (words : List ℕ). fits c.args.request words ≡ true) (sym c.in_ok-reply.ensures.words) (reply_fits c.self.inside.words c.args.request c.self.invariant.whole c.recall.ensures)
