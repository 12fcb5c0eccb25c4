-- The reply fits the request, because the words are those of a board.
use Rattle.std.proofs.Common.{◌≡◌, true, List, ℕ, sym, subst}
use Rattle.semantics.specs.Call.{fits}
use Rattle.board.proofs.Serving.{reply_fits}
use Rattle.capi.proofs.serving.serve.Goals as goal

pub returns-clause-fits : goal.returns-clause-fits
returns-clause-fits c =
    subst (λ (words : List ℕ). fits c.args.request words ≡ true) (sym c.in_ok-reply.ensures.words) (reply_fits c.args.words.now c.args.request c.recall_board.ensures c.recall.ensures)
