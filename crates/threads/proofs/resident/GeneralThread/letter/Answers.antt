-- The accesses that were served for the task are those in the letter.
use Rattle.std.proofs.Common.{◌≡◌, [], ◌++◌, List, sym, ap, ◌∙◌, subst}
use Rattle.std.proofs.lemmas.List.{append_cancel_left}
use Rattle.board.specs.Board.{Access}
use Rattle.threads.specs.Served.{HavePassed}
use Rattle.threads.proofs.resident.GeneralThread.letter.Goals as goal

pub returns-clause-gated : goal.returns-clause-gated
returns-clause-gated g c =
    let now = c.into_witness.ensures.passed in
    let told = c.in_ok-letter.letter.transcript in
    let same : now.0 ≡ told = append_cancel_left g.T.Session.before now.0 told (sym now.1 ∙ (c.in_ok-letter.ensures.served ∙ ap (λ (l : List Access). l ++ told) c.new-server.ensures)) in
    subst (λ (l : List Access). HavePassed g.T.Session.passed [] l) same now.2
