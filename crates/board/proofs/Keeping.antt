-- A board after one access more.
use Rattle.std.proofs.Common.{◌≡◌, ℕ, List, [], ◌∷◌, ◌++◌, sym, ap, subst, ◌∙◌}
use Rattle.board.specs.Board.{Access, IsBoard, reply, next, words_after, IsLegal}
use Rattle.board.specs.Requests.{IsRequest}
use Rattle.board.specs.Ledger.{IsRecorded}
use Rattle.board.proofs.Serving.{next_board}
use Rattle.board.proofs.Histories.{words_after-snoc, IsLegal-snoc}

-- Proves that the facts about a board still hold after an access that the board answered.
pub kept_next : (opening words : List ℕ) (ledger more : List Access) (after : List ℕ) (entry : Access) → more ≡ ledger ++ entry ∷ [] → entry.reply ≡ reply words entry.request →
    after ≡ next words entry.request → IsRequest entry.request → IsRecorded opening words ledger → IsRecorded opening after more
kept_next opening words ledger more after entry pushed answered changed within k = record {
  begun = k.begun;
  whole = subst (λ (ws : List ℕ). IsBoard ws) (sym changed) (next_board words entry.request k.whole within);
  legal = subst (λ (l : List Access). IsLegal opening l) (sym pushed)
      (IsLegal-snoc opening ledger entry k.legal (answered ∙ ap (λ (ws : List ℕ). reply ws entry.request) k.left));
  left = changed ∙ (ap (λ (ws : List ℕ). next ws entry.request) k.left ∙ (sym (words_after-snoc opening ledger entry) ∙ ap (words_after opening) (sym pushed)));
}

-- Proves the facts about a board without accesses.
pub kept_begun : (words : List ℕ) (ledger : List Access) → ledger ≡ [] → IsBoard words → IsRecorded words words ledger
kept_begun words ledger none board = record {
  begun = board;
  whole = board;
  legal = subst (λ (l : List Access). IsLegal words l) (sym none) tt;
  left = sym (ap (words_after words) none);
}
