-- Ledgers with one access more.
use Rattle.std.proofs.Common.{◌≡◌, ℕ, List, [], ◌∷◌, ◌++◌, refl}
use Rattle.board.specs.Board.{Access, reply, next, words_after, IsLegal}

pub words_after-snoc : (words : List ℕ) (ledger : List Access) (a : Access) → words_after words (ledger ++ a ∷ []) ≡ next (words_after words ledger) a.request
words_after-snoc words [] a = refl
words_after-snoc words (b ∷ ledger) a = words_after-snoc (next words b.request) ledger a

pub IsLegal-snoc : (words : List ℕ) (ledger : List Access) (a : Access) → IsLegal words ledger → a.reply ≡ reply (words_after words ledger) a.request → IsLegal words (ledger ++ a ∷ [])
IsLegal-snoc words [] a legal is = (is, tt)
IsLegal-snoc words (b ∷ ledger) a legal is = (legal.0, IsLegal-snoc (next words b.request) ledger a legal.1 is)
