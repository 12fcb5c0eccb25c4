-- A board together with its ledger.
use Rattle.std.specs.Prelude.{ℕ, ◌≡◌, List}
use Rattle.board.specs.Board.{IsBoard, Access, IsLegal, words_after}

-- A board with its ledger: its words at the start, its words now, and all accesses so far.
pub record RecordedBoard : Type 0 where
  pub opening : List ℕ
  pub words : List ℕ
  pub ledger : List Access

-- States that the ledger is legal on a board with the words `opening` at the start, and leads to the words `words`.
pub record IsRecorded (opening words : List ℕ) (ledger : List Access) : Type 0 where
  pub begun : IsBoard opening
  pub whole : IsBoard words
  pub legal : IsLegal opening ledger
  pub left : words ≡ words_after opening ledger
