-- What a thread knows of the history of a shared board (own).
use Rattle.std.specs.Prelude.{ℕ, suc, ◌≡◌, List, [], ◌∷◌, ◌++◌}
use mathlib.Core.List.{IsPrefix}
use Rattle.logbook.specs.Pages.{Book}
use Rattle.semantics.specs.declared.request.Request.{Request}
use Rattle.board.specs.Board.{Access, reply, words_after}

-- What a thread knows: the prefix of the history that it has seen, and the number of accesses that it has made.
pub record Witnessed : Type 0 where
  pub seen : List Access
  pub made : ℕ

-- A board that is not shared yet: its words at the start, its history, the name of the ledger of `std` that counts
-- accesses, and the number of threads.
pub record UnsharedSeen : Type 0 where
  pub opening : List ℕ
  pub book : Book
  pub name : ℕ
  pub parts : ℕ

-- States that exactly one access with this general, round and request was appended to the history. It comes after all
-- accesses that the thread had seen, and possibly later accesses of others. The answer is the board's reply at this
-- point of the history.
pub record Serves (opening : List ℕ) (old : Witnessed) (general round : ℕ) (request : Request) (answer : List ℕ)
    (new : Witnessed) : Type 0 where
  pub before : List Access
  pub later : IsPrefix old.seen before
  pub answered : answer ≡ reply (words_after opening before) request
  pub entered : new.seen ≡ before ++ record { general = general; round = round; request = request; reply = answer } ∷ []
  pub once : new.made ≡ suc old.made
