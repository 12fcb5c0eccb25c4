-- The one history of the accesses to a shared board, and the step that appends an access (own; the form of a locked
-- object whose calls have one order, Herlihy and Wing 1990).
use Rattle.std.specs.Prelude.{ℕ, ◌≡◌, ◌==◌, cond, true, List, [], ◌∷◌, ◌++◌, length}
use mathlib.Core.List.{IsPrefix}
use Rattle.logbook.specs.Pages.{Cell, Step, View, Book, Named}
use Rattle.semantics.specs.declared.request.Request.TheVariants.{Get}
use Rattle.board.specs.Board.{Access}

-- States what the two shared words of a history are: the first is its length, and the second is not used.
pub record IsKept (cells : List Cell) (log : List Access) : Type 0 where
  pub words : cells ≡ (length log, true) ∷ (0, true) ∷ []

-- Returns the first shared word of a history, which threads update.
abbrev pub head_of : Book → Named
head_of b = record { tracked = true; key = 0; book = b }

-- States that the history `after` ends with the access, which comes after exactly `count` others. These begin with
-- the accesses that the thread had seen.
pub record IsEntered (seen : List Access) (count : ℕ) (access : Access) (after : List Access) : Type 0 where
  pub before : List Access
  pub later : IsPrefix seen before
  pub number : length before ≡ count
  pub entered : after ≡ before ++ access ∷ []

-- States that a step finds the length of the history, and appends its access if that is the expected length.
abbrev pub Enters : Step Access → View Access ℕ → ℕ → View Access ℕ → Type 0
Enters s v found w = (before : List Access) × IsPrefix v.0 before × (length before ≡ found)
    × (w.0 ≡ cond (found == s.old) (before ++ s.ask ∷ []) before)

-- States that a step finds the length of the history, and appends nothing.
abbrev pub Looks : Step Access → View Access ℕ → ℕ → View Access ℕ → Type 0
Looks s v found w = length w.0 ≡ found

-- The access that a step names if it appends none.
abbrev pub no_access : Access
no_access = record { general = 0; round = 0; request = Get 0; reply = [] }
