-- What the code checks of a letter (own).
use Rattle.std.specs.Prelude.{ℕ, ◌≡◌, ◌||◌, true, List, None}
use Rattle.board.specs.Board.{Access}
use Rattle.round.specs.Scenario.{Scenario, program_of}
use Rattle.round.specs.Letters.{Letter}
use Rattle.round.specs.Activation.{is_reached}
use Rattle.round.specs.Runs.{IsWithin}
use Rattle.world.specs.Kind.{Kind, accesses_of}

-- States that the letter's general has ended: his program has exited or used up its patience, and took no more steps
-- than the patience allows.
pub record EndedInTime (s : Scenario) (l : Letter) : Type 0 where
  pub within : IsWithin s.patience l.steps
  pub over : (l.exited || is_reached s.patience l.steps) ≡ true

-- States that the letter is of this general and this round, with his program. Its general has ended, and its transcript
-- is exactly his accesses in `piece`.
pub record Stands (s : Scenario) (piece : List Access) (g round : ℕ) (l : Letter) : Type 0 where
  pub general : l.general ≡ g
  pub round_is : l.round ≡ round
  pub program : l.program ≡ program_of s g
  pub over : EndedInTime s l
  pub part : accesses_of g piece ≡ l.transcript

-- States that the letter is of this general and this round, with his program.
pub record IsOwn (s : Scenario) (g round : ℕ) (l : Letter) : Type 0 where
  pub general : l.general ≡ g
  pub round_is : l.round ≡ round
  pub program : l.program ≡ program_of s g

-- States that the letter has the context and the relay with which general `g` begins the round after these closed
-- rounds. If he is loyal, it sends exactly what he then sends.
pub record IsBriefed (K : Kind) (s : Scenario) (before : List (List Letter)) (g : ℕ) (l : Letter) : Type 0 where
  pub context : l.context ≡ K.context s before g
  pub relay : l.outbox.relay ≡ K.relay s before g
  pub loyal : program_of s g ≡ None → (l.outbox.rows ≡ K.rows s before g) × (l.outbox.entries ≡ K.entries s before g)
