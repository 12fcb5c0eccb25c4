-- How the code holds the world of an oral campaign (own). `World::apply` cites `IsAnswer` of this file, which says
-- which error is returned. World.antt says what a world is and does.
use Rattle.std.specs.Prelude.{ℕ, List, Option}
use Rattle.board.specs.Board.{Access}
use Rattle.round.specs.Scenario.{Scenario}
use Rattle.round.specs.Letters.{Letter}
use Rattle.world.specs.Part.{Progress}
use Rattle.world.specs.World.{oral_kind}
use Rattle.world.specs.KindHeld as held
pub use Rattle.world.specs.KindHeld.{AsksNext, TakesMemory, IsAnswer, ticked_of, posted_of, AheadTo, steps_of, AreLetters}

-- Returns a general's letter of the round, made from his part and the accesses of the round, or the empty list if he
-- has none.
abbrev pub letter_held : Scenario → List (List Letter) → List Access → ℕ → Option Progress → List Letter
letter_held s closed accesses g part = held.letter_held oral_kind s closed accesses g part

-- Returns the letters of a round, made from the generals' parts and the accesses of the round.
abbrev pub letters_held : Scenario → List (List Letter) → List Access → List Progress → List Letter
letters_held s closed accesses parts = held.letters_held oral_kind s closed accesses parts

-- Returns what each general does at the start of the round after these closed rounds.
abbrev pub beginnings : Scenario → List (List Letter) → List Progress
beginnings s closed = held.beginnings oral_kind s closed
