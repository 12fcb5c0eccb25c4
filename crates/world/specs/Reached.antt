-- Worlds of oral campaigns that events can lead to, as the code holds them (own).
use Rattle.std.specs.Prelude.{ℕ, Bool, List}
use Rattle.board.specs.Ledger.{RecordedBoard}
use Rattle.round.specs.Scenario.{Scenario}
use Rattle.round.specs.Letters.{Letter}
use Rattle.world.specs.Part.{Progress}
use Rattle.world.specs.World.{World, oral_kind}
use Rattle.world.specs.KindHeld as held
pub use Rattle.world.specs.KindHeld.{world_of}

-- States that some list of events leads to this world from the first world of its scenario.
abbrev pub IsReached : World → Type 0
IsReached w = held.IsReached oral_kind w

-- States what the code guarantees about a world: some list of events leads to it, and its board had the scenario's
-- words at first.
abbrev pub IsHeld : Scenario → List (List Letter) → RecordedBoard → ℕ → List Progress → Bool → Type 0
IsHeld s closed board opened parts full = held.IsHeld oral_kind s closed board opened parts full
