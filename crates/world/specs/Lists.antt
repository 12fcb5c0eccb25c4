-- Lists of events in oral campaigns (own). Each definition is the one of KindLists.antt for oral campaigns.
use Rattle.std.specs.Prelude.{ℕ, List}
use Rattle.world.specs.declared.event.Event.{Event}
use Rattle.round.specs.Scenario.{Scenario}
use Rattle.world.specs.World.{World, oral_kind}
use Rattle.world.specs.KindLists as lists
pub use Rattle.world.specs.KindLists.{AreMoves, AtClose, HasEnded, IsMove, IsRipe, OwesNoLetter, event_of, first_line, further_turns, later_lines, listed, listed_rounds, names_in, post_of, ticks_named, ticks_of, until_access, wound_up}

abbrev pub Throughout : (World → Event → Type 0) → World → List Event → Type 0
Throughout Q w events = lists.Throughout oral_kind Q w events

abbrev pub IsPunctual : Scenario → List Event → Type 0
IsPunctual s events = lists.IsPunctual oral_kind s events

abbrev pub IsComplete : Scenario → List Event → Type 0
IsComplete s events = lists.IsComplete oral_kind s events

abbrev pub names_events : World → List ℕ → List Event
names_events w names = lists.names_events oral_kind w names

abbrev pub replayed_rounds : World → ℕ → List (List ℕ) → List Event
replayed_rounds w k names = lists.replayed_rounds oral_kind w k names

abbrev pub replayed : Scenario → List (List ℕ) → List Event
replayed s names = lists.replayed oral_kind s names
