-- What holds of the ledgers and chronicles of signed campaigns. Each statement is the contract of a function of this
-- crate.
use Rattle.std.specs.Prelude.{◌≡◌, List}
use Rattle.round.specs.Scenario.{Scenario, IsScenario}
use Rattle.world.specs.declared.event.Event.{Event}
use Rattle.world.specs.KindLists.{IsComplete, replay_world}
use Rattle.signed.specs.Kind.{signed_kind, played}
use Rattle.signed.specs.Chronicle.{signed_chronicle_of}

-- States that a complete run has the same chronicle as the replay of its own accesses.
abbrev pub SignedChroniclesAreReplays : Type 0
SignedChroniclesAreReplays = (s : Scenario) (events : List Event) → IsScenario s → IsComplete signed_kind s events →
    signed_chronicle_of (played s events) ≡ signed_chronicle_of (replay_world signed_kind s (played s events).ledger)
