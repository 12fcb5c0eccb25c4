-- Laws that hold for every text of a signed campaign. Each statement is the contract of a function of this crate.
use Rattle.std.specs.Prelude.{◌≡◌, ◌<◌, ◌↔◌, ℕ, All, List, length}
use Rattle.round.specs.Scenario.{Scenario, IsScenario}
use Rattle.world.specs.declared.event.Event.{Event}
use Rattle.world.specs.KindLists.{IsComplete, names_in, replay_world}
use Rattle.world.specs.Chronicle.{Chronicle}
use Rattle.signed.specs.Kind.{signed_kind, played}
use Rattle.signed.specs.Chronicle.{signed_chronicle_of}
use Rattle.trace.specs.Names.{names_of}
use Rattle.trace.specs.SignedAudit.{IsSoundSignedText}
use Rattle.trace.specs.SignedText.{signed_text}

-- States that the access lines in a signed chronicle's text name the same generals, round by round, as the chronicle's
-- accesses.
abbrev pub SignedNamesAreTold : Type 0
SignedNamesAreTold = (c : Chronicle) → All (λ a. a.general < 13) c.accesses →
    names_of (signed_text c) ≡ names_in 1 c.accesses (length c.letters)

-- States that a complete run and the replay of its accesses have chronicles with the same text.
abbrev pub SignedTextsAreReplays : Type 0
SignedTextsAreReplays = (s : Scenario) (events : List Event) → IsScenario s → IsComplete signed_kind s events →
    signed_text (signed_chronicle_of (played s events))
    ≡ signed_text (signed_chronicle_of (replay_world signed_kind s (played s events).ledger))

-- States that the text is the chronicle of a complete run of a signed campaign.
pub record IsSignedRunText (s : Scenario) (t : List ℕ) : Type 0 where
  pub events : List Event
  pub complete : IsComplete signed_kind s events
  pub same : t ≡ signed_text (signed_chronicle_of (played s events))

-- States that the texts that the audit accepts are exactly the chronicles of complete runs.
abbrev pub SoundSignedTextsAreRuns : Type 0
SoundSignedTextsAreRuns = (s : Scenario) (t : List ℕ) → IsScenario s → IsSoundSignedText s t ↔ IsSignedRunText s t
