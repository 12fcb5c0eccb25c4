-- Laws that hold for the text of every chronicle. Each statement is the contract of a function of this crate.
use Rattle.std.specs.Prelude.{ℕ, ◌≡◌, ◌<◌, ◌↔◌, true, All, List, length}
use Rattle.combine.specs.declared.campaign_rule.Rule.{Rule}
use Rattle.combine.specs.Names.{is_default}
use Rattle.world.specs.declared.event.Event.{Event}
use Rattle.round.specs.Scenario.{Scenario, IsScenario}
use Rattle.world.specs.World.{opening, run}
use Rattle.world.specs.Lists.{IsComplete, names_in}
use Rattle.world.specs.Chronicle.{Chronicle, chronicle_of}
use Rattle.trace.specs.Text.{text_in}
use Rattle.trace.specs.declared.version.Version.{Version}
use Rattle.trace.specs.declared.version.Version.TheVariants.{First, Second}
use Rattle.trace.specs.Names.{names_of, chronicle_told}

-- States that the access lines in a chronicle's text name the same generals, round by round, as the chronicle's
-- accesses.
abbrev pub NamesAreTold : Type 0
NamesAreTold = (v : Version) (c : Chronicle) → All (λ a. a.general < 13) c.accesses →
    names_of (text_in v c) ≡ names_in 1 c.accesses (length c.letters)

-- States that a campaign with this rule may be written in this version: always in the second, and in the first only if
-- the rule is the default one.
abbrev pub Admits : Rule → Version → Type 0
Admits rule Second = Unit {0}
Admits rule First = is_default rule ≡ true

-- States that the audit accepts the text: it is the chronicle of the replay of its own accesses, in a version in which
-- the campaign may be written.
pub record IsSoundText (s : Scenario) (t : List ℕ) : Type 0 where
  pub version : Version
  pub admitted : Admits s.rule version
  pub same : t ≡ text_in version (chronicle_told s t)

-- States that the text is the chronicle of a complete run, in a version in which the campaign may be written.
pub record IsRunText (s : Scenario) (t : List ℕ) : Type 0 where
  pub version : Version
  pub admitted : Admits s.rule version
  pub events : List Event
  pub complete : IsComplete s events
  pub same : t ≡ text_in version (chronicle_of (run (opening s) events))

-- States that the texts that the audit accepts are exactly the chronicles of complete runs.
abbrev pub SoundTextsAreRuns : Type 0
SoundTextsAreRuns = (s : Scenario) (t : List ℕ) → IsScenario s → IsSoundText s t ↔ IsRunText s t
