-- Defines what the theorems promise about a chronicle: its run, the decisions and the verdict (TOPLAS 1982, Theorems 1
-- and 2).
use Rattle.std.specs.Prelude.{ℕ, ◌≡◌, ◌<◌, false, List}
use Rattle.label.specs.Oral.{IsFaithful}
use Rattle.round.specs.Letters.{messages}
use Rattle.round.specs.Scenario.{Scenario, is_traitor}
use Rattle.signed.specs.Promises.{AgreeUnderSignedBound, IsSignedVerdictOn}
use Rattle.world.specs.Chronicle.{Chronicle}
use Rattle.world.specs.declared.event.Event.{Event}
use Rattle.world.specs.Kind.{Kind}
use Rattle.world.specs.KindLists.{IsComplete}
use Rattle.world.specs.Promises.{AgreeIfTolerable, AreSafeThroughout, AreWhole, IsVerdictOn, IsWellUnderBound}

-- States that the loyal generals of an oral campaign are faithful: each sends every receiver the order that he took.
abbrev pub AreFaithful : Chronicle → Type 0
AreFaithful c = (g : ℕ) → g < c.scenario.generals → is_traitor c.scenario g ≡ false →
    IsFaithful c.scenario.generals c.scenario.commander c.scenario.bound c.scenario.order (messages c.letters) g

-- States what Theorem 1 promises for oral messages. If the traitors are few enough, all loyal lieutenants decide alike,
-- and obey a loyal commander. The verdict describes the decisions correctly.
pub record KeepsPromises (s : Scenario) (c : Chronicle) : Type 0 where
  pub agree : AgreeIfTolerable s c.decisions
  pub verdict : IsVerdictOn s c.decisions c.verdict
  pub well : IsWellUnderBound c.verdict

-- States what Theorem 2 promises for signed messages. If there are at most m traitors among m + 2 or more generals, all
-- loyal lieutenants decide alike, and obey a loyal commander. The verdict describes the decisions correctly.
pub record KeepsSignedPromises (s : Scenario) (c : Chronicle) : Type 0 where
  pub agree : AgreeUnderSignedBound s c.decisions
  pub verdict : IsSignedVerdictOn s c.decisions c.verdict
  pub well : IsWellUnderBound c.verdict

-- States that the events are a complete run of a campaign of this kind, and that the chronicle has the accesses and
-- letters of this run. No activation traps or takes more steps than its program has instructions. The accesses are a
-- legal history of the board, and each letter is complete.
pub record IsCompleteRun (K : Kind) (s : Scenario) (events : List Event) (c : Chronicle) : Type 0 where
  pub complete : IsComplete K s events
  pub safe : AreSafeThroughout K s events
  pub whole : AreWhole K s c.accesses c.letters
