-- Laws of trials. Each is the contract of a function of this crate.
use Rattle.std.specs.Prelude.{ℕ, suc, ◌≡◌, ◌<◌, ◌≤◌, false, List, None, Some, length, map, IsSome}
use Rattle.insn.specs.declared.insn.Insn.{Insn}
use Rattle.label.specs.Relay.{relay}
use Rattle.semantics.specs.Relay.{Relay, IsRelay, IsContext}
use Rattle.semantics.specs.Run.{IsSound}
use Rattle.semantics.specs.State.{Exit}
use Rattle.semantics.specs.Execution.{step}
use Rattle.board.specs.Board.{Access, IsBoard, IsLegal, words_after}
use Rattle.round.specs.Activation.{Activation, started}
use Rattle.round.specs.Running.{IsOnWay}
use Rattle.round.specs.Scenario.{Scenario, IsScenario, shape_of}
use Rattle.round.specs.Letters.{Letter}
use Rattle.round.specs.Contexts.{context_of, took}
use Rattle.trial.specs.Setting.{Setting, IsTold, context_in}
use Rattle.trial.specs.Trial.{Ending, accesses_on, trial_on}

-- States that a trial is a general's run of the program. The run makes exactly the trial's accesses, and then exits
-- as the trial does. The accesses are legal: each answer is the board's. They change the board's words to those at
-- the end.
pub record IsGeneralsRun (words : List ℕ) (program : List Insn) (context : List ℕ) (relay : Relay)
    (e : Ending) : Type 0 where
  pub ledger : List Access
  pub whole : ledger ≡ accesses_on words program context relay
  pub last : Activation
  pub way : IsOnWay relay.shape.general relay.shape.round (started None program context relay) last ledger
  pub going : last.over ≡ false
  pub exit : step program context relay last.state ≡ Exit e.r0 e.state
  pub legal : IsLegal words ledger
  pub left : e.words ≡ words_after words ledger

-- States that every trial that ends is a general's run of the program.
abbrev pub TrialsAreRuns : Type 0
TrialsAreRuns =
    (words : List ℕ) (program : List Insn) (context : List ℕ) (relay : Relay) (e : Ending)
    → IsBoard words → trial_on words program context relay ≡ Some e → IsGeneralsRun words program context relay e

-- States that the trial of a sound program ends, whatever its context contains.
abbrev pub TrialsEnd : Type 0
TrialsEnd =
    (words : List ℕ) (program : List Insn) (context : List ℕ) (relay : Relay)
    → IsBoard words → IsSound program → IsContext context → IsRelay relay →
    IsSome (trial_on words program context relay)

-- Returns the setting of general g of the scenario s in the round after the closed rounds `before`, with these words
-- on the board.
abbrev pub setting_of : Scenario → List (List Letter) → ℕ → List ℕ → Setting
setting_of s before g words =
    let shape = shape_of s g (suc (length before)) in
    record { shape = shape; bound = s.bound; taken = map (took s before g) (relay shape); board = words }

-- States that every context of a general in a campaign is the context of a setting, which a trial can use.
pub record ContextsAreSettings : Type 0 where
  pub possible : (s : Scenario) (before : List (List Letter)) (g : ℕ) (words : List ℕ)
      → IsScenario s → g < s.generals → length before ≤ s.bound →
      let told = setting_of s before g words in
      IsTold told.shape told.bound told.taken
  pub same : (s : Scenario) (before : List (List Letter)) (g : ℕ) (words : List ℕ) →
      context_of s before g ≡ context_in (setting_of s before g words)
