-- What holds for the activations and letters of every world, in oral or signed campaigns. Each law is the contract of a
-- function, in this crate for oral ones.
use Rattle.std.specs.Prelude.{ℕ, suc, ◌≡◌, ◌≢◌, ◌<◌, ◌≤◌, false, All, List, length, take, drop, slice_get, Option, None, Some}
use Rattle.insn.specs.declared.insn.Insn.{Insn}
use Rattle.semantics.specs.State.{Cause, Trap}
use Rattle.semantics.specs.Execution.{step}
use Rattle.round.specs.Scenario.{Scenario, IsScenario, program_of}
use Rattle.round.specs.Letters.{Letter}
use Rattle.round.specs.Activation.{Activation, started, has_ended}
use Rattle.round.specs.Runs.{Runs, AreFitting, IsRunOf, IsWithin, IsLetter}
use Rattle.world.specs.declared.event.Event.{Event}
use Rattle.world.specs.Part.{Acting}
use Rattle.world.specs.Kind.{Kind, World, accesses_of, opening, run, loyal_letter}

-- States that a traitor's letter has at most as many steps as his program has instructions.
abbrev pub IsShort : Letter → Type 0
IsShort l = (program : List Insn) → l.program ≡ Some program → l.steps ≤ length program

-- States that, whatever events happen, no activation traps or takes more steps than its program has instructions.
pub record ActivationsAreSafe (K : Kind) : Type 0 where
  pub untrapped : (s : Scenario) (events : List Event) (g : ℕ) (a : Activation) (cause : Cause) → IsScenario s →
      slice_get (run K (opening K s) events).parts g ≡ Some (Acting a) → has_ended a ≡ false →
      step a.program a.context a.relay a.state ≢ Trap cause
  pub fewer : (s : Scenario) (events : List Event) (g : ℕ) (a : Activation) → IsScenario s →
      slice_get (run K (opening K s) events).parts g ≡ Some (Acting a) → a.state.steps ≤ length a.program
  pub letters : (s : Scenario) (events : List Event) → IsScenario s →
      All (λ letters. All IsShort letters) (run K (opening K s) events).closed

-- States that this is an activation of general `g` in the round after these closed rounds. It has his program, the
-- context and the labels to relay of that round, and the scenario's patience.
pub record IsPlaced (K : Kind) (s : Scenario) (closed : List (List Letter)) (g : ℕ) (a : Activation) : Type 0 where
  pub general : g < s.generals
  pub rounds : length closed ≤ s.bound
  pub program : program_of s g ≡ Some a.program
  pub context : a.context ≡ K.context s closed g
  pub relay : a.relay ≡ K.relay s closed g
  pub patience : a.patience ≡ s.patience

-- States that every activation in the open round has its general's program, the context and the labels to relay of that
-- round, and the scenario's patience.
abbrev pub PartsArePlaced : Kind → Type 0
PartsArePlaced K = (s : Scenario) (events : List Event) (g : ℕ) (a : Activation) → IsScenario s →
    slice_get (run K (opening K s) events).parts g ≡ Some (Acting a) →
    IsPlaced K s (run K (opening K s) events).closed g a

-- States that the activation is a run from its start with as many steps as it counts, in which exactly the general's
-- accesses in the open round were made, with fitting replies.
abbrev pub HasRun : World → ℕ → Activation → Type 0
HasRun w g a =
    let transcript = accesses_of g (drop w.opened w.ledger) in
    AreFitting transcript × Runs a.state.steps (started a.patience a.program a.context a.relay) transcript a

-- States how a letter was made: a loyal general's letter contains the orders that he took, and a traitor's letter is a
-- run of his program with the accesses of its transcript.
abbrev pub IsMade : Kind → Scenario → List (List Letter) → Letter → Option (List Insn) → Type 0
IsMade K s before l None = l ≡ loyal_letter K s before l.general
IsMade K s before l (Some program) = IsRunOf l (Some program)

-- States that the letter belongs to the round after these closed rounds, and that its steps are within the patience.
pub record IsLetterIn (K : Kind) (s : Scenario) (before : List (List Letter)) (l : Letter) : Type 0 where
  pub general : l.general < s.generals
  pub rounds : length before ≤ s.bound
  pub round : l.round ≡ suc (length before)
  pub context : l.context ≡ K.context s before l.general
  pub relay : l.outbox.relay ≡ K.relay s before l.general
  pub program : l.program ≡ program_of s l.general
  pub made : IsMade K s before l l.program
  pub within : IsWithin s.patience l.steps

-- States that every open activation, and the activation in every letter of a closed round, is a run of its program with
-- the accesses of its transcript. The run may be unfinished.
pub record ActivationsAreRuns (K : Kind) : Type 0 where
  pub parts : (s : Scenario) (events : List Event) (g : ℕ) (a : Activation) → IsScenario s →
      slice_get (run K (opening K s) events).parts g ≡ Some (Acting a) → HasRun (run K (opening K s) events) g a
  pub letters : (s : Scenario) (events : List Event) (k : ℕ) (row : List Letter) → IsScenario s →
      slice_get (run K (opening K s) events).closed k ≡ Some row →
      All (λ l. IsLetterIn K s (take k (run K (opening K s) events).closed) l) row
  pub kept : (s : Scenario) (before : List (List Letter)) (l : Letter) (program : List Insn) → IsScenario s →
      IsLetterIn K s before l → l.program ≡ Some program → IsLetter l
