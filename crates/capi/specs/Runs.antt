-- Defines the run of a program outside of any campaign, as general 3 of four in the first round.
use Rattle.std.specs.Prelude.{ℕ, ◌≡◌, List, Some}
use Rattle.insn.specs.declared.insn.Insn.{Insn}
use Rattle.codec.specs.Program.{SpellsProgram}
use Rattle.label.specs.declared.shape.Shape.{Shape}
use Rattle.semantics.specs.Relay.{oral}
use Rattle.trial.specs.Trial.{Ending, trial_on}

-- The general as whom a program runs outside of a campaign: the last of 4 generals, in the first round, in which he
-- relays nothing.
abbrev pub host : Shape
host = record { generals = 4; commander = 0; general = 3; round = 1 }

-- States that a run of the program in this context, with a board of `words`, exits with the value `r0` after `steps`
-- steps, and leaves the words `left` on the board.
pub record Exits (words : List ℕ) (program : List Insn) (context : List ℕ) (r0 steps : ℕ) (left : List ℕ) : Type 0 where
  pub ending : Ending
  pub ended : trial_on words program context (oral host) ≡ Some ending
  pub r0_is : r0 ≡ ending.r0
  pub steps_are : steps ≡ ending.state.steps
  pub left_are : left ≡ ending.words

-- States that a run in this context, with a board of `words`, exits with the value `r0` after `steps` steps, and leaves
-- the words `left` on the board. `bytes` are the bytecode of the program.
pub record IsRun (bytes context words : List ℕ) (r0 steps : ℕ) (left : List ℕ) : Type 0 where
  pub program : List Insn
  pub spelt : SpellsProgram bytes program
  pub exits : Exits words program context r0 steps left
