-- Defines what the verifier knows at each unit, up to the first fault (own).
use Rattle.std.specs.Prelude.{ℕ, ◌<◌, ◌≤◌, ◌≡◌, List, Option, None, length, is_none, option_map, slice_get, if◌then◌else◌}
use Rattle.std.specs.Result.{result_ok}
use Rattle.insn.specs.declared.insn.Insn.{Insn}
use Rattle.insn.specs.Program.{slots_of}
use Rattle.verify.specs.declared.error.VerifyError.{VerifyError}
use Rattle.verify.specs.declared.state.AbsState.{AbsState}
use Rattle.verify.specs.Structure.{structural_fault}
use Rattle.verify.specs.Judgement.{reached_at, passed_to, judged}

-- Returns what the pass knows when it reaches a unit. It is `None` if there is a fault at an earlier unit, so that the
-- pass does not reach this one, and `Some None` if no path leads to it.
abbrev pub known_on_the_pass : List Insn → ℕ → Option (Option AbsState)
known_on_the_pass program unit = option_map (λ reached. reached_at reached unit) (result_ok (passed_to program unit))

-- Returns what the verifier knows at a unit. It reaches no unit of a program with a structural fault.
abbrev pub known_before : List Insn → ℕ → Option (Option AbsState)
known_before program unit = if is_none (structural_fault program) then known_on_the_pass program unit else None

-- States that the list and the fault are what the verifier finds in a program: what it knows at each unit that it
-- reaches, and the first fault, if there is one.
pub record IsSurvey (program : List Insn) (states : List (Option AbsState)) (fault : Option VerifyError) : Type 0 where
  pub known : (unit : ℕ) → unit < length (slots_of program) → slice_get states unit ≡ known_before program unit
  pub room : length states ≤ length (slots_of program)
  pub fault_is : fault ≡ judged program
