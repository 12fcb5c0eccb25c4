-- Laws of explanations.
use Rattle.std.specs.Prelude.{ℕ, ℤ, pos, ◌≡◌, ◌+◌, ◌<◌, List, Some, None, length, IsSome}
use Rattle.asm.specs.Helper.{helpers, helper_of as number_of}
use Rattle.insn.specs.declared.insn.Insn.{Insn}
use Rattle.insn.specs.Program.{slots_of, instruction_at}
use Rattle.semantics.specs.Call.{helper_of}
use Rattle.semantics.specs.declared.request.Helper.{Helper}
use Rattle.verify.specs.declared.error.VerifyError.TheVariants.{At}
use Rattle.verify.specs.declared.reason.Reason.{Reason}
use Rattle.verify.specs.Judgement.{judged}
use Rattle.verify.specs.KnownAtUnits.{known_before}
use Rattle.reaching.specs.Marks.{known_by}
use Rattle.reaching.specs.declared.edits.Edit.{Edit}
use Rattle.reaching.specs.declared.edits.Trial.{Trial}
use Rattle.reaching.specs.declared.edits.Trial.TheVariants.{Accepted}
use Rattle.reaching.specs.Mends.{grown, mended}
use Rattle.explain.specs.Helps.{best}
use Rattle.explain.specs.Names.{helper_name}
use Rattle.explain.specs.Explained.{sentence_of}

-- States that every fault that the verifier finds is at an instruction of the program, and has a sentence.
abbrev pub RefusalsAreTold : Type 0
RefusalsAreTold =
    (program : List Insn) (r : Reason) (unit : ℕ) → judged program ≡ Some (At r unit) →
    (i : Insn) × (instruction_at program unit ≡ Some i)
    × IsSome (sentence_of (length (slots_of program)) r unit i (known_by (known_before program unit)))

-- States that in the program with this edit, the verifier gets past the rejected instruction, and that it accepts the
-- program if the trial says so.
pub record Mends (program : List Insn) (place unit : ℕ) (edit : Edit) (trial : Trial) : Type 0 where
  pub past : (r : Reason) (at : ℕ) → judged (mended edit place 0 program) ≡ Some (At r at) → unit + grown edit < at
  pub accepted : trial ≡ Accepted → judged (mended edit place 0 program) ≡ None

-- States that every edit that is offered as a help gets the verifier past the fault.
abbrev pub HelpsMend : Type 0
HelpsMend = (program : List Insn) (place unit : ℕ) (edits : List Edit) (edit : Edit) (trial : Trial) →
    best program place unit edits ≡ Some (edit, trial) → Mends program place unit edit trial

-- States that the assembler knows each helper by its name, and that its list of names has exactly one for each helper.
pub record NamesAreRead : Type 0 where
  pub read : (helper : Helper) →
      (number : ℤ) × (helper_of number ≡ Some helper) × (number_of (helper_name helper) ≡ Some number)
  pub all : IsSome (helper_of (pos (length helpers)))
  pub behind : helper_of (pos (length helpers + 1)) ≡ None
