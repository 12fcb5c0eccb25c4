-- The laws of the verifier.
use Rattle.std.specs.Prelude.{ℕ, ◌≡◌, ◌<◌, List, None, Some, length}
use Rattle.insn.specs.declared.insn.Insn.{Insn}
use Rattle.verify.specs.declared.error.VerifyError.{VerifyError}
use Rattle.verify.specs.Structure.{structural_fault}
use Rattle.verify.specs.Passes.{ComesThrough, IsFirstFault}
use Rattle.std.specs.List.{AllByRecursion}
use Rattle.insn.specs.Insn.{IsInsn}
use Rattle.insn.specs.Program.{slots_of}
use Rattle.semantics.specs.Plain.{IsPlain}
use Rattle.semantics.specs.Relay.{IsRelay, Relay}
use Rattle.semantics.specs.State.{State}
use Rattle.semantics.specs.Run.{IsContext, IsSound}
use Rattle.semantics.specs.Reached.{Reached}
use Rattle.verify.specs.Judgement.{judged}
use Rattle.verify.specs.KnownAtUnits.{known_before}
use Rattle.verify.specs.Describes.{IsAsKnown}

-- States, for a program without a structural fault: if the pass reaches the end, `judged` accepts the program, and if
-- it stops at a first fault, `judged` returns this fault. The pass never does both, and there is only one first fault.
pub record PassesAgree : Type 0 where
  pub through : (program : List Insn) → structural_fault program ≡ None → ComesThrough program → judged program ≡ None
  pub stopped : (program : List Insn) (fault : VerifyError) → structural_fault program ≡ None →
      IsFirstFault program fault → judged program ≡ Some fault
  pub not_both : (program : List Insn) (fault : VerifyError) → structural_fault program ≡ None → ComesThrough program →
      IsFirstFault program fault → ⊥
  pub not_two : (program : List Insn) (fault other : VerifyError) → structural_fault program ≡ None →
      IsFirstFault program fault → IsFirstFault program other → fault ≡ other

-- States that `judged` finds no fault in a plain program of well-formed instructions.
abbrev pub PlainIsAccepted : Type 0
PlainIsAccepted = (program : List Insn) → AllByRecursion IsInsn program → IsPlain program → judged program ≡ None

-- States that a program of well-formed instructions, with at least one unit, is sound if `judged` finds no fault in it.
abbrev pub AcceptedIsSound : Type 0
AcceptedIsSound = (program : List Insn) → AllByRecursion IsInsn program → 0 < length (slots_of program) →
    judged program ≡ None → IsSound program

-- States that if `judged` finds no fault in a program of well-formed instructions, with at least one unit, what is
-- known at each unit describes every state of every run at that unit.
abbrev pub StatesAreAsKnown : Type 0
StatesAreAsKnown = (program : List Insn) → AllByRecursion IsInsn program → 0 < length (slots_of program) →
    judged program ≡ None → (context : List ℕ) (relay : Relay) (answers : List (List ℕ)) (s : State) →
    IsContext context → IsRelay relay → Reached program context relay answers s →
    IsAsKnown (known_before program s.unit) s
