-- Each fault that `judged` finds has a sentence.
use Rattle.std.proofs.Common.{◌≡◌, ℕ, List, length, Option, Some, None, refl, sym, subst}
use Rattle.std.specs.Prelude.{Ok, is_none, IsSome, option_map, if◌then◌else◌}
use Rattle.std.specs.Result.{result_ok}
use Rattle.insn.specs.declared.insn.Insn.{Insn}
use Rattle.insn.specs.Program.{slots_of, instruction_at}
use Rattle.verify.specs.declared.error.VerifyError.{VerifyError}
use Rattle.verify.specs.declared.error.VerifyError.TheVariants.{At}
use Rattle.verify.specs.declared.reason.Reason.{Reason}
use Rattle.verify.specs.declared.reason.Reason.TheVariants as reason
use Rattle.verify.specs.declared.state.AbsState.{AbsState}
use Rattle.verify.specs.Structure.{structural_fault}
use Rattle.verify.specs.Judgement.{KnownSoFar, reached_at, passed_to, judged}
use Rattle.verify.specs.KnownAtUnits.{known_before}
use Rattle.verify.specs.Passes.{reason_at, IsStopped, IsFirstFault}
use Rattle.verify.proofs.PassLaws.{structural_judged, judged_first}
use Rattle.reaching.specs.Marks.{known_by}
use Rattle.explain.specs.Explained.{sentence_of}
use Rattle.explain.specs.Shortfalls.{shortfall}
use Rattle.explain.specs.Laws.{RefusalsAreTold}
use Rattle.explain.proofs.RegistersTold.{Told}
use Rattle.explain.proofs.InstructionsTold.{instruction_told}
use Rattle.explain.proofs.StructureTold.{IsTold, FaultTold, structure_told}

-- What is to be shown of a fault.
abbrev Answer : List Insn → Reason → ℕ → Type 0
Answer program r unit = (i : Insn) × (instruction_at program unit ≡ Some i) × IsSome (sentence_of (length (slots_of program)) r unit i (known_by (known_before program unit)))

-- ---- a fault of structure

by_structure : (program : List Insn) (r : Reason) (unit : ℕ) → IsTold program r unit → Answer program r unit
by_structure program r unit told = (told.insn, told.at, told.says (length (slots_of program)) (known_by (known_before program unit)))

-- ---- a fault of the pass

-- A reason of the pass is not one of the structure, so the sentence is the one about what is missing.
own_sentence : (units : ℕ) (r : Reason) (unit : ℕ) (i : Insn) (a : AbsState) → IsSome (shortfall r i a) → IsSome (sentence_of units r unit i (Some a))
own_sentence units reason.BackJump unit i a h = absurd cc
own_sentence units reason.JumpOut unit i a h = absurd cc
own_sentence units reason.JumpInWide unit i a h = absurd cc
own_sentence units reason.LastNotExit unit i a h = refl
own_sentence units r unit i a h = h

known_there : (program : List Insn) (unit : ℕ) (reached : KnownSoFar) → structural_fault program ≡ None → passed_to program unit ≡ Ok reached → known_by (known_before program unit) ≡ reached_at reached unit
known_there program unit reached none comes = λ i. known_by (if is_none (none i) then option_map (λ (known : KnownSoFar). reached_at known unit) (result_ok (comes i)) else None)

at_insn : (units : ℕ) (r : Reason) (unit : ℕ) (o : Option Insn) (known : Option AbsState) → reason_at o known ≡ Some r → (i : Insn) × (o ≡ Some i) × IsSome (sentence_of units r unit i known)
at_insn units r unit None known e = absurd cc
at_insn units r unit (Some i) None e = absurd cc
at_insn units r unit (Some i) (Some a) e = (i, refl, own_sentence units r unit i a (subst (λ (o : Option Reason). Told i a o) e (instruction_told i a)))

by_pass : (program : List Insn) (r : Reason) (unit : ℕ) → structural_fault program ≡ None → IsStopped program unit r → Answer program r unit
by_pass program r unit none stop =
    let found = at_insn (length (slots_of program)) r unit (instruction_at program unit) (reached_at stop.reached unit) stop.stops in
    (found.0, found.1, subst (λ (known : Option AbsState). IsSome (sentence_of (length (slots_of program)) r unit found.0 known)) (sym (known_there program unit stop.reached none stop.comes)) found.2)

stopped_there : (program : List Insn) (r other : Reason) (unit place : ℕ) → At r unit ≡ At other place → IsStopped program place other → IsStopped program unit r
stopped_there program r other unit place e stop =
    let same : other ≡ r = cc in
    let here : place ≡ unit = cc in
    subst (λ (n : ℕ). IsStopped program n r) here (subst (λ (x : Reason). IsStopped program place x) same stop)

-- ---- a fault

pub refusals_told : RefusalsAreTold
refusals_told program r unit e = by_fault (structural_fault program) refl (structure_told program)
  where
    by_fault : (o : Option VerifyError) → structural_fault program ≡ o → FaultTold program o → Answer program r unit
    by_fault None none told =
        let first : IsFirstFault program (At r unit) = judged_first program (At r unit) none e in
        by_pass program r unit none (stopped_there program r first.1 unit first.0 first.3 first.2)
    by_fault (Some fault) some told =
        let judged_so : judged program ≡ Some fault = structural_judged program fault some in
        let same : fault ≡ At r unit = cc in
        by_structure program r unit (subst (λ (f : VerifyError). FaultTold program (Some f)) same told)
