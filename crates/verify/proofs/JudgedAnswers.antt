-- What the verifier returns, from what `judged` says.
use Rattle.std.proofs.Common.{◌≡◌, ◌⊎◌, inl, inr, List, Option, Some, None, refl, sym, subst}
use Rattle.std.specs.Prelude.{IsSome}
use Rattle.std.specs.List.{AllByRecursion}
use Rattle.insn.specs.declared.insn.Insn.{Insn}
use Rattle.insn.specs.Insn.{IsInsn}
use Rattle.insn.specs.Program.{instruction_at}
use Rattle.semantics.specs.Plain.{IsPlain}
use Rattle.verify.specs.declared.error.VerifyError.{VerifyError}
use Rattle.verify.specs.declared.error.VerifyError.TheVariants.{Memory}
use Rattle.verify.specs.declared.reason.Reason.{Reason}
use Rattle.verify.specs.declared.state.AbsState.{AbsState}
use Rattle.verify.specs.Structure.{structural_fault, IsOwn, IsOwnFault}
use Rattle.verify.specs.Instructions.{reason_of}
use Rattle.verify.specs.Judgement.{reached_at, judged}
use Rattle.verify.specs.Passes.{reason_at, IsFirstFault}
use Rattle.verify.proofs.PassLaws.{judged_first}
use Rattle.verify.proofs.PlainJudged.{plain_judged}
use Rattle.verify.proofs.OwnReasons.{reason_own, instruction_own}

-- The fault is the one of `judged`, or out of memory.
abbrev pub IsJudged : List Insn → VerifyError → Type 0
IsJudged program fault = (fault ≡ Memory) ⊎ (judged program ≡ Some fault)

-- If there is no structural fault, it is the one of the first instruction that is rejected.
abbrev pub IsAnswer : List Insn → VerifyError → Type 0
IsAnswer program fault = (fault ≡ Memory) ⊎ IsFirstFault program fault

pub answer_of : (program : List Insn) (fault : VerifyError) → structural_fault program ≡ None → IsJudged program fault → IsAnswer program fault
answer_of program fault none (inl memory) = inl memory
answer_of program fault none (inr some) = inr (judged_first program fault none some)

-- A plain program is rejected only if memory runs out.
pub plain_refused : (program : List Insn) (fault : VerifyError) → AllByRecursion IsInsn program → IsPlain program → IsJudged program fault → fault ≡ Memory
plain_refused program fault well plain (inl memory) = memory
plain_refused program fault well plain (inr some) = let none : judged program ≡ None = plain_judged program well plain in absurd cc

-- If an instruction stops the pass, the reason is not one of the structure.
stop_own : (o : Option Insn) (known : Option AbsState) (reason : Reason) → reason_at o known ≡ Some reason → IsOwn reason × IsSome o
stop_own None known reason e = absurd cc
stop_own (Some i) None reason e = absurd cc
stop_own (Some i) (Some a) reason e = (reason_own (reason_of i a) reason (sym e) (instruction_own i a), refl)

pub own_fault : (program : List Insn) (fault : VerifyError) → IsAnswer program fault → IsOwnFault program fault
own_fault program fault (inl memory) = subst (λ (f : VerifyError). IsOwnFault program f) (sym memory) tt
own_fault program fault (inr h) =
    subst (λ (f : VerifyError). IsOwnFault program f) (sym h.3) (stop_own (instruction_at program h.0) (reached_at h.2.reached h.0) h.1 h.2.stops)
