-- Lemmas about a program that the verifier rejects.
use Rattle.std.proofs.Common.{◌≡◌, ◌⊎◌, List, inl, inr, sym, subst}
use Rattle.std.specs.Prelude.{Some, Result, Ok, Err, IfOk, IfErr, MatchResult}
use Rattle.insn.specs.declared.insn.Insn.{Insn}
use Rattle.verify.specs.declared.error.VerifyError.{VerifyError}
use Rattle.verify.specs.declared.error.VerifyError.TheVariants.{At, Memory}
use Rattle.verify.specs.Judgement.{judged}
use Rattle.cli_tasks.specs.declared.refusal.InputRefusal.{InputRefusal}
use Rattle.cli_tasks.specs.Refusals.{verifier_refusal}
use Rattle.cli_tasks.specs.ProgramRefusals.{RefusesProgram}

by_fault : (program : List Insn) (fault : VerifyError) → (fault ≡ Memory) ⊎ (judged program ≡ Some fault) → RefusesProgram program (verifier_refusal fault)
by_fault program (At reason unit) (inl memory) = absurd (let e = memory in cc)
by_fault program (At reason unit) (inr first) = first
by_fault program Memory r = tt

pub refused_program : (program : List Insn) (fault : VerifyError) (refusal : InputRefusal) → refusal ≡ verifier_refusal fault → (fault ≡ Memory) ⊎ (judged program ≡ Some fault) → RefusesProgram program refusal
refused_program program fault refusal e r = subst (λ (x : InputRefusal). RefusesProgram program x) (sym e) (by_fault program fault r)

-- If two results differ only in the error, a property of the value holds for both.
pub told_ok : {T E F : Type 0} (f : E → F) (P : T → Type 0) (answer : Result T E) (own : Result T F) → MatchResult answer (λ t. own ≡ Ok t) (λ e. own ≡ Err (f e)) → IfOk answer P → IfOk own P
told_ok {T} {E} {F} f P (Ok t) own is p = subst (λ (r : Result T F). IfOk r P) (sym is) p
told_ok {T} {E} {F} f P (Err e) own is p = subst (λ (r : Result T F). IfOk r P) (sym is) tt

pub told_err : {T E F : Type 0} (f : E → F) (P : F → Type 0) (answer : Result T E) (own : Result T F) → MatchResult answer (λ t. own ≡ Ok t) (λ e. own ≡ Err (f e)) → IfErr answer (λ e. P (f e)) → IfErr own P
told_err {T} {E} {F} f P (Ok t) own is p = subst (λ (r : Result T F). IfErr r P) (sym is) tt
told_err {T} {E} {F} f P (Err e) own is p = subst (λ (r : Result T F). IfErr r P) (sym is) p
