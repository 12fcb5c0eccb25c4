-- The code passes unit by unit, as the definition does.
use Rattle.std.proofs.Common.{◌≡◌, ◌∙◌, ◌⊎◌, inl, inr, ℕ, suc, ◌+◌, ◌<◌, List, length, arith, add-one, refl, sym, ap, subst, Option, Some, Result, Ok, Err}
use Rattle.std.specs.Result.{result_err}
use Rattle.insn.specs.declared.insn.Insn.{Insn}
use Rattle.insn.specs.Program.{slots_of, instruction_at}
use Rattle.verify.specs.declared.error.VerifyError.{VerifyError}
use Rattle.verify.specs.declared.error.VerifyError.TheVariants.{At, Memory}
use Rattle.verify.specs.Judgement.{KnownSoFar, reached_at, passed_at, passed_to}
use Rattle.verify.specs.Passes.{Does, Answers}
use Rattle.verify.proofs.Taken.{length-passed_at}
use Rattle.verify.proofs.PassLaws.{goes_on, stays}

-- The next unit.
pub comes_on : (program : List Insn) (unit : ℕ) (old new : KnownSoFar) → passed_to program unit ≡ Ok old →
    passed_at unit (instruction_at program unit) (reached_at old unit) old ≡ Ok new → passed_to program (unit + 1) ≡ Ok new
comes_on program unit old new comes h = ap (passed_to program) (add-one unit) ∙ (goes_on program unit old comes ∙ h)

-- A unit that is rejected gives the result, whatever the end is.
pub answered : (program : List Insn) (unit end : ℕ) (old new : KnownSoFar) (fault : VerifyError) → unit < end → passed_to program unit ≡ Ok old →
    Does (passed_at unit (instruction_at program unit) (reached_at old unit) old) (Err fault) new → Answers (result_err (passed_to program end)) (Err fault)
answered program unit end old new Memory lt comes h = tt
answered program unit end old new (At reason at) lt comes h =
    ap result_err (stays program (At reason at) (suc unit) end (omega arith) (goes_on program unit old comes ∙ h))

-- The number of units is unchanged at the next unit.
pub room_on : (program : List Insn) (unit : ℕ) (old new : KnownSoFar) → passed_to program unit ≡ Ok old → passed_to program (unit + 1) ≡ Ok new →
    length old ≡ length (slots_of program) → length new ≡ length (slots_of program)
room_on program unit old new comes on room =
    let next : passed_to program (suc unit) ≡ passed_to program (unit + 1) = ap (passed_to program) (sym (add-one unit)) in
    length-passed_at unit (instruction_at program unit) (reached_at old unit) old new (sym (goes_on program unit old comes) ∙ (next ∙ on)) ∙ room

pub answers_err : (wanted : Option VerifyError) (r : Result (Unit {0}) VerifyError) (fault : VerifyError) → r ≡ Err fault → Answers wanted (Err fault) → Answers wanted r
answers_err wanted r fault e h = subst (λ (x : Result (Unit {0}) VerifyError). Answers wanted x) (sym e) h

-- A wanted fault is an answer.
pub answers_wanted : (wanted : Option VerifyError) (fault : VerifyError) → wanted ≡ Some fault → Answers wanted (Err fault)
answers_wanted wanted Memory e = tt
answers_wanted wanted (At reason unit) e = e

-- An answer is the wanted one, or out of memory.
pub wanted_of : (wanted : Option VerifyError) (r : Result (Unit {0}) VerifyError) (fault : VerifyError) → r ≡ Err fault → Answers wanted r → (fault ≡ Memory) ⊎ (wanted ≡ Some fault)
wanted_of wanted r fault e h = by_fault fault (subst (λ (x : Result (Unit {0}) VerifyError). Answers wanted x) e h)
  where
    by_fault : (f : VerifyError) → Answers wanted (Err f) → (f ≡ Memory) ⊎ (wanted ≡ Some f)
    by_fault Memory k = inl refl
    by_fault (At reason unit) k = inr k
