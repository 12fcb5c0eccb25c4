-- The edges of a program without a structural fault lead forward, and a plain program has no structural fault.
use Rattle.std.proofs.Common.{◌≡◌, ℕ, ◌<◌, List, [], ◌∷◌, ◌++◌, Option, Some, None, Bool, true, false, refl, sym, subst, length, slice_get, if◌then◌else◌, arith}
use Rattle.std.specs.Prelude.{ℤ, pos, negsuc, ◌<ℤ◌, nat_le, is_none, IsSome}
use Rattle.std.proofs.lemmas.Bool.{lt-leb, leb-false}
use Rattle.std.proofs.lemmas.Int.{ints}
use Rattle.std.proofs.lemmas.Option.{slice_get_within}
use Rattle.insn.specs.declared.insn.Insn.{Insn}
use Rattle.insn.specs.Program.{slots_of, joined, instruction_at}
use Rattle.semantics.specs.Plain.{IsStart}
use Rattle.verify.specs.declared.error.VerifyError.{VerifyError}
use Rattle.verify.specs.declared.error.VerifyError.TheVariants.{At}
use Rattle.verify.specs.declared.reason.Reason.TheVariants.{BackJump, JumpOut, JumpInWide}
use Rattle.verify.specs.Structure.{Check, first_fault, target_checks}

-- If the checks find no fault, neither do their parts.
pub first_fault-parts : (checks more : List Check) → first_fault (checks ++ more) ≡ None → (first_fault checks ≡ None) × (first_fault more ≡ None)
first_fault-parts [] more e = (refl, e)
first_fault-parts (check ∷ checks) more e = by_test check.0 (λ h. first_fault-parts checks more h) e
  where
    by_test : (b : Bool) → (first_fault (checks ++ more) ≡ None → (first_fault checks ≡ None) × (first_fault more ≡ None)) →
        (if b then Some check.1 else first_fault (checks ++ more)) ≡ None → ((if b then Some check.1 else first_fault checks) ≡ None) × (first_fault more ≡ None)
    by_test true ih h = absurd (cc)
    by_test false ih h = ih h

pub first_fault-none : (checks more : List Check) → first_fault checks ≡ None → first_fault more ≡ None → first_fault (checks ++ more) ≡ None
first_fault-none [] more e f = f
first_fault-none (check ∷ checks) more e f = by_test check.0 (λ h. first_fault-none checks more h f) e
  where
    by_test : (b : Bool) → (first_fault checks ≡ None → first_fault (checks ++ more) ≡ None) →
        (if b then Some check.1 else first_fault checks) ≡ None → (if b then Some check.1 else first_fault (checks ++ more)) ≡ None
    by_test true ih h = absurd (cc)
    by_test false ih h = ih h

test_false : (b : Bool) (fault : VerifyError) (rest : Option VerifyError) → (if b then Some fault else rest) ≡ None → (b ≡ false) × (rest ≡ None)
test_false true fault rest e = absurd (cc)
test_false false fault rest e = (refl, e)

test_passes : (b : Bool) (fault : VerifyError) (rest : Option VerifyError) → b ≡ false → rest ≡ None → (if b then Some fault else rest) ≡ None
test_passes true fault rest e f = absurd (cc)
test_passes false fault rest e f = f

some_there : (o : Option Insn) → is_none o ≡ false → IsSome o
some_there None e = absurd (cc)
some_there (Some i) e = refl

not_none : (o : Option Insn) → IsSome o → is_none o ≡ false
not_none None h = absurd (cc)
not_none (Some i) h = refl

-- A target without a fault is an instruction after the jump.
pub target_fine : (program : List Insn) (unit : ℕ) (z : ℤ) → first_fault (target_checks program unit z) ≡ None → (pos unit <ℤ z) × IsStart program z
target_fine program unit (negsuc n) e = absurd (cc)
target_fine program unit (pos target) e =
    let back = test_false (nat_le target unit) (At BackJump unit) _ e in
    let out = test_false (nat_le (length (slots_of program)) target) (At JumpOut unit) _ back.1 in
    let wide = test_false (is_none (instruction_at program target)) (At JumpInWide unit) None out.1 in
    let lt : unit < target = leb-false target unit back.0 in
    (omega (arith, ints), (target, refl, some_there (instruction_at program target) wide.0))

-- The last unit of a program is before its end.
pub start_inside : (program : List Insn) (unit : ℕ) → IsSome (instruction_at program unit) → unit < length (slots_of program)
start_inside program unit some = by_slot (slice_get (slots_of program) unit) refl some
  where
    by_slot : (slot : Option (Option Insn)) → slot ≡ slice_get (slots_of program) unit → IsSome (joined slot) → unit < length (slots_of program)
    by_slot None e some = absurd (cc)
    by_slot (Some slot) e some = slice_get_within (slots_of program) unit slot (sym e)

-- A target that is an instruction after the jump has no fault.
pub target_clear : (program : List Insn) (unit : ℕ) (z : ℤ) → (pos unit <ℤ z) × IsStart program z → first_fault (target_checks program unit z) ≡ None
target_clear program unit (negsuc n) forward = absurd (let lt = forward.0 in omega (arith, ints))
target_clear program unit (pos target) forward =
    let same : target ≡ forward.1.0 = let e = forward.1.1 in cc in
    let some : IsSome (instruction_at program target) = subst (λ v. IsSome (instruction_at program v)) (sym same) forward.1.2 in
    let lt : unit < target = let h = forward.0 in omega (arith, ints) in
    test_passes (nat_le target unit) (At BackJump unit) _ (lt-leb target unit lt)
    (test_passes (nat_le (length (slots_of program)) target) (At JumpOut unit) _ (lt-leb (length (slots_of program)) target (start_inside program target some))
    (test_passes (is_none (instruction_at program target)) (At JumpInWide unit) None (not_none (instruction_at program target) some) refl))
