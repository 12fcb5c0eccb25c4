-- Each structural fault is at an instruction, and has a sentence.
use Rattle.std.proofs.Common.{◌≡◌, ℕ, ◌+◌, List, [], ◌∷◌, ◌++◌, Bool, true, false, Option, Some, None, refl, sym, ap, subst, arith}
use Rattle.std.specs.Prelude.{ℤ, pos, negsuc, ◌+ℤ◌, IsSome, option_map, if◌then◌else◌}
use Rattle.insn.specs.declared.insn.Insn.{Insn}
use Rattle.insn.specs.declared.insn.Insn.TheVariants.{Jump, LongJump, Branch}
use Rattle.insn.specs.Insn.{units_of}
use Rattle.insn.specs.Program.{instruction_at}
use Rattle.verify.specs.declared.error.VerifyError.{VerifyError}
use Rattle.verify.specs.declared.error.VerifyError.TheVariants.{At, Memory}
use Rattle.verify.specs.declared.reason.Reason.{Reason}
use Rattle.verify.specs.declared.reason.Reason.TheVariants.{BackJump, JumpOut, JumpInWide}
use Rattle.verify.specs.declared.state.AbsState.{AbsState}
use Rattle.verify.specs.Structure.{Check, first_fault, target_checks, jump_checks, checks_from, last_checks, structural_fault}
use Rattle.verify.proofs.Walk.{IsRest, rest_next, rest_first}
use Rattle.explain.specs.Explained.{target_of, sentence_of}

-- The fault is at an instruction, and has a sentence whatever is known there.
pub record IsTold (program : List Insn) (r : Reason) (unit : ℕ) : Type 0 where
  pub insn : Insn
  pub at : instruction_at program unit ≡ Some insn
  pub says : (units : ℕ) (known : Option AbsState) → IsSome (sentence_of units r unit insn known)

abbrev pub FaultTold : List Insn → Option VerifyError → Type 0
FaultTold program None = Unit {0}
FaultTold program (Some Memory) = ⊥
FaultTold program (Some (At r unit)) = IsTold program r unit

abbrev EachTold : List Insn → List Check → Type 0
EachTold program [] = Unit {0}
EachTold program (check ∷ checks) = FaultTold program (Some check.1) × EachTold program checks

first_told : (program : List Insn) (checks : List Check) → EachTold program checks → FaultTold program (first_fault checks)
first_told program [] h = tt
first_told program (check ∷ checks) h = by_test check.0 (first_told program checks h.1)
  where
    by_test : (t : Bool) → FaultTold program (first_fault checks) → FaultTold program (if t then Some check.1 else first_fault checks)
    by_test true next = h.0
    by_test false next = next

told-append : (program : List Insn) (checks more : List Check) → EachTold program checks → EachTold program more → EachTold program (checks ++ more)
told-append program [] more h k = k
told-append program (check ∷ checks) more h k = (h.0, told-append program checks more h.1 k)

-- ---- jumps

mapped_is : {X Y : Type 0} (f : X → Y) (o : Option X) (x : X) → o ≡ Some x → IsSome (option_map f o)
mapped_is f o x e = subst (λ (p : Option _). IsSome (option_map f p)) (sym e) refl

target_told : (program : List Insn) (unit : ℕ) (i : Insn) (to : ℤ) → instruction_at program unit ≡ Some i → target_of unit i ≡ Some to → EachTold program (target_checks program unit to)
target_told program unit i (negsuc n) at leads =
    let told : IsTold program BackJump unit = record { insn = i; at = at; says = λ units known. mapped_is _ (target_of unit i) (negsuc n) leads } in
    (told, tt)
target_told program unit i (pos target) at leads =
    let back : IsTold program BackJump unit = record { insn = i; at = at; says = λ units known. mapped_is _ (target_of unit i) (pos target) leads } in
    let out : IsTold program JumpOut unit = record { insn = i; at = at; says = λ units known. mapped_is _ (target_of unit i) (pos target) leads } in
    let inside : IsTold program JumpInWide unit = record { insn = i; at = at; says = λ units known. mapped_is _ (target_of unit i) (pos target) leads } in
    (back, (out, (inside, tt)))

jump_told : (program : List Insn) (unit : ℕ) (i : Insn) → instruction_at program unit ≡ Some i → EachTold program (jump_checks program unit i)
jump_told program unit (Jump distance) at = target_told program unit (Jump distance) (pos (unit + 1) +ℤ distance) at refl
jump_told program unit (LongJump distance) at = target_told program unit (LongJump distance) (pos (unit + 1) +ℤ distance) at refl
jump_told program unit (Branch w condition dst operand distance) at = target_told program unit (Branch w condition dst operand distance) (pos (unit + 1) +ℤ distance) at refl
jump_told program unit i at = tt

jumps_told : (program : List Insn) (unit : ℕ) (is : List Insn) → IsRest program unit is → EachTold program (checks_from program unit is)
jumps_told program unit [] rest = tt
jumps_told program unit (i ∷ is) rest =
    told-append program (jump_checks program unit i) (checks_from program (unit + units_of i) is) (jump_told program unit i (rest_first program unit i is rest))
    (jumps_told program (unit + units_of i) is (rest_next program unit i is rest))

-- ---- the last instruction

last_told : (program : List Insn) (unit : ℕ) (is : List Insn) → IsRest program unit is → EachTold program (last_checks unit is)
last_told program unit [] rest = tt
last_told program unit (i ∷ []) rest = (record { insn = i; at = rest_first program unit i [] rest; says = λ units known. refl }, tt)
last_told program unit (i ∷ j ∷ is) rest = last_told program (unit + units_of i) (j ∷ is) (rest_next program unit i (j ∷ is) rest)

-- ---- a program

pub structure_told : (program : List Insn) → FaultTold program (structural_fault program)
structure_told program =
    first_told program (checks_from program 0 program ++ last_checks 0 program)
    (told-append program (checks_from program 0 program) (last_checks 0 program) (jumps_told program 0 program whole) (last_told program 0 program whole))
  where
    whole : IsRest program 0 program
    whole v = let e : 0 + v ≡ v = omega arith in ap (λ (u : ℕ). instruction_at program u) e
