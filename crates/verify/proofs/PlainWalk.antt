-- A plain program has no structural fault.
use Rattle.std.proofs.Common.{◌≡◌, ℕ, ◌+◌, inl, inr, List, [], ◌∷◌, None, refl, ap, arith}
use Rattle.std.specs.Prelude.{pos, ◌+ℤ◌}
use Rattle.insn.specs.declared.insn.Insn.{Insn}
use Rattle.insn.specs.declared.insn.Insn.TheVariants.{Arithmetic, Negate, SignExtend, Swap, LoadImmediate, Jump, LongJump, Branch, Load, LoadSigned, Store, Call, Exit}
use Rattle.insn.specs.Insn.{units_of}
use Rattle.insn.specs.Program.{instruction_at}
use Rattle.semantics.specs.Plain.{EndsWithExit, IsPlain}
use Rattle.verify.specs.Structure.{first_fault, jump_checks, checks_from, last_checks, structural_fault}
use Rattle.verify.specs.Forward.{LeadsForward, IsForward}
use Rattle.verify.proofs.Edges.{first_fault-none, target_clear}
use Rattle.verify.proofs.Walk.{IsRest, rest_next, rest_first}

-- An instruction whose edges lead forward has no fault.
jumps_clear : (program : List Insn) (unit : ℕ) (i : Insn) → LeadsForward program unit i → first_fault (jump_checks program unit i) ≡ None
jumps_clear program unit (Arithmetic width operation dst operand) forward = refl
jumps_clear program unit (Negate width dst) forward = refl
jumps_clear program unit (SignExtend width part dst src) forward = refl
jumps_clear program unit (Swap order size dst) forward = refl
jumps_clear program unit (LoadImmediate dst number) forward = refl
jumps_clear program unit (Jump distance) forward = target_clear program unit (pos (unit + 1) +ℤ distance) (forward (pos (unit + 1) +ℤ distance) (inl refl))
jumps_clear program unit (LongJump distance) forward = target_clear program unit (pos (unit + 1) +ℤ distance) (forward (pos (unit + 1) +ℤ distance) (inl refl))
jumps_clear program unit (Branch width condition dst operand distance) forward =
    target_clear program unit (pos (unit + 1) +ℤ distance) (forward (pos (unit + 1) +ℤ distance) (inr (inl refl)))
jumps_clear program unit (Load size dst base offset) forward = refl
jumps_clear program unit (LoadSigned part dst base offset) forward = refl
jumps_clear program unit (Store size base offset source) forward = refl
jumps_clear program unit (Call helper) forward = refl
jumps_clear program unit Exit forward = refl

checks_clear : (program is : List Insn) (unit : ℕ) → IsRest program unit is → IsForward program → first_fault (checks_from program unit is) ≡ None
checks_clear program [] unit rest forward = refl
checks_clear program (j ∷ is) unit rest forward =
    first_fault-none (jump_checks program unit j) (checks_from program (unit + units_of j) is)
    (jumps_clear program unit j (forward.edges unit j (rest_first program unit j is rest)))
    (checks_clear program is (unit + units_of j) (rest_next program unit j is rest) forward)

last_clear : (is : List Insn) (unit : ℕ) → EndsWithExit is → first_fault (last_checks unit is) ≡ None
last_clear [] unit ends = absurd ends
last_clear (i ∷ []) unit ends = rw ends refl
last_clear (i ∷ j ∷ is) unit ends = last_clear (j ∷ is) (unit + units_of i) ends

pub plain_forward : (program : List Insn) → IsPlain program → IsForward program
plain_forward program plain = record { edges = λ unit i at z e. plain.forward unit i z at e }

-- A plain program has no structural fault.
pub structure_of_plain : (program : List Insn) → IsPlain program → structural_fault program ≡ None
structure_of_plain program plain =
    first_fault-none (checks_from program 0 program) (last_checks 0 program)
    (checks_clear program program 0 (λ v. let same : 0 + v ≡ v = omega arith in ap (λ (u : ℕ). instruction_at program u) same) (plain_forward program plain))
    (last_clear program 0 plain.exit_last)
