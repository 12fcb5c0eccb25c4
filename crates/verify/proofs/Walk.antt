-- The edges of a program without a structural fault lead forward, and a plain program has no structural fault, shown
-- instruction by instruction.
use Rattle.std.proofs.Common.{◌≡◌, ℕ, ◌+◌, ◌≤◌, ◌⊎◌, inl, inr, ⊎_elim, List, [], ◌∷◌, Option, Some, None, Bool, true, false, refl, sym, ap, subst, ◌∙◌, if◌then◌else◌, arith}
use Rattle.std.specs.Prelude.{ℤ, pos, ◌+ℤ◌, ◌<ℤ◌, IsSome}
use Rattle.std.proofs.lemmas.Int.{ints}
use Rattle.insn.specs.declared.insn.Insn.{Insn}
use Rattle.insn.specs.declared.insn.Insn.TheVariants.{Arithmetic, Negate, SignExtend, Swap, LoadImmediate, Jump, LongJump, Branch, Load, LoadSigned, Store, Call, Exit}
use Rattle.insn.specs.Insn.{units_of}
use Rattle.insn.specs.Program.{instruction_at}
use Rattle.insn.proofs.SlotLemmas.{units_some}
use Rattle.semantics.specs.Plain.{IsIn, leads_to}
use Rattle.verify.specs.declared.error.VerifyError.TheVariants.{At}
use Rattle.verify.specs.declared.reason.Reason.TheVariants.{LastNotExit}
use Rattle.verify.specs.Structure.{Check, first_fault, target_checks, jump_checks, checks_from, is_exit, last_checks, structural_fault}
use Rattle.verify.specs.Forward.{LeadsForward, IsForward}
use Rattle.verify.proofs.Starts.{at_later, at_cases}
use Rattle.verify.proofs.Edges.{first_fault-parts, target_fine}

-- An edge leads to the next instruction, or to the target of a jump.
abbrev pub IsEdgeOf : Insn → ℕ → ℤ → Type 0
IsEdgeOf i unit z = ((z ≡ pos (unit + units_of i)) × (is_exit i ≡ false)) ⊎ ((program : List Insn) → jump_checks program unit i ≡ target_checks program unit z)

one_edge : (z y : ℤ) → IsIn z (y ∷ []) → z ≡ y
one_edge z y e = ⊎_elim (λ h. h) (λ h. absurd h) e

jump_edge : (i : Insn) (unit : ℕ) (distance z : ℤ) → ((program : List Insn) → jump_checks program unit i ≡ target_checks program unit (pos (unit + 1) +ℤ distance)) →
    z ≡ pos (unit + 1) +ℤ distance → IsEdgeOf i unit z
jump_edge i unit distance z checks e = inr (λ program. checks program ∙ ap (λ (y : ℤ). target_checks program unit y) (sym e))

edge_of : (i : Insn) (unit : ℕ) (z : ℤ) → IsIn z (leads_to i unit) → IsEdgeOf i unit z
edge_of (Arithmetic width operation dst operand) unit z e = inl (one_edge z _ e, refl)
edge_of (Negate width dst) unit z e = inl (one_edge z _ e, refl)
edge_of (SignExtend width part dst src) unit z e = inl (one_edge z _ e, refl)
edge_of (Swap order size dst) unit z e = inl (one_edge z _ e, refl)
edge_of (LoadImmediate dst number) unit z e = inl (one_edge z _ e, refl)
edge_of (Jump distance) unit z e = jump_edge (Jump distance) unit distance z (λ program. refl) (one_edge z _ e)
edge_of (LongJump distance) unit z e = jump_edge (LongJump distance) unit distance z (λ program. refl) (one_edge z _ e)
edge_of (Branch width condition dst operand distance) unit z e =
    ⊎_elim (λ h. inl (h, refl)) (λ h. jump_edge (Branch width condition dst operand distance) unit distance z (λ program. refl) (one_edge z _ h)) e
edge_of (Load size dst base offset) unit z e = inl (one_edge z _ e, refl)
edge_of (LoadSigned part dst base offset) unit z e = inl (one_edge z _ e, refl)
edge_of (Store size base offset source) unit z e = inl (one_edge z _ e, refl)
edge_of (Call helper) unit z e = inl (one_edge z _ e, refl)
edge_of Exit unit z e = absurd e

-- The list has the program's instructions from the unit on.
abbrev pub IsRest : List Insn → ℕ → List Insn → Type 0
IsRest program unit is = (v : ℕ) → instruction_at program (unit + v) ≡ instruction_at is v

pub rest_next : (program : List Insn) (unit : ℕ) (j : Insn) (is : List Insn) → IsRest program unit (j ∷ is) → IsRest program (unit + units_of j) is
rest_next program unit j is rest v =
    let e : unit + units_of j + v ≡ unit + (v + units_of j) = omega arith in
    ap (λ (u : ℕ). instruction_at program u) e ∙ (rest (v + units_of j) ∙ at_later j is v)

pub rest_first : (program : List Insn) (unit : ℕ) (j : Insn) (is : List Insn) → IsRest program unit (j ∷ is) → instruction_at program unit ≡ Some j
rest_first program unit j is rest = let e : unit ≡ unit + 0 = omega arith in ap (λ (u : ℕ). instruction_at program u) e ∙ rest 0

-- After an instruction that is not the last, the next one starts.
next_starts : (program : List Insn) (unit : ℕ) (j : Insn) (is : List Insn) → IsRest program unit (j ∷ is) → first_fault (last_checks unit (j ∷ is)) ≡ None → is_exit j ≡ false →
    IsSome (instruction_at program (unit + units_of j))
next_starts program unit j [] rest last other = absurd (let bad = subst (λ (b : Bool). first_fault ((if b then false else true, At LastNotExit unit) ∷ []) ≡ None) other last in cc)
next_starts program unit j (k ∷ is) rest last other =
    let at : instruction_at program (unit + units_of j) ≡ Some k = rest_first program (unit + units_of j) k is (rest_next program unit j (k ∷ is) rest) in
    subst (λ (o : Option Insn). IsSome o) (sym at) refl

first_forward : (program : List Insn) (unit : ℕ) (j : Insn) (is : List Insn) → IsRest program unit (j ∷ is) → first_fault (jump_checks program unit j) ≡ None →
    first_fault (last_checks unit (j ∷ is)) ≡ None → LeadsForward program unit j
first_forward program unit j is rest jumps last z e = ⊎_elim
    (λ h. let some = next_starts program unit j is rest last h.1 in
    let units : 1 ≤ units_of j = units_some j in
    (subst (λ (y : ℤ). pos unit <ℤ y) (sym h.0) (omega (arith, ints)), (unit + units_of j, h.0, some)))
    (λ h. target_fine program unit z (subst (λ (checks : List Check). first_fault checks ≡ None) (h program) jumps))
    (edge_of j unit z e)

last_next : (unit : ℕ) (j k : Insn) (is : List Insn) → first_fault (last_checks unit (j ∷ k ∷ is)) ≡ None → first_fault (last_checks (unit + units_of j) (k ∷ is)) ≡ None
last_next unit j k is e = e

forward_from : (program is : List Insn) (unit : ℕ) → IsRest program unit is → first_fault (checks_from program unit is) ≡ None → first_fault (last_checks unit is) ≡ None →
    (v : ℕ) (i : Insn) → instruction_at is v ≡ Some i → LeadsForward program (unit + v) i
forward_from program [] unit rest jumps last v i at = absurd (cc)
forward_from program (j ∷ []) unit rest jumps last v i at = ⊎_elim
    (λ e. let here : unit ≡ unit + v = omega (arith, e.0) in
    subst (λ (u : ℕ). LeadsForward program u i) here (subst (λ (k : Insn). LeadsForward program unit k) e.1
    (first_forward program unit j [] rest (first_fault-parts (jump_checks program unit j) [] jumps).0 last)))
    (λ e. absurd (let none = e.2 in cc))
    (at_cases j [] v i at)
forward_from program (j ∷ k ∷ is) unit rest jumps last v i at = ⊎_elim
    (λ e. let here : unit ≡ unit + v = omega (arith, e.0) in
    subst (λ (u : ℕ). LeadsForward program u i) here (subst (λ (l : Insn). LeadsForward program unit l) e.1
    (first_forward program unit j (k ∷ is) rest (first_fault-parts (jump_checks program unit j) (checks_from program (unit + units_of j) (k ∷ is)) jumps).0 last)))
    (λ e. let there : unit + units_of j + e.0 ≡ unit + v = omega (arith, e.1) in
    subst (λ (u : ℕ). LeadsForward program u i) there
    (forward_from program (k ∷ is) (unit + units_of j) (rest_next program unit j (k ∷ is) rest)
    (first_fault-parts (jump_checks program unit j) (checks_from program (unit + units_of j) (k ∷ is)) jumps).1 (last_next unit j k is last) e.0 i e.2))
    (at_cases j (k ∷ is) v i at)

-- The edges of a program without a structural fault lead forward.
pub forward_of_structure : (program : List Insn) → structural_fault program ≡ None → IsForward program
forward_of_structure program e =
    let parts = first_fault-parts (checks_from program 0 program) (last_checks 0 program) e in
    record {
      edges = λ unit i at.
          let here : 0 + unit ≡ unit = omega arith in
          subst (λ (u : ℕ). LeadsForward program u i) here
          (forward_from program program 0 (λ v. let same : 0 + v ≡ v = omega arith in ap (λ (u : ℕ). instruction_at program u) same) parts.0 parts.1 unit i at);
    }
