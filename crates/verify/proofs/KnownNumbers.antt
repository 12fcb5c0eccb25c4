-- Registers that are known to hold numbers, and the checks that accept them.
use Rattle.std.proofs.Common.{◌≡◌, inl, inr, ℕ, ◌<◌, List, [], ◌∷◌, ◌++◌, arith, refl, sym, Bool, true, false, Option, Some, None, eqb-true}
use Rattle.std.specs.Prelude.{◌==◌, if◌then◌else◌}
use Rattle.word.specs.declared.Operation.{Operation}
use Rattle.word.specs.declared.Operation.TheVariants.{Move}
use Rattle.insn.specs.declared.insn.Operand.{Operand}
use Rattle.insn.specs.declared.insn.Operand.TheVariants.{Register, Immediate}
use Rattle.insn.specs.Insn.{IsOperand}
use Rattle.semantics.specs.Plain.{IsIn, operand_reads, first_reads}
use Rattle.absval.specs.Contains.{is_number}
use Rattle.absval.proofs.NumberRows.{AreNumbers}
use Rattle.verify.specs.declared.reason.Reason.TheVariants as reason
use Rattle.verify.specs.declared.reason.Reason.TheVariants.{FrameWrite}
use Rattle.verify.specs.Registers.{known_at, operand_known, first_known}
use Rattle.verify.specs.Reasons.{first_reason, is_unset, made_checks, write_checks, compare_checks, exit_checks}
use Rattle.absval.specs.declared.value.AbsVal.TheVariants.{Unset, Number, Pointer}
use Rattle.absval.specs.declared.value.AbsVal.{AbsVal}

-- The register is known to hold a number.
abbrev pub number_at : List AbsVal → ℕ → Bool
number_at known r = is_number (known_at known r)

pub true_or_not : (b : Bool) → (b ≡ false → ⊥) → b ≡ true
true_or_not true h = refl
true_or_not false h = absurd (h refl)

-- ---- what is read is a number

abbrev pub AllKnown : List ℕ → List AbsVal → Type 0
AllKnown rs known = (r : ℕ) → r < 11 → IsIn r rs → number_at known r ≡ true

pub operand_numbers : (known : List AbsVal) (operand : Operand) → IsOperand operand → AllKnown (operand_reads operand) known → is_number (operand_known known operand) ≡ true
operand_numbers known (Register r) well all = all r (omega (arith, well)) (inl refl)
operand_numbers known (Immediate n) well all = refl

pub first_numbers : (known : List AbsVal) (operation : Operation) (dst : ℕ) → dst < 11 → AllKnown (first_reads operation dst) known → is_number (first_known known operation dst) ≡ true
first_numbers known Move dst lt all = refl
first_numbers known operation dst lt all = all dst lt (inl refl)

pub left_in : (rs ss : List ℕ) (r : ℕ) → IsIn r rs → IsIn r (rs ++ ss)
left_in [] ss r h = absurd h
left_in (x ∷ rs) ss r (inl e) = inl e
left_in (x ∷ rs) ss r (inr h) = inr (left_in rs ss r h)

pub right_in : (rs ss : List ℕ) (r : ℕ) → IsIn r ss → IsIn r (rs ++ ss)
right_in [] ss r h = h
right_in (x ∷ rs) ss r h = inr (right_in rs ss r h)

-- ---- the checks accept it

pub made_none : (dst : ℕ) (value : AbsVal) (made : Option AbsVal) → is_number value ≡ true → (dst ≡ 10 → ⊥) → AreNumbers made → first_reason (made_checks dst value made) ≡ None
made_none dst Unset made h other k = absurd cc
made_none dst (Pointer region o) made h other k = absurd cc
made_none dst (Number n) None h other k = absurd k
made_none dst (Number n) (Some e) h other k = by_test (dst == 10) refl
  where
    by_test : (t : Bool) → t ≡ (dst == 10) → (if t then Some FrameWrite else None) ≡ None
    by_test true e = absurd (other (eqb-true dst 10 (sym e)))
    by_test false e = refl

pub arithmetic_none : (first : AbsVal) (dst : ℕ) (value : AbsVal) (made : Option AbsVal) → is_number first ≡ true → first_reason (made_checks dst value made) ≡ None →
    first_reason ((is_unset first, reason.Unset) ∷ made_checks dst value made) ≡ None
arithmetic_none Unset dst value made h k = absurd cc
arithmetic_none (Pointer region o) dst value made h k = absurd cc
arithmetic_none (Number n) dst value made h k = k

pub write_none : (dst : ℕ) → (dst ≡ 10 → ⊥) → first_reason (write_checks dst) ≡ None
write_none dst other = by_test (dst == 10) refl
  where
    by_test : (t : Bool) → t ≡ (dst == 10) → (if t then Some FrameWrite else None) ≡ None
    by_test true e = absurd (other (eqb-true dst 10 (sym e)))
    by_test false e = refl

pub compare_none : (a b : AbsVal) → is_number a ≡ true → is_number b ≡ true → first_reason (compare_checks a b) ≡ None
compare_none (Number m) (Number n) h k = refl
compare_none Unset b h k = absurd cc
compare_none (Pointer region o) b h k = absurd cc
compare_none (Number m) Unset h k = absurd cc
compare_none (Number m) (Pointer region o) h k = absurd cc

pub exit_none : (a : AbsVal) → is_number a ≡ true → first_reason (exit_checks a) ≡ None
exit_none (Number m) h = refl
exit_none Unset h = absurd cc
exit_none (Pointer region o) h = absurd cc
