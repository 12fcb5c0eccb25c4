-- Each rejection for a register that is read has a sentence: a register may be unset, or is a pointer.
use Rattle.std.proofs.Common.{◌≡◌, ◌⊎◌, inl, inr, ℕ, List, [], ◌∷◌, Bool, true, false, Option, Some, None, refl}
use Rattle.std.specs.Prelude.{is_none, IsSome, if◌then◌else◌}
use Rattle.std.specs.Option.{option_or}
use Rattle.word.specs.declared.Width.{Width}
use Rattle.word.specs.declared.Operation.{Operation}
use Rattle.word.specs.declared.Operation.TheVariants.{Move}
use Rattle.insn.specs.declared.insn.Insn.{Insn}
use Rattle.insn.specs.declared.insn.Operand.{Operand}
use Rattle.insn.specs.declared.insn.Operand.TheVariants.{Register, Immediate}
use Rattle.absval.specs.declared.number_set.NumberSet.{NumberSet}
use Rattle.absval.specs.declared.value.AbsVal.{AbsVal}
use Rattle.absval.specs.declared.value.AbsVal.TheVariants.{Unset, Number, Pointer}
use Rattle.absval.specs.Table.{mapped, computed}
use Rattle.verify.specs.declared.reason.Reason.{Reason}
use Rattle.verify.specs.declared.reason.Reason.TheVariants as reason
use Rattle.verify.specs.declared.state.AbsState.{AbsState}
use Rattle.verify.specs.Registers.{known_at, operand_known, first_known}
use Rattle.verify.specs.Reasons.{Check, first_reason, is_unset, is_pointer, made_checks}
use Rattle.helper.specs.Reads.{of_operand, of_first}
use Rattle.explain.specs.Shortfalls.{unset_if, unset_at, first_unset, pointer_if, pointer_at, first_pointer, compared_if, compared_at, shortfall}

-- ---- one of two

pub or_first : {X : Type 0} (a b : Option X) → IsSome a → IsSome (option_or a b)
or_first None b h = absurd cc
or_first (Some x) b h = refl

pub or_second : {X : Type 0} (a b : Option X) → IsSome b → IsSome (option_or a b)
or_second None b h = h
or_second (Some x) b h = refl

-- ---- checks one after another

-- If there is this reason, it has a sentence.
abbrev pub Told : Insn → AbsState → Option Reason → Type 0
Told i a None = Unit {0}
Told i a (Some r) = IsSome (shortfall r i a)

-- If a check gives a reason and those before it do not, the reason has a sentence.
abbrev pub EachTold : Insn → AbsState → List Check → Type 0
EachTold i a [] = Unit {0}
EachTold i a (check ∷ checks) = (check.0 ≡ true → IsSome (shortfall check.1 i a)) × (check.0 ≡ false → EachTold i a checks)

pub first_told : (i : Insn) (a : AbsState) (checks : List Check) → EachTold i a checks → Told i a (first_reason checks)
first_told i a [] h = tt
first_told i a (check ∷ checks) h = by_test check.0 h.0 (λ e. first_told i a checks (h.1 e))
  where
    by_test : (t : Bool) → (t ≡ true → IsSome (shortfall check.1 i a)) → (t ≡ false → Told i a (first_reason checks)) → Told i a (if t then Some check.1 else first_reason checks)
    by_test true here next = here refl
    by_test false here next = next refl

-- ---- what is unset

unset_found : (r : ℕ) (value : AbsVal) → is_unset value ≡ true → IsSome (unset_if r value)
unset_found r Unset h = refl
unset_found r (Number n) h = absurd cc
unset_found r (Pointer region o) h = absurd cc

pub register_unset : (registers : List AbsVal) (r : ℕ) → is_unset (known_at registers r) ≡ true → IsSome (unset_at registers (Some r))
register_unset registers r h = unset_found r (known_at registers r) h

pub first_known_unset : (registers : List AbsVal) (operation : Operation) (dst : ℕ) → is_unset (first_known registers operation dst) ≡ true → IsSome (unset_at registers (of_first operation dst))
first_known_unset registers Move dst h = absurd cc
first_known_unset registers _ dst h = register_unset registers dst h

pub operand_unset : (registers : List AbsVal) (operand : Operand) → is_unset (operand_known registers operand) ≡ true → IsSome (unset_at registers (of_operand operand))
operand_unset registers (Register r) h = register_unset registers r h
operand_unset registers (Immediate n) h = absurd cc

-- ---- what is a pointer

pointer_found : (r : ℕ) (value : AbsVal) → is_pointer value ≡ true → IsSome (pointer_if r value)
pointer_found r Unset h = absurd cc
pointer_found r (Number n) h = absurd cc
pointer_found r (Pointer region o) h = refl

pub register_pointer : (registers : List AbsVal) (r : ℕ) → is_pointer (known_at registers r) ≡ true → IsSome (pointer_at registers (Some r))
register_pointer registers r h = pointer_found r (known_at registers r) h

pub first_known_pointer : (registers : List AbsVal) (operation : Operation) (dst : ℕ) → is_pointer (first_known registers operation dst) ≡ true → IsSome (pointer_at registers (of_first operation dst))
first_known_pointer registers Move dst h = absurd cc
first_known_pointer registers _ dst h = register_pointer registers dst h

pub operand_pointer : (registers : List AbsVal) (operand : Operand) → is_pointer (operand_known registers operand) ≡ true → IsSome (pointer_at registers (of_operand operand))
operand_pointer registers (Register r) h = register_pointer registers r h
operand_pointer registers (Immediate n) h = absurd cc

compared_found : (r : ℕ) (value : AbsVal) → is_pointer value ≡ true → IsSome (compared_if r value)
compared_found r Unset h = absurd cc
compared_found r (Number n) h = absurd cc
compared_found r (Pointer region o) h = refl

pub register_compared : (registers : List AbsVal) (r : ℕ) → is_pointer (known_at registers r) ≡ true → IsSome (compared_at registers (Some r))
register_compared registers r h = compared_found r (known_at registers r) h

pub operand_compared : (registers : List AbsVal) (operand : Operand) → is_pointer (operand_known registers operand) ≡ true → IsSome (compared_at registers (of_operand operand))
operand_compared registers (Register r) h = register_compared registers r h
operand_compared registers (Immediate n) h = absurd cc

-- ---- if an operation has no result, an operand is a pointer

numbers_computed : (w : Width) (operation : Operation) (m n : NumberSet) → is_none (computed w operation (Number m) (Number n)) ≡ false
numbers_computed w Move m n = refl
numbers_computed w _ m n = refl

pub computed_pointer : (w : Width) (operation : Operation) (x y : AbsVal) → is_unset x ≡ false → is_unset y ≡ false → is_none (computed w operation x y) ≡ true →
    (is_pointer x ≡ true) ⊎ (is_pointer y ≡ true)
computed_pointer w operation Unset y e f h = absurd cc
computed_pointer w operation (Pointer region o) y e f h = inl refl
computed_pointer w operation (Number m) Unset e f h = absurd cc
computed_pointer w operation (Number m) (Pointer region o) e f h = inr refl
computed_pointer w operation (Number m) (Number n) e f h = let some = numbers_computed w operation m n in absurd cc

mapped_pointer : (f : NumberSet → NumberSet) (x : AbsVal) → is_unset x ≡ false → is_none (mapped f x) ≡ true → is_pointer x ≡ true
mapped_pointer f Unset e h = absurd cc
mapped_pointer f (Number n) e h = absurd cc
mapped_pointer f (Pointer region o) e h = refl

-- ---- instructions that map a number to a number

pub one_unset : (registers : List AbsVal) (r : ℕ) → is_unset (known_at registers r) ≡ true → IsSome (first_unset registers (Some r ∷ None ∷ None ∷ []))
one_unset registers r h = or_first (unset_at registers (Some r)) None (register_unset registers r h)

pub one_pointer : (registers : List AbsVal) (r : ℕ) → is_pointer (known_at registers r) ≡ true → IsSome (first_pointer registers (Some r ∷ None ∷ None ∷ []))
one_pointer registers r h = or_first (pointer_at registers (Some r)) None (register_pointer registers r h)

pub made_told : (i : Insn) (a : AbsState) (dst r : ℕ) (f : NumberSet → NumberSet) → (is_unset (known_at a.registers r) ≡ true → IsSome (shortfall reason.Unset i a)) →
    (is_pointer (known_at a.registers r) ≡ true → IsSome (shortfall reason.PointerUse i a)) → Told i a (first_reason (made_checks dst (known_at a.registers r) (mapped f (known_at a.registers r))))
made_told i a dst r f unset pointer =
    first_told i a (made_checks dst (known_at a.registers r) (mapped f (known_at a.registers r)))
    (unset, λ e. (λ g. refl, λ g. (λ h. pointer (mapped_pointer f (known_at a.registers r) e h), λ h. tt)))
