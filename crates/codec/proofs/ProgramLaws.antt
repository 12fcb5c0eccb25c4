-- Bytes encode at most one program, and have at most one first fault, and none if they encode a program.
use Rattle.std.proofs.Common.{◌≡◌, ◌<◌, ◌*◌, ◌%◌, ℕ, List, [], ◌∷◌, ◌++◌, Some, None, Result, Ok, Err, length, take, drop, refl, sym, ap, ◌∙◌, arith, inl, inr, append_assoc, length-append}
use Rattle.std.specs.Prelude.{MatchResult, IsErrAnd}
use Rattle.std.proofs.lemmas.List.{take-append-drop, length-drop, length-take-le}
use Rattle.std.proofs.lemmas.Bool.{cases_lt}
use Rattle.std.specs.List.{AllByRecursion}
use Rattle.insn.specs.declared.insn.Insn.{Insn}
use Rattle.insn.specs.Insn.{IsInsn}
use Rattle.codec.specs.declared.fault.CodecFault.{CodecFault}
use Rattle.codec.specs.declared.fault.CodecError.{CodecError}
use Rattle.codec.specs.declared.fault.CodecError.TheVariants as errors
use Rattle.codec.specs.Spelling.{instruction_bytes, program_bytes}
use Rattle.codec.specs.Reading.{fields_of, fault_at}
use Rattle.codec.specs.Program.{SpellsProgram, IsFaultAt, IsFirstFault, IsAnswered}
use Rattle.codec.proofs.FrontLemmas.{insn_front, same_front, same_behind, length-instruction_bytes, units_few}
use Rattle.codec.proofs.NoFault.{no_fault}
use Rattle.codec.proofs.ProgramLemmas.{length-program_bytes}

-- Bytes that begin with a well-formed instruction have no fault there.
none_here : (i : Insn) (rest : List ℕ) → IsInsn i → fault_at (instruction_bytes i ++ rest) ≡ None
none_here i rest p = no_fault i (fields_of (instruction_bytes i ++ rest)) (drop 8 (instruction_bytes i ++ rest)) p (insn_front i rest p)

some_bytes : (i : Insn) (rest : List ℕ) → 0 < length (instruction_bytes i ++ rest)
some_bytes i rest = omega (arith, length-append (instruction_bytes i) rest, length-instruction_bytes i, units_few i)

not_here : (i : Insn) (rest bytes : List ℕ) (fault : CodecFault) → IsInsn i → bytes ≡ instruction_bytes i ++ rest → fault_at bytes ≡ Some fault → ⊥
not_here i rest bytes fault p same found =
    let none : fault_at bytes ≡ None = ap fault_at same ∙ none_here i rest p in
    let bad : None ≡ Some fault = sym none ∙ found in cc

-- If the first instructions are the same, so are the others.
pub same_program : (ps qs : List Insn) → AllByRecursion IsInsn ps → AllByRecursion IsInsn qs → program_bytes ps ≡ program_bytes qs → ps ≡ qs
same_program [] [] p q e = refl
same_program [] (j ∷ js) p q e = absurd (omega (arith, some_bytes j (program_bytes js), ap length e))
same_program (i ∷ is) [] p q e = absurd (omega (arith, some_bytes i (program_bytes is), ap length e))
same_program (i ∷ is) (j ∷ js) p q e =
    let head = same_front i j (program_bytes is) (program_bytes js) p.0 q.0 e in
    let tail = same_program is js p.1 q.1 (same_behind i j (program_bytes is) (program_bytes js) head e) in
    cc

-- There is no fault between the instructions of a program.
none_between : (ps before : List Insn) (rest : List ℕ) (fault : CodecFault) → AllByRecursion IsInsn ps → AllByRecursion IsInsn before → program_bytes ps ≡ program_bytes before ++ rest →
    0 < length rest → fault_at rest ≡ Some fault → ⊥
none_between [] [] rest fault p q e some found = omega (arith, ap length e)
none_between (i ∷ is) [] rest fault p q e some found = not_here i (program_bytes is) rest fault p.0 (sym e) found
none_between [] (j ∷ js) rest fault p q e some found =
    absurd (omega (arith, some_bytes j (program_bytes js), ap length e, length-append (program_bytes (j ∷ js)) rest))
none_between (i ∷ is) (j ∷ js) rest fault p q e some found =
    let whole : instruction_bytes i ++ program_bytes is ≡ instruction_bytes j ++ (program_bytes js ++ rest) = e ∙ append_assoc (instruction_bytes j) (program_bytes js) rest in
    let head = same_front i j (program_bytes is) (program_bytes js ++ rest) p.0 q.0 whole in
    none_between is js rest fault p.1 q.1 (same_behind i j (program_bytes is) (program_bytes js ++ rest) head whole) some found

-- The bytes are the first part and the bytes after it.
split : (bytes : List ℕ) (n : ℕ) (before : List Insn) → take n bytes ≡ program_bytes before → bytes ≡ program_bytes before ++ drop n bytes
split bytes n before e = sym (take-append-drop n bytes) ∙ ap (λ (b : List ℕ). b ++ drop n bytes) e

-- a program's bytes have no first fault
pub no_first_fault : (bytes : List ℕ) (program : List Insn) (fault : CodecFault) (unit : ℕ) → SpellsProgram bytes program → IsFirstFault bytes fault unit → ⊥
no_first_fault bytes program fault unit s f =
    let even : length bytes % 8 ≡ 0 = omega (arith, ap length s.spelled, length-program_bytes program) in
    let found = f.by_instruction even s.some s.bound in
    none_between program found.0 (drop (8 * unit) bytes) fault s.well_formed found.1.well_formed (sym s.spelled ∙ split bytes (8 * unit) found.0 found.1.spelled)
    (omega (arith, found.1.inside, length-drop (8 * unit) bytes)) found.1.found

-- The fault and the instructions before it.
record AreSame (before after : List Insn) (f g : CodecFault) : Type 0 where
  faults : f ≡ g
  places : program_bytes before ≡ program_bytes after

same_fault : (ps qs : List Insn) (xs ys : List ℕ) (f g : CodecFault) → AllByRecursion IsInsn ps → AllByRecursion IsInsn qs → program_bytes ps ++ xs ≡ program_bytes qs ++ ys →
    fault_at xs ≡ Some f → fault_at ys ≡ Some g → AreSame ps qs f g
same_fault [] [] xs ys f g p q e a b =
    let both : Some f ≡ Some g = sym a ∙ (ap fault_at e ∙ b) in
    record { faults = cc; places = refl }
same_fault [] (j ∷ js) xs ys f g p q e a b = absurd (not_here j (program_bytes js ++ ys) xs f q.0 (e ∙ append_assoc (instruction_bytes j) (program_bytes js) ys) a)
same_fault (i ∷ is) [] xs ys f g p q e a b = absurd (not_here i (program_bytes is ++ xs) ys g p.0 (sym e ∙ append_assoc (instruction_bytes i) (program_bytes is) xs) b)
same_fault (i ∷ is) (j ∷ js) xs ys f g p q e a b =
    let whole : instruction_bytes i ++ (program_bytes is ++ xs) ≡ instruction_bytes j ++ (program_bytes js ++ ys) =
    sym (append_assoc (instruction_bytes i) (program_bytes is) xs) ∙ (e ∙ append_assoc (instruction_bytes j) (program_bytes js) ys) in
    let head = same_front i j (program_bytes is ++ xs) (program_bytes js ++ ys) p.0 q.0 whole in
    let tail = same_fault is js xs ys f g p.1 q.1 (same_behind i j (program_bytes is ++ xs) (program_bytes js ++ ys) head whole) a b in
    record { faults = tail.faults; places = ap (λ (i : Insn). instruction_bytes i ++ program_bytes is) head ∙ ap (λ (b : List ℕ). instruction_bytes j ++ b) tail.places }

same_place : (bytes : List ℕ) (f g : CodecFault) (u v : ℕ) (before after : List Insn) → IsFaultAt bytes f u before → IsFaultAt bytes g v after → (f ≡ g) × (u ≡ v)
same_place bytes f g u v before after a b =
    let same = same_fault before after (drop (8 * u) bytes) (drop (8 * v) bytes) f g a.well_formed b.well_formed
    (sym (split bytes (8 * u) before a.spelled) ∙ split bytes (8 * v) after b.spelled) a.found b.found in
    let fronts : take (8 * u) bytes ≡ take (8 * v) bytes = a.spelled ∙ (same.places ∙ sym b.spelled) in
    let left : length (take (8 * u) bytes) ≡ 8 * u = length-take-le (8 * u) bytes (omega (arith, a.inside)) in
    let right : length (take (8 * v) bytes) ≡ 8 * v = length-take-le (8 * v) bytes (omega (arith, b.inside)) in
    (same.faults, omega (arith, ap length fronts, left, right))

one_fault_in : (bytes : List ℕ) (f g : CodecFault) (u v : ℕ) → IsFirstFault bytes f u → IsFirstFault bytes g v → length bytes % 8 ≡ 0 → (f ≡ g) × (u ≡ v)
one_fault_in bytes f g u v a b even = elim (cases_lt 0 (length bytes)) [
  | inl some ↦ elim (cases_lt (8 * 4096) (length bytes)) [
    | inl much ↦
        let left = a.by_count even (inr much) in
        let right = b.by_count even (inr much) in
        (left.0 ∙ sym right.0, left.1 ∙ sym right.1)
    | inr few ↦
        let left = a.by_instruction even some few in
        let right = b.by_instruction even some few in
        same_place bytes f g u v left.0 right.0 left.1 right.1
  ]
  | inr none ↦
      let left = a.by_count even (inl (omega arith)) in
      let right = b.by_count even (inl (omega arith)) in
      (left.0 ∙ sym right.0, left.1 ∙ sym right.1)
]

-- Bytes have at most one first fault.
pub one_first_fault : (bytes : List ℕ) (f g : CodecFault) (u v : ℕ) → IsFirstFault bytes f u → IsFirstFault bytes g v → (f ≡ g) × (u ≡ v)
one_first_fault bytes f g u v a b = elim (cases_lt 0 (length bytes % 8)) [
  | inl odd ↦
      let left = a.by_length (λ even. omega (arith, even, odd)) in
      let right = b.by_length (λ even. omega (arith, even, odd)) in
      (left.0 ∙ sym right.0, left.1 ∙ sym right.1)
  | inr even ↦ one_fault_in bytes f g u v a b (omega arith)
]

-- The bytes of a program are whole units.
pub whole_units : (bytes : List ℕ) (p : List Insn) → SpellsProgram bytes p → length bytes % 8 ≡ 0
whole_units bytes p s = omega (arith, ap length s.spelled, length-program_bytes p)

-- Bytes encode at most one program.
pub one_program : (bytes : List ℕ) (p q : List Insn) → SpellsProgram bytes p → SpellsProgram bytes q → p ≡ q
one_program bytes p q s t = same_program p q s.well_formed t.well_formed (sym s.spelled ∙ t.spelled)

-- If the bytes encode a program, the only error is out of memory.
pub none_answered : (bytes : List ℕ) (p : List Insn) (r : Result (List Insn) CodecError) (e : CodecError) → SpellsProgram bytes p → IsAnswered bytes e → IsErrAnd r (λ f. f ≡ e) →
    MatchResult r (λ q. q ≡ p) (λ f. f ≡ errors.Memory)
none_answered bytes p (Ok q) e s told err = absurd err
none_answered bytes p (Err f) (errors.At fault unit) s told err = absurd (no_first_fault bytes p fault unit s told)
none_answered bytes p (Err f) errors.Memory s told err = err
