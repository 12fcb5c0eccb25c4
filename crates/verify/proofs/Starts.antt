-- Where instructions start, and how many start from a unit on.
use Rattle.std.proofs.Common.{◌≡◌, ℕ, zero, suc, ◌+◌, ◌-◌, ◌<◌, ◌≤◌, ◌⊎◌, inl, inr, ⊎_elim, List, [], ◌∷◌, ◌++◌, Some, None, refl, sym, ap, ◌∙◌, length, replicate, slice_get, arith}
use Rattle.insn.specs.declared.insn.Insn.{Insn}
use Rattle.insn.specs.declared.insn.Insn.TheVariants.{Arithmetic, Negate, SignExtend, Swap, LoadImmediate, Jump, LongJump, Branch, Load, LoadSigned, Store, Call, Exit}
use Rattle.insn.specs.Insn.{units_of}
use Rattle.insn.specs.Program.{slots_of, joined, instruction_at}

-- An instruction has one unit or two.
units_cases : (i : Insn) → (units_of i ≡ 1) ⊎ (units_of i ≡ 2)
units_cases (Arithmetic width operation dst operand) = inl refl
units_cases (Negate width dst) = inl refl
units_cases (SignExtend width part dst src) = inl refl
units_cases (Swap order size dst) = inl refl
units_cases (LoadImmediate dst number) = inr refl
units_cases (Jump distance) = inl refl
units_cases (LongJump distance) = inl refl
units_cases (Branch width condition dst operand distance) = inl refl
units_cases (Load size dst base offset) = inl refl
units_cases (LoadSigned part dst base offset) = inl refl
units_cases (Store size base offset source) = inl refl
units_cases (Call helper) = inl refl
units_cases Exit = inl refl

-- What is at a unit if the first instruction has this number of units.
sized : (j : Insn) (is : List Insn) (n v : ℕ) → units_of j ≡ n → instruction_at (j ∷ is) v ≡ joined (slice_get (Some j ∷ (replicate (n - 1) None ++ slots_of is)) v)
sized j is n v e = ap (λ (m : ℕ). joined (slice_get (Some j ∷ (replicate (m - 1) None ++ slots_of is)) v)) e

-- After the first instruction come the others.
pub at_later : (j : Insn) (is : List Insn) (v : ℕ) → instruction_at (j ∷ is) (v + units_of j) ≡ instruction_at is v
at_later j is v = ⊎_elim
    (λ e. let one : v + units_of j ≡ suc v = omega arith in ap (λ (u : ℕ). instruction_at (j ∷ is) u) one ∙ sized j is 1 (suc v) e)
    (λ e. let two : v + units_of j ≡ suc (suc v) = omega arith in ap (λ (u : ℕ). instruction_at (j ∷ is) u) two ∙ sized j is 2 (suc (suc v)) e)
    (units_cases j)

-- An instruction is the first one, or comes after it.
abbrev pub IsFoundAt : Insn → List Insn → ℕ → Insn → Type 0
IsFoundAt j is v i = ((v ≡ 0) × (j ≡ i)) ⊎ ((w : ℕ) × (v ≡ w + units_of j) × (instruction_at is w ≡ Some i))

pub at_cases : (j : Insn) (is : List Insn) (v : ℕ) (i : Insn) → instruction_at (j ∷ is) v ≡ Some i → IsFoundAt j is v i
at_cases j is zero i at = inl (refl, cc)
at_cases j is (suc v) i at = ⊎_elim
    (λ e. let one : suc v ≡ v + units_of j = omega arith in
    inr (v, one, sym (at_later j is v) ∙ (ap (λ (u : ℕ). instruction_at (j ∷ is) u) (sym one) ∙ at)))
    (λ e. at_wide j is v i e at)
    (units_cases j)
  where
    at_wide : (j : Insn) (is : List Insn) (v : ℕ) (i : Insn) → units_of j ≡ 2 → instruction_at (j ∷ is) (suc v) ≡ Some i → IsFoundAt j is (suc v) i
    at_wide j is zero i e at = let half = sym (sized j is 2 1 e) ∙ at in absurd (cc)
    at_wide j is (suc v) i e at =
        let two : suc (suc v) ≡ v + units_of j = omega arith in
        inr (v, two, sym (at_later j is v) ∙ (ap (λ (u : ℕ). instruction_at (j ∷ is) u) (sym two) ∙ at))

abbrev pub counted_at : ℕ → ℕ
counted_at zero = 1
counted_at (suc unit) = 0

-- The number of instructions that start at the unit or after it.
abbrev pub left : List Insn → ℕ → ℕ
left [] unit = 0
left (i ∷ is) unit = counted_at unit + left is (unit - units_of i)

counted-le : (u v : ℕ) → u ≤ v → counted_at v ≤ counted_at u
counted-le zero zero le = omega arith
counted-le zero (suc v) le = omega arith
counted-le (suc u) zero le = absurd (omega arith)
counted-le (suc u) (suc v) le = omega arith

counted-later : (u v : ℕ) → u < v → counted_at v ≡ 0
counted-later u zero lt = absurd (omega arith)
counted-later u (suc v) lt = refl

-- Later there are no more of them.
pub left-le : (is : List Insn) (u v : ℕ) → u ≤ v → left is v ≤ left is u
left-le [] u v le = omega arith
left-le (i ∷ is) u v le =
    let less : u - units_of i ≤ v - units_of i = omega arith in
    let rest : left is (v - units_of i) ≤ left is (u - units_of i) = left-le is (u - units_of i) (v - units_of i) less in
    let here : counted_at v ≤ counted_at u = counted-le u v le in
    omega arith

-- After an instruction there is one fewer.
pub left-falls : (is : List Insn) (u v : ℕ) (i : Insn) → instruction_at is u ≡ Some i → u < v → left is v + 1 ≤ left is u
left-falls [] u v i at lt = absurd (cc)
left-falls (j ∷ is) u v i at lt = ⊎_elim
    (λ e. left_first j is u v e.0 lt)
    (λ e. left_behind j is u v e.0 e.1 lt (λ w less. left-falls is e.0 w i e.2 less))
    (at_cases j is u i at)
  where
    left_first : (j : Insn) (is : List Insn) (u v : ℕ) → u ≡ 0 → u < v → left (j ∷ is) v + 1 ≤ left (j ∷ is) u
    left_first j is u v e lt =
        let none : counted_at v ≡ 0 = counted-later u v lt in
        let one : counted_at u ≡ 1 = ap counted_at e in
        let rest : left is (v - units_of j) ≤ left is (u - units_of j) = left-le is (u - units_of j) (v - units_of j) (omega arith) in
        omega arith

    left_behind : (j : Insn) (is : List Insn) (u v w : ℕ) → u ≡ w + units_of j → u < v → ((x : ℕ) → w < x → left is x + 1 ≤ left is w) → left (j ∷ is) v + 1 ≤ left (j ∷ is) u
    left_behind j is u v w e lt falls =
        let none : counted_at v ≡ 0 = counted-later u v lt in
        let back : u - units_of j ≡ w = omega arith in
        let same : left is (u - units_of j) ≡ left is w = ap (λ (n : ℕ). left is n) back in
        let rest : left is (v - units_of j) + 1 ≤ left is w = falls (v - units_of j) (omega arith) in
        omega arith

-- There are at most as many as the program has.
pub left-bound : (is : List Insn) (unit : ℕ) → left is unit ≤ length is
left-bound [] unit = omega arith
left-bound (i ∷ is) zero = let rest : left is (0 - units_of i) ≤ length is = left-bound is (0 - units_of i) in omega arith
left-bound (i ∷ is) (suc unit) = let rest : left is (suc unit - units_of i) ≤ length is = left-bound is (suc unit - units_of i) in omega arith
