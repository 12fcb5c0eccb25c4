-- A rule that is tried on list after list.
use Rattle.std.proofs.Common.{ℕ, ◌+◌, ◌*◌, ◌^◌, ◌<◌, ◌≤◌, ◌≡◌, List, length, refl, sym, ap, subst, ◌∙◌, arith, inl, inr, Option, Some, None}
use Rattle.std.specs.Prelude.{count_by, find, ◌==◌}
use Rattle.std.proofs.lemmas.Bool.{cases_lt, ltb-true}
use Rattle.combine.specs.Rule.{is_most}
use Rattle.combine.specs.Outcome.{agreed_or}
use Rattle.combine.specs.Laws.{most_found}
use Rattle.combine.specs.declared.outcome.Outcome.TheVariants.{Agreed, Divided, Middle}
use Rattle.combine.proofs.Found.{find_passes}
use Rattle.label.specs.Oral.{AllBelow}
use Rattle.rule_program.specs.Majorities.{IsMajorityOf, KeepsMajority, KeepsMajorities, LosesMajority, IsFirstLost, KeepsOfLength, IsFirstOfLength, binary}
use Rattle.rule_program.proofs.BinaryLemmas.{same_list, binary-below}

-- ---- the order in more than half of the places

agreed_is : (o : Option ℕ) (v : ℕ) → Agreed v ≡ agreed_or 0 o → o ≡ Some v
agreed_is None v e = cc
agreed_is (Some u) v e = cc

divided_is : (o : Option ℕ) (v : ℕ) → Divided v ≡ agreed_or 0 o → o ≡ None
divided_is None v e = refl
divided_is (Some u) v e = cc

middle_none : (o : Option ℕ) (v : ℕ) → Middle v ≡ agreed_or 0 o → ⊥
middle_none None v e = cc
middle_none (Some u) v e = cc

-- Proves that the order on which a list agrees is its majority.
pub agreed_majority : (xs : List ℕ) (v : ℕ) → Agreed v ≡ agreed_or 0 (find (is_most xs) xs) → IsMajorityOf xs v
agreed_majority xs v e = ltb-true (length xs) (2 * count_by (λ x. x == v) xs) (find_passes (is_most xs) xs v (agreed_is (find (is_most xs) xs) v e))

-- Proves that a divided list has no majority.
pub divided_majority : (xs : List ℕ) (u v : ℕ) → Divided u ≡ agreed_or 0 (find (is_most xs) xs) → IsMajorityOf xs v → ⊥
divided_majority xs u v e most =
    let none : find (is_most xs) xs ≡ None = divided_is (find (is_most xs) xs) u e in
    let some : find (is_most xs) xs ≡ Some v = most_found xs v most in
    cc

-- Proves that the outcome of the majority is never a median.
pub middle_majority : (xs : List ℕ) (u : ℕ) → Middle u ≡ agreed_or 0 (find (is_most xs) xs) → ⊥
middle_majority xs u e = middle_none (find (is_most xs) xs) u e

-- ---- one list

-- Proves that a rule that returns the majority keeps it.
pub kept_by : (f : List ℕ → ℕ) (xs : List ℕ) (majority : ℕ) → IsMajorityOf xs majority → f xs ≡ majority → KeepsMajority f xs
kept_by f xs majority most e v other =
    let first : find (is_most xs) xs ≡ Some majority = most_found xs majority most in
    let second : find (is_most xs) xs ≡ Some v = most_found xs v other in
    cc

-- ---- lists of one length

-- States that the rule keeps the majorities of the lists of one length whose numbers are smaller.
abbrev pub KeepsBelow : ℕ → ℕ → (List ℕ → ℕ) → Type 0
KeepsBelow size number f = (xs : List ℕ) → length xs ≡ size → AllBelow 2 xs → binary xs < number → KeepsMajority f xs

pub none_below : (size : ℕ) (f : List ℕ → ℕ) → KeepsBelow size 0 f
none_below size f xs long two small = absurd (omega arith)

pub one_below : (size number : ℕ) (f : List ℕ → ℕ) (ys : List ℕ) → KeepsBelow size number f → length ys ≡ size → AllBelow 2 ys → binary ys ≡ number → KeepsMajority f ys → KeepsBelow size (number + 1) f
one_below size number f ys before long two is kept xs long' two' small = elim (cases_lt (binary xs) number) [
  | inl earlier ↦ before xs long' two' earlier
  | inr last ↦
      let equal : binary ys ≡ binary xs = omega arith in
      let same : ys ≡ xs = same_list ys xs (long ∙ sym long') two two' equal in
      subst (λ (zs : List ℕ). KeepsMajority f zs) same kept
]

pub all_below : (size lists number : ℕ) (f : List ℕ → ℕ) → lists ≡ 2 ^ size → lists ≤ number → KeepsBelow size number f → KeepsOfLength size f
all_below size lists number f e many before xs long two =
    let small : binary xs < 2 ^ length xs = binary-below xs two in
    let power : 2 ^ length xs ≡ 2 ^ size = ap (λ (n : ℕ). 2 ^ n) long in
    before xs long two (omega arith)

pub first_of_length : (size number : ℕ) (f : List ℕ → ℕ) (ys xs : List ℕ) (majority returned : ℕ) → KeepsBelow size number f → length ys ≡ size → binary ys ≡ number → xs ≡ ys → LosesMajority f xs majority returned → IsFirstOfLength size f xs majority returned
first_of_length size number f ys xs majority returned before long is same loses = record {
  long = ap length same ∙ long;
  loses = loses;
  first = λ zs long' two small. before zs long' two (let number' : binary xs ≡ binary ys = ap binary same in omega arith);
}

-- ---- all lists

-- States that the rule keeps the majorities of all shorter lists.
abbrev pub KeepsShorter : ℕ → (List ℕ → ℕ) → Type 0
KeepsShorter size f = (xs : List ℕ) → length xs < size → AllBelow 2 xs → KeepsMajority f xs

pub none_shorter : (f : List ℕ → ℕ) → KeepsShorter 0 f
none_shorter f xs short two = absurd (omega arith)

pub one_longer : (size : ℕ) (f : List ℕ → ℕ) → KeepsShorter size f → KeepsOfLength size f → KeepsShorter (size + 1) f
one_longer size f before here xs short two = elim (cases_lt (length xs) size) [
  | inl shorter ↦ before xs shorter two
  | inr longest ↦ here xs (omega arith) two
]

pub all_kept : (most size : ℕ) (f : List ℕ → ℕ) → most + 1 ≤ size → KeepsShorter size f → KeepsMajorities most f
all_kept most size f many before xs short two = before xs (omega arith) two

pub first_of_all : (most size : ℕ) (f : List ℕ → ℕ) (xs : List ℕ) (majority returned : ℕ) → size < most + 1 → KeepsShorter size f → IsFirstOfLength size f xs majority returned → IsFirstLost most f xs majority returned
first_of_all most size f xs majority returned inside before here =
    let long = here.long in
    record {
      short = omega arith;
      loses = here.loses;
      first = λ ys two earlier. elim earlier [
        | inl shorter ↦ before ys (omega arith) two
        | inr alike ↦ here.first ys (alike.0 ∙ long) two alike.1
      ];
    }
