-- The vote of Boyer and Moore: what the candidate and its lead mean for the orders so far.
use Rattle.std.proofs.Common.{ℕ, ◌+◌, ◌-◌, ◌*◌, ◌<◌, ◌≤◌, ◌≡◌, ◌≢◌, cond, List, [], ◌∷◌, ◌++◌, length, refl, sym, ◌∙◌, arith, inl, inr, ◌⊎◌}
use Rattle.std.specs.Prelude.{count_by, ◌==◌}
use Rattle.std.proofs.lemmas.Bool.{cases_eq, cond-true, cond-false, eq-eqb, ne_eqb}
use Rattle.std.proofs.lemmas.List.{length_push}
use Rattle.std.proofs.lemmas.List.Sums.{sum_by-append}

-- States that no other order occurs more often than the lead allows, and that the candidate does not either.
pub record Leads (xs : List ℕ) (candidate lead : ℕ) : Type 0 where
  pub others : (v : ℕ) → v ≢ candidate → 2 * count_by (λ x. x == v) xs + lead ≤ length xs
  pub own : 2 * count_by (λ x. x == candidate) xs ≤ length xs + lead
  pub small : lead ≤ length xs

count-same : (v x : ℕ) (xs : List ℕ) → x ≡ v → count_by (λ y. y == v) (xs ++ x ∷ []) ≡ count_by (λ y. y == v) xs + 1
count-same v x xs e = let one : cond {A = ℕ} (x == v) 1 0 ≡ 1 = cond-true (x == v) 1 0 (eq-eqb x v e) in omega (arith, sum_by-append (λ y. cond (y == v) 1 0) xs (x ∷ []))

count-other : (v x : ℕ) (xs : List ℕ) → x ≢ v → count_by (λ y. y == v) (xs ++ x ∷ []) ≡ count_by (λ y. y == v) xs
count-other v x xs ne = let none : cond {A = ℕ} (x == v) 1 0 ≡ 0 = cond-false (x == v) 1 0 (ne_eqb x v ne) in omega (arith, sum_by-append (λ y. cond (y == v) 1 0) xs (x ∷ []))

pub leads-none : (candidate : ℕ) → Leads [] candidate 0
leads-none candidate = record { others = λ v ne. omega arith; own = omega arith; small = omega arith }

few : (xs : List ℕ) (candidate v : ℕ) → Leads xs candidate 0 → 2 * count_by (λ x. x == v) xs ≤ length xs
few xs candidate v l = elim (cases_eq v candidate) [ inl same ↦ (let h = l.own in rw same (omega arith)) | inr ne ↦ (let h = l.others v ne in omega arith) ]

pub leads-new : (xs : List ℕ) (candidate lead x : ℕ) → Leads xs candidate lead → lead ≡ 0 → Leads (xs ++ x ∷ []) x 1
leads-new xs candidate lead x l z =
    let l0 : Leads xs candidate 0 = rw z at l in
    record {
      others = λ v ne. let h = few xs candidate v l0 in let n = length_push xs x in let c = count-other v x xs (λ e. ne (sym e)) in omega arith;
      own = let h = few xs candidate x l0 in let n = length_push xs x in let c = count-same x x xs refl in omega arith;
      small = let n = length_push xs x in omega arith;
    }

pub leads-same : (xs : List ℕ) (candidate lead x : ℕ) → Leads xs candidate lead → x ≡ candidate → Leads (xs ++ x ∷ []) candidate (lead + 1)
leads-same xs candidate lead x l e =
    record {
      others = λ v ne. let h = l.others v ne in let n = length_push xs x in let c = count-other v x xs (λ f. ne (sym f ∙ e)) in omega arith;
      own = let h = l.own in let n = length_push xs x in let c = count-same candidate x xs e in omega arith;
      small = let h = l.small in let n = length_push xs x in omega arith;
    }

pub leads-other : (xs : List ℕ) (candidate lead x : ℕ) → Leads xs candidate lead → x ≢ candidate → lead ≢ 0 → Leads (xs ++ x ∷ []) candidate (lead - 1)
leads-other xs candidate lead x l ne some =
    record {
      others = λ v apart. let h = l.others v apart in let n = length_push xs x in
          elim (cases_eq x v) [ inl same ↦ (let c = count-same v x xs same in omega arith) | inr other ↦ (let c = count-other v x xs other in omega arith) ];
      own = let h = l.own in let n = length_push xs x in let c = count-other candidate x xs ne in omega arith;
      small = let h = l.small in let n = length_push xs x in omega arith;
    }

pub leads-only : (xs : List ℕ) (candidate lead v : ℕ) → Leads xs candidate lead → length xs < 2 * count_by (λ x. x == v) xs → candidate ≡ v
leads-only xs candidate lead v l most = elim (cases_eq v candidate) [ inl same ↦ sym same | inr ne ↦ absurd (let h = l.others v ne in omega arith) ]

-- States which candidate leads when the next order is looked at.
abbrev pub Led : ℕ → ℕ → ℕ → ℕ → Type 0
Led candidate lead x next = ((lead ≡ 0) × (next ≡ x)) ⊎ ((lead ≢ 0) × (next ≡ candidate))

pub leads-up : (xs : List ℕ) (candidate lead x next : ℕ) → Leads xs candidate lead → Led candidate lead x next → x ≡ next → Leads (xs ++ x ∷ []) next (lead + 1)
leads-up xs candidate lead x next l led e =
    elim led [
      | inl new ↦ rw (new.1, new.0) (leads-new xs candidate lead x l new.0)
      | inr old ↦ rw old.1 (leads-same xs candidate lead x l (e ∙ old.1))
    ]

pub leads-down : (xs : List ℕ) (candidate lead x next : ℕ) → Leads xs candidate lead → Led candidate lead x next → x ≢ next → (0 < lead) × Leads (xs ++ x ∷ []) next (lead - 1)
leads-down xs candidate lead x next l led ne =
    elim led [
      | inl new ↦ absurd (ne (sym new.1))
      | inr old ↦ (let h = old.0 in omega arith, rw old.1 (leads-other xs candidate lead x l (λ e. ne (e ∙ sym old.1)) old.0))
    ]
