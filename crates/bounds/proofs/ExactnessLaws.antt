-- The tolerance of OM(m) with the majority rule is exact.
use Rattle.std.proofs.Common.{ℕ, suc, ◌+◌, ◌-◌, ◌*◌, ◌<◌, ◌≤◌, ◌≡◌, true, false, List, [], ◌∷◌, ◌++◌, length, take, refl, sym, arith, inl, inr, length-append}
use Rattle.std.specs.Prelude.{count_by, ◌==◌}
use Rattle.std.proofs.lemmas.Bool.{cases_eq, cases_lt, or_left, eq-eqb, false_from_ne_true, true≢false, eqb-false, or_parts}
use Rattle.std.proofs.lemmas.List.{length-take-le}
use Rattle.std.proofs.lemmas.List.FromFn.{length-range_with_len}
use Rattle.combine.specs.Rule.{majority}
use Rattle.combine.specs.Laws.{majority_is_rule}
use Rattle.label.specs.Labels.{on, is_distinct, generals, others}
use Rattle.label.specs.Oral.{AllBelow, BeginsWith, om, IsLoyalLieutenant, Agree}
use Rattle.label.proofs.Counting.{others-on, others-distinct}
use Rattle.label.proofs.Ranks.{others-count}
use Rattle.bounds.proofs.ListParts.{on-take, distinct-take, distinct-join, below-join, off-first, Member, member, both_sides}
use Rattle.bounds.proofs.Induction.{proved_tolerance}
use Rattle.bounds.proofs.DenialLaws.{proved_denial_breaks}
use Rattle.bounds.proofs.DivisionLaws.{proved_division_breaks}
use Rattle.bounds.specs.Denial.{denial}
use Rattle.bounds.specs.Division.{division}
use Rattle.bounds.specs.Tolerance.{Tolerates, ToleranceIsExact}

-- A list of k lieutenants of the commander 0, with at least one more lieutenant.
record Deniers (n k : ℕ) : Type 0 where
  list : List ℕ
  count : count_by (on list) (generals n) ≡ k
  loyal : on list 0 ≡ false
  other : ℕ
  is : IsLoyalLieutenant n 0 (on list) other

deniers : (n k : ℕ) → k + 2 ≤ n → Deniers n k
deniers n k room =
    let inside : 0 < n = omega arith in
    let all : length (others n (0 ∷ [])) + 1 ≡ n = others-count n (0 ∷ []) refl (inside, tt) in
    let size : length (take k (others n (0 ∷ []))) ≡ k = length-take-le k (others n (0 ∷ [])) (omega arith) in
    let within : (j : ℕ) → on (take k (others n (0 ∷ []))) j ≡ true → (j < n) × (on (0 ∷ []) j ≡ false) = λ j h. others-on n (0 ∷ []) j (on-take k (others n (0 ∷ [])) j h) in
    let distinct : is_distinct (take k (others n (0 ∷ []))) ≡ true = distinct-take k (others n (0 ∷ [])) (others-distinct n (0 ∷ [])) in
    let below : AllBelow n ([] ++ take k (others n (0 ∷ []))) = below-join n [] (take k (others n (0 ∷ []))) tt (λ j h. (within j h).0) in
    let rest : length (others n (take k (others n (0 ∷ [])))) + length (take k (others n (0 ∷ []))) ≡ n = others-count n (take k (others n (0 ∷ []))) distinct below in
    let joined : length (others n ((0 ∷ []) ++ take k (others n (0 ∷ [])))) + length ((0 ∷ []) ++ take k (others n (0 ∷ []))) ≡ n =
    others-count n ((0 ∷ []) ++ take k (others n (0 ∷ []))) (distinct-join (0 ∷ []) (take k (others n (0 ∷ []))) refl distinct (λ j h. (within j h).1)) (below-join n (0 ∷ []) (take k (others n (0 ∷ []))) (inside, tt) (λ j h. (within j h).0))
    in
    let sum : length ((0 ∷ []) ++ take k (others n (0 ∷ []))) ≡ 1 + length (take k (others n (0 ∷ []))) = length-append (0 ∷ []) (take k (others n (0 ∷ []))) in
    let p : Member (others n ((0 ∷ []) ++ take k (others n (0 ∷ [])))) = member (others n ((0 ∷ []) ++ take k (others n (0 ∷ [])))) (omega arith) in
    let p' = others-on n ((0 ∷ []) ++ take k (others n (0 ∷ []))) p.it p.is in
    let p'' = off-first (0 ∷ []) (take k (others n (0 ∷ []))) p.it p'.1 in
    record {
      list = take k (others n (0 ∷ []));
      count = omega (arith, both_sides (on (take k (others n (0 ∷ [])))) (generals n), length-range_with_len 0 n);
      loyal = false_from_ne_true (on (take k (others n (0 ∷ []))) 0) (λ h. true≢false ((within 0 h).1));
      other = p.it;
      is = record { general = p'.0; lieutenant = λ e. eqb-false 0 p.it (or_parts (0 == p.it) false p''.0).0 (sym e); loyal = p''.1 };
    }

-- Proves that too few generals do not tolerate k traitors: k lieutenants can deny the order.
outvoted : (n m k : ℕ) → 1 ≤ k → k + 2 ≤ n → 1 ≤ m → n ≤ 2 * k + m → Tolerates majority n m k → ⊥
outvoted n m k some room relays many keeps =
    let d : Deniers n k = deniers n k room in
    let count : count_by (on d.list) (generals n) ≡ k = d.count in
    let agree : Agree n 0 1 (on d.list) (om majority n (denial (on d.list)) m (0 ∷ [])) =
    keeps 0 1 (on d.list) (denial (on d.list)) (omega arith) (omega arith) (λ g l good. proved_denial_breaks.faithful (on d.list) n 0 m g good)
    in
    let one : om majority n (denial (on d.list)) m (0 ∷ []) d.other ≡ 1 = agree.obeyed d.loyal d.other d.is in
    let none : om majority n (denial (on d.list)) m (0 ∷ []) d.other ≡ 0 =
    proved_denial_breaks.disobeyed n 0 m d.other (on d.list) (record { commander = omega arith; loyal = d.loyal; relays = relays; some = omega arith; many = omega arith }) d.is
    in
    omega arith

-- Proves that too many traitors are not tolerated: m + 1 of them can divide the loyal generals.
divides : (n m k : ℕ) → m < k → k + 2 ≤ n → 2 * m ≤ n → Tolerates majority n m k → ⊥
divides n m k more room half keeps =
    let inside : 0 < n = omega arith in
    let it = proved_division_breaks.exists n 0 m inside half (omega arith) in
    let count : count_by (on it.0) (generals n) ≡ suc m = proved_division_breaks.count n 0 m it.0 it.1 in
    proved_division_breaks.broken n 0 m 0 it.0 it.1 (keeps 0 0 (on it.0) (division n it.0) inside (omega arith) (λ g l good. proved_division_breaks.faithful n 0 m 0 g it.0 (first it.0 it.1.label.first) good))
  where
    first : (w : List ℕ) → BeginsWith 0 w → on w 0 ≡ true
    first [] b = absurd b
    first (x ∷ xs) b = or_left (x == 0) (on xs 0) (eq-eqb x 0 b)

bounded : (n m k : ℕ) → 1 ≤ k → k + 2 ≤ n → Tolerates majority n m k → (k ≤ m) × (2 * k + m < n)
bounded n m k some room keeps =
    let few : k ≤ m = elim (cases_lt m k) [
      | inl more ↦ elim (cases_lt n (2 * m)) [
        | inl long ↦ absurd (outvoted n m k some room (omega arith) (omega arith) keeps)
        | inr half ↦ absurd (divides n m k more room half keeps)
      ]
      | inr few ↦ few
    ]
    in (
      few,
      elim (cases_lt (2 * k + m) n) [
        | inl enough ↦ enough
        | inr many ↦ absurd (outvoted n m k some room (omega arith) many keeps)
      ],
    )

-- Proves that if k traitors are tolerated, fewer are tolerated, too.
fewer : (n m j k : ℕ) → j ≤ k → Tolerates majority n m k → Tolerates majority n m j
fewer n m j k less keeps c order traitor M inside few faithful = keeps c order traitor M inside (omega arith) faithful

-- Proves the claim for at most one loyal general from the case of n - 2 traitors, who are not tolerated.
bounded_any : (n m k : ℕ) → 1 ≤ k → 3 ≤ n → Tolerates majority n m k → (k ≤ m) × (2 * k + m < n)
bounded_any n m k some three keeps = elim (cases_lt n (k + 2)) [
  | inl many ↦
      let both = bounded n m (n - 2) (omega arith) (omega arith) (fewer n m (n - 2) k (omega arith) keeps) in
      let few : n - 2 ≤ m = both.0 in
      let enough : 2 * (n - 2) + m < n = both.1 in
      absurd (omega arith)
  | inr room ↦ bounded n m k some room keeps
]

pub proved_tolerance_is_exact : ToleranceIsExact
proved_tolerance_is_exact n m k three = (
  λ keeps. elim (cases_eq k 0) [
    | inl none ↦ inl none
    | inr some ↦ inr (bounded_any n m k (omega arith) three keeps)
  ],
  proved_tolerance majority majority_is_rule n m k,
)
