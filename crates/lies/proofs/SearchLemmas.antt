-- The search over the sets of traitors, and what it shows.
use Rattle.std.proofs.Common.{ℕ, ◌<◌, ◌≤◌, ◌≡◌, Bool, true, cond, List, refl, sym, ap, ◌∙◌, arith, inl, inr, Option, None, Some}
use Rattle.std.specs.Prelude.{count_by, filter}
use Rattle.std.proofs.lemmas.Bool.{cases_lt, cases_order, eq-eqb}
use Rattle.combine.specs.declared.campaign_rule.Rule.{Rule}
use Rattle.combine.specs.Rule.{combined_by}
use Rattle.label.specs.Labels.{on, generals}
use Rattle.label.specs.Oral.{Messages}
use Rattle.label.proofs.Counting.{range-on_within}
use Rattle.lies.specs.Asked.{IsAsked, ToleratesAsked, first_asked}
use Rattle.lies.specs.Attempts.{attempts, NoneCheaper, NoneCheaperAmong}
use Rattle.lies.specs.Break.{Breaks, IsShortest, ToleratesUnder, attacks_in}
use Rattle.lies.specs.BreakTrees.{messages_of}
use Rattle.lies.specs.Search.{IsFoundAmong}
use Rattle.lies.specs.declared.attempt.Success.{Success}
use Rattle.lies.specs.declared.found.Found.{Found}
use Rattle.lies.proofs.Agreement.{NoneWithin, agree_below, none_tolerated, listed_traitor}
use Rattle.lies.proofs.BreakLemmas.{IsBreak, break_is}
use Rattle.lies.proofs.Costs.{sum_same}

-- Proves that no attempt succeeds by as few orders, if nothing cheaper was found.
none_within : (f : List ℕ → ℕ) (n m c limit : ℕ) (traitors : List ℕ) (found : Option Success) → NoneCheaper f n m c traitors (attempts n c traitors) found → ((s : Success) → found ≡ Some s → limit < s.attacks) → NoneWithin f n m c traitors limit
none_within f n m c limit traitors None none less attempt zs i e = absurd (clash (sym (none attempt i) ∙ e))
  where
    clash : None ≡ Some zs → ⊥
    clash h = cc
none_within f n m c limit traitors (Some s) none less attempt zs i e = (let l = less s refl in let h = none attempt zs i e in omega arith)

-- States that no attempt by this many traitors succeeds.
abbrev pub NoneAt : (List ℕ → ℕ) → ℕ → ℕ → ℕ → ℕ → Type 0
NoneAt f n m c count = (t : ℕ → Bool) → count_by t (generals n) ≡ count → NoneCheaperAmong f n m c None (filter t (generals n))

-- Proves that each break costs at least as much as the cheapest that was found.
rival_costs : (rule : Rule) (n m c order limit : ℕ) (t : ℕ → Bool) (N : Messages) (found : Option Success) → c < n → NoneCheaperAmong (combined_by rule) n m c found (filter t (generals n)) → Breaks (combined_by rule) n m c order t N
    → ((s : Success) → found ≡ Some s → limit ≤ s.attacks) → limit ≤ attacks_in n m c t N
rival_costs rule n m c order limit t N found inside none breaks least = elim (cases_lt (attacks_in n m c t N) limit) [
  | inr more ↦ more
  | inl less ↦ absurd (breaks.broken
      (agree_below rule n m c (attacks_in n m c t N) t inside
      (none_within (combined_by rule) n m c (attacks_in n m c t N) (filter t (generals n)) found none (λ s e. (let l = least s e in omega arith)))
      order N (record { few = omega arith; faithful = breaks.faithful })))
]

-- Proves that there is no break by these traitors, if no attempt succeeds.
none_rival : (rule : Rule) (n m c order : ℕ) (t : ℕ → Bool) (N : Messages) → c < n → NoneCheaperAmong (combined_by rule) n m c None (filter t (generals n)) → Breaks (combined_by rule) n m c order t N → ⊥
none_rival rule n m c order t N inside none breaks = breaks.broken
    (agree_below rule n m c (attacks_in n m c t N) t inside
    (none_within (combined_by rule) n m c (attacks_in n m c t N) (filter t (generals n)) None none (λ s e. absurd (clash s e)))
    order N (record { few = omega arith; faithful = breaks.faithful }))
  where
    clash : (s : Success) → None ≡ Some s → ⊥
    clash s e = cc

-- Proves that the list of the traitors has as many generals as there are traitors.
listed_count : (n : ℕ) (t : ℕ → Bool) → count_by (on (filter t (generals n))) (generals n) ≡ count_by t (generals n)
listed_count n t =
    sum_same (λ j. cond (on (filter t (generals n)) j) 1 0) (λ j. cond (t j) 1 0) (generals n)
    (λ j i. ap (λ (b : Bool). cond {A = ℕ} b 1 0) (listed_traitor n t j (below n j i)))
  where
    below : (n j : ℕ) → on (generals n) j ≡ true → j < n
    below n j i = (let h = range-on_within 0 n j i in omega arith)

-- Proves how many traitors the break that was found has.
pub listed_many : (f : List ℕ → ℕ) (n m c count : ℕ) (found : Found) → IsFoundAmong f n m c count found → count_by (on found.traitors.items) (generals n) ≡ count
listed_many f n m c count found is = ap (λ (ts : List ℕ). count_by (on ts) (generals n)) is.listed ∙ (listed_count n is.traitor ∙ is.many)

-- Proves that the break that was found under the commander c is shortest, among those under the commander d.
pub found_shortest : (rule : Rule) (n m d c count : ℕ) (found : Found) → d < n → ((k : ℕ) → k < count → NoneAt (combined_by rule) n m d k) → IsFoundAmong (combined_by rule) n m c count found
    → ((t : ℕ → Bool) → count_by t (generals n) ≡ count → NoneCheaperAmong (combined_by rule) n m d (Some found.success) (filter t (generals n)))
    → IsShortest (combined_by rule) n m d c (on found.traitors.items) (messages_of (combined_by rule) n m c found)
found_shortest rule n m d c count found inside none is least order rival N breaks =
    let own : count_by (on found.traitors.items) (generals n) ≡ count = ap (λ (ts : List ℕ). count_by (on ts) (generals n)) is.listed ∙ (listed_count n is.traitor ∙ is.many) in
    let b : IsBreak (combined_by rule) n m c found.traitors.items found.success.attempt found.success.attacks = break_is (combined_by rule) n m c found.traitors.items found.success is.succeeds in
    let cheap = b.cheap in
    elim (cases_order count (count_by rival (generals n))) [
      | inl same ↦
          let more : found.success.attacks ≤ attacks_in n m d rival N =
          rival_costs rule n m d order found.success.attacks rival N (Some found.success) inside (least rival (sym same)) breaks (λ s e. (let h : found.success.attacks ≡ s.attacks = ap (λ (r : Success). r.attacks) (some_same found.success s e) in omega arith))
          in
          inr (own ∙ same, omega arith)
      | inr other ↦ elim other [
        | inl fewer ↦ inl (omega arith)
        | inr more ↦ absurd (none_rival rule n m d order rival N inside (none (count_by rival (generals n)) more rival refl) breaks)
      ]
    ]
  where
    some_same : (s r : Success) → Some s ≡ Some r → s ≡ r
    some_same s r e = cc

-- Proves that the rule tolerates the traitors if no number of them up to the limit succeeds.
pub all_tolerated : (rule : Rule) (n m c most : ℕ) → c < n → ((k : ℕ) → k ≤ most → NoneAt (combined_by rule) n m c k) → ToleratesUnder (combined_by rule) n m most c
all_tolerated rule n m c most inside none = none_tolerated rule n m c most inside (λ t few. none (count_by t (generals n)) few t refl)

-- States that under no commander asked about an attempt by this many traitors succeeds.
abbrev pub NoneAsked : (List ℕ → ℕ) → ℕ → ℕ → Option ℕ → ℕ → Type 0
NoneAsked f n m given count = (c : ℕ) → IsAsked n given c → NoneAt f n m c count

-- Proves that the rule tolerates the traitors under all commanders asked about, if no number of them up to the limit
-- succeeds. A given commander is one of the generals.
pub asked_tolerated : (rule : Rule) (n m : ℕ) (given : Option ℕ) (most : ℕ) → first_asked given < n → ((k : ℕ) → k ≤ most → NoneAsked (combined_by rule) n m given k) → ToleratesAsked (combined_by rule) n m most given
asked_tolerated rule n m None most inside none = λ c order t M l few faithful.
    all_tolerated rule n m c most l (λ k le. none k le c (record { general = l; asked = refl })) order t M few faithful
asked_tolerated rule n m (Some c) most inside none =
    all_tolerated rule n m c most inside (λ k le. none k le c (record { general = inside; asked = eq-eqb c c refl }))
