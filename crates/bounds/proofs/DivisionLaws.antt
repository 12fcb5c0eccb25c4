-- A chain of traitors who divide the loyal generals: the proof of the law in specs/Division.
use Rattle.std.proofs.Common.{ℕ, zero, suc, ◌+◌, ◌*◌, ◌/◌, ◌<◌, ◌≤◌, ◌≡◌, ◌≢◌, Bool, true, false, not, cond, List, [], ◌∷◌, ◌++◌, map, length, take, refl, sym, ap, ◌∙◌, arith, inl, inr, Some, length-append}
use Rattle.std.specs.Prelude.{count_by, ◌==◌}
use Rattle.std.proofs.lemmas.Bool.Decides.{eqb_tells}
use Rattle.std.proofs.lemmas.Bool.{cases_Bool, cond-true, cond-false, or_left, or_cases, or_parts, or_from, ne_eqb, eq-eqb, eqb-true, eqb-false, not-true, not-false, true≢false}
use Rattle.std.proofs.lemmas.List.{length-map, length-take-le, append-nil, append_assoc}
use Rattle.std.proofs.lemmas.List.FromFn.{length-range_with_len}
use Rattle.std.proofs.lemmas.List.Sums.{sum_by-cons}
use Rattle.combine.specs.Rule.{majority}
use Rattle.combine.specs.Laws.{majority_is_rule}
use Rattle.label.specs.Labels.{on, is_distinct, generals, others}
use Rattle.label.specs.Oral.{AllBelow, Messages, taken, heard, om, IsFaithful, Agree}
use Rattle.label.proofs.Counting.{on-push, others-on, others-length, others-distinct, majority_counts}
use Rattle.label.proofs.Ranks.{others-count}
use Rattle.bounds.proofs.VoteLemmas.{majority_zero, zeros}
use Rattle.bounds.proofs.ListParts.{others_rest, on-take, distinct-take, distinct-join, below-join, distinct-first, below-first, off-first, Member, member, both_sides}
use Rattle.bounds.specs.Division.{split_order, chain_order, division, IsTraitorChain, DivisionBreaks}

-- Proves that a general who is not on the chain relays the order that he took.
chain_order-push : (loyal chain u : List ℕ) (g p : ℕ) → on chain g ≡ false → chain_order loyal chain (u ++ g ∷ []) p ≡ chain_order loyal chain u g
unfolding chain_order
chain_order-push loyal [] [] g p o = refl
chain_order-push loyal (t ∷ later) [] g p o =
    let apart : (g == t) ≡ false = ne_eqb g t (λ e. eqb-false t g (or_parts (t == g) (on later g) o).0 (sym e)) in
    rw apart refl
chain_order-push loyal [] (x ∷ xs) g p o = refl
chain_order-push loyal (t ∷ later) (x ∷ xs) g p o =
    rw (chain_order-push loyal later xs g p (or_parts (t == g) (on later g) o).1) refl

heard-division : (n order : ℕ) (chain : List ℕ) (x : ℕ) (xs : List ℕ) (g : ℕ) → chain_order (others n chain) chain (x ∷ xs) g ≡ heard (division n chain) order (x ∷ xs) g
unfolding division
heard-division n order chain x xs g = refl

faithful : (n c rounds order g : ℕ) (chain : List ℕ) → on chain c ≡ true → on chain g ≡ false → IsFaithful n c rounds order (division n chain) g
unfolding division
faithful n c rounds order g chain bad good [] p label short within off = let e : g ≡ c = label.first in absurd (true≢false (sym bad ∙ ap (on chain) (sym e) ∙ good))
faithful n c rounds order g chain bad good (x ∷ xs) p label short within off = ap Some (chain_order-push (others n chain) chain (x ∷ xs) g p good ∙ heard-division n order chain x xs g)

-- Proves which order is sent for a label that follows the chain.
chain_order-along : (loyal later w : List ℕ) (p : ℕ) → chain_order loyal (w ++ later) w p ≡ split_order loyal later p
unfolding chain_order
chain_order-along loyal later [] p = refl
chain_order-along loyal later (x ∷ xs) p = rw (eq-eqb x x refl) (chain_order-along loyal later xs p)

-- Proves which order is sent for a label that leaves the chain.
chain_order-off : (loyal later w : List ℕ) (t j : ℕ) (u : List ℕ) (p : ℕ) → j ≢ t → chain_order loyal (w ++ t ∷ later) (w ++ j ∷ u) p ≡ split_order loyal (t ∷ later) j
unfolding chain_order
chain_order-off loyal later [] t j u p ne = rw (ne_eqb j t ne) refl
chain_order-off loyal later (x ∷ xs) t j u p ne = rw (eq-eqb x x refl) (chain_order-off loyal later xs t j u p ne)

-- Proves that if every order for the labels that begin with w is v, the decision about w is v.
steady : (M : Messages) (n k : ℕ) (w : List ℕ) (p v : ℕ) → ((u : List ℕ) (q : ℕ) → taken M (w ++ u) q ≡ v) → p < n → on w p ≡ false → om majority n M k w p ≡ v
unfolding om
steady M n zero w p v says l o = ap (λ y. taken M y p) (sym (append-nil w)) ∙ says [] p
steady M n (suc k) w p v says l o =
    let F : ℕ → ℕ = λ (j : ℕ). cond (j == p) (taken M w p) (om majority n M k (w ++ j ∷ []) p) in
    majority_is_rule (map (λ j. cond (j == p) (taken M w p) (om majority n M k (w ++ j ∷ []) p)) (others n w)) v
    (let each : (j : ℕ) → on (others n w) j ≡ true → false ≡ false → cond (j == p) (taken M w p) (om majority n M k (w ++ j ∷ []) p) ≡ v =
    λ j i z. elim (eqb_tells j p) [
      | inl same ↦ cond-true (j == p) (taken M w p) (om majority n M k (w ++ j ∷ []) p) same.0 ∙ (ap (λ y. taken M y p) (sym (append-nil w)) ∙ says [] p)
      | inr apart ↦
          cond-false (j == p) (taken M w p) (om majority n M k (w ++ j ∷ []) p) apart.0
          ∙ steady M n k (w ++ j ∷ []) p v (λ u q. ap (λ y. taken M y q) (append_assoc w (j ∷ []) u) ∙ says (j ∷ u) q) l (on-push w j p ∙ or_from (on w p) (j == p) o apart.0)
    ]
    in
    let c : length (others n w) ≤ count_by (λ y. y == v) (map (λ j. cond (j == p) (taken M w p) (om majority n M k (w ++ j ∷ []) p)) (others n w)) + count_by (λ (y : ℕ). false) (others n w) = majority_counts (λ y. false) (λ j. cond (j == p) (taken M w p) (om majority n M k (w ++ j ∷ []) p)) v (others n w) each in
    let z : count_by (λ (y : ℕ). false) (others n w) ≡ 0 = nobody (others n w) in
    let one : length (others n w) ≡ 1 + length (others n (w ++ p ∷ [])) = others-length n w p l o in
    rw length-map (omega arith))
  where
    nobody : (xs : List ℕ) → count_by (λ (y : ℕ). false) xs ≡ 0
    nobody [] = refl
    nobody (x ∷ xs) = omega (arith, sum_by-cons (λ (y : ℕ). 0) x xs, nobody xs)

-- States that the label w is the first part of the chain, and `later` the remaining part.
record Along (n m : ℕ) (chain w later : List ℕ) (p : ℕ) : Type 0 where
  whole : chain ≡ w ++ later
  distinct : is_distinct chain ≡ true
  below : AllBelow n chain
  long : length chain ≡ suc m
  short : length later ≤ m
  half : 2 * m ≤ n
  within : p < n
  off : on chain p ≡ false

abbrev entry : ℕ → List ℕ → ℕ → List ℕ → ℕ → ℕ → ℕ
entry n chain k w p j = cond (j == p) (taken (division n chain) w p) (om majority n (division n chain) k (w ++ j ∷ []) p)

om-step : (n : ℕ) (chain : List ℕ) (k : ℕ) (w : List ℕ) (p : ℕ) → om majority n (division n chain) (suc k) w p ≡ majority (map (entry n chain k w p) (others n w))
unfolding om
om-step n chain k w p = refl

om-last : (n : ℕ) (chain w : List ℕ) (p : ℕ) → om majority n (division n chain) zero w p ≡ taken (division n chain) w p
unfolding om
om-last n chain w p = refl

taken-along : (n : ℕ) (chain w later : List ℕ) (p : ℕ) → chain ≡ w ++ later → taken (division n chain) w p ≡ split_order (others n chain) later p
unfolding division
taken-along n chain w later p e = ap (λ y. chain_order (others n chain) y w p) e ∙ chain_order-along (others n chain) later w p

taken-off : (n : ℕ) (chain w later : List ℕ) (t j : ℕ) (u : List ℕ) (q : ℕ) → chain ≡ w ++ t ∷ later → j ≢ t → taken (division n chain) ((w ++ j ∷ []) ++ u) q ≡ split_order (others n chain) (t ∷ later) j
unfolding division
taken-off n chain w later t j u q e ne =
    ap (λ y. chain_order (others n chain) y ((w ++ j ∷ []) ++ u) q) e ∙ (ap (λ y. chain_order (others n chain) (w ++ t ∷ later) y q) (append_assoc w (j ∷ []) u) ∙ chain_order-off (others n chain) later w t j u q ne)

along-push : (n m : ℕ) (chain w later : List ℕ) (t p : ℕ) → Along n m chain w (t ∷ later) p → Along n m chain (w ++ t ∷ []) later p
along-push n m chain w later t p a = record {
  whole = a.whole ∙ sym (append_assoc w (t ∷ []) later);
  distinct = a.distinct;
  below = a.below;
  long = a.long;
  short = let s = a.short in omega arith;
  half = a.half;
  within = a.within;
  off = a.off;
}

-- Proves that p is on neither part of the chain.
off-along : (n m : ℕ) (chain w later : List ℕ) (p : ℕ) → Along n m chain w later p → (on w p ≡ false) × (on later p ≡ false)
off-along n m chain w later p a = off-first w later p (ap (λ y. on y p) (sym a.whole) ∙ a.off)

-- Proves what p combines for each general who is not on the label.
entry_is : (n m : ℕ) (chain w later : List ℕ) (t p j : ℕ) → Along n m chain w (t ∷ later) p
    → om majority n (division n chain) (length later) (w ++ t ∷ []) p ≡ split_order (others n chain) [] p
    → (j < n) × (on w j ≡ false)
    → entry n chain (length later) w p j ≡ cond (j == t) (split_order (others n chain) [] p) (split_order (others n chain) (t ∷ later) j)
entry_is n m chain w later t p j a ih i =
    let off = off-along n m chain w (t ∷ later) p a in
    let next : p ≢ t = λ e. eqb-false t p (or_parts (t == p) (on later p) off.1).0 (sym e) in
    elim (eqb_tells j p) [
      | inl same ↦
          cond-true (j == p) (taken (division n chain) w p) (om majority n (division n chain) (length later) (w ++ j ∷ []) p) same.0
          ∙ (taken-along n chain w (t ∷ later) p a.whole
          ∙ (ap (split_order (others n chain) (t ∷ later)) (sym same.1) ∙ sym (cond-false (j == t) (split_order (others n chain) [] p) (split_order (others n chain) (t ∷ later) j) (ne_eqb j t (λ e. next (sym same.1 ∙ e))))))
      | inr apart ↦
          cond-false (j == p) (taken (division n chain) w p) (om majority n (division n chain) (length later) (w ++ j ∷ []) p) apart.0
          ∙ elim (eqb_tells j t) [
            | inl here ↦ ap (λ y. om majority n (division n chain) (length later) (w ++ y ∷ []) p) here.1 ∙ (ih ∙ sym (cond-true (j == t) (split_order (others n chain) [] p) (split_order (others n chain) (t ∷ later) j) here.0))
            | inr there ↦
                steady (division n chain) n (length later) (w ++ j ∷ []) p (split_order (others n chain) (t ∷ later) j) (λ u q. taken-off n chain w later t j u q a.whole there.1) a.within (on-push w j p ∙ or_from (on w p) (j == p) off.0 apart.0)
                ∙ sym (cond-false (j == t) (split_order (others n chain) [] p) (split_order (others n chain) (t ∷ later) j) there.0)
          ]
    ]

-- Returns the loyal generals to whom the traitor sends 1.
abbrev favoured : ℕ → List ℕ → List ℕ → List ℕ
favoured n chain later = take ((length (others n chain) + length later) / 2) (others n chain)

split_one : (n : ℕ) (chain later : List ℕ) (j : ℕ) → on (favoured n chain later) j ≡ true → split_order (others n chain) later j ≡ 1
unfolding split_order
split_one n chain later j e = rw e refl

split_none : (n : ℕ) (chain later : List ℕ) (j : ℕ) → on (favoured n chain later) j ≡ false → split_order (others n chain) later j ≡ 0
unfolding split_order
split_none n chain later j e = rw e refl

-- States how many generals there are of each kind.
record Sizes (n m : ℕ) (chain w later : List ℕ) : Type 0 where
  others_of : length (others n w) ≡ length (others n chain) + length later
  chosen : length (favoured n chain later) ≡ (length (others n chain) + length later) / 2
  first : length (others n w) + length w ≡ n

sizes : (n m : ℕ) (chain w later : List ℕ) (p : ℕ) → Along n m chain w later p → Sizes n m chain w later
sizes n m chain w later p a =
    let dw : is_distinct w ≡ true = distinct-first w later (ap is_distinct (sym a.whole) ∙ a.distinct) in
    let bw : AllBelow n w = let b : AllBelow n (w ++ later) = rw a.whole at a.below in below-first n w later b in
    let first : length (others n w) + length w ≡ n = others-count n w dw bw in
    let all : length (others n chain) + length chain ≡ n = others-count n chain a.distinct a.below in
    let sum : length chain ≡ length w + length later = ap length a.whole ∙ length-append w later in
    let long = a.long in
    let short = a.short in
    let half = a.half in
    record {
      others_of = omega arith;
      chosen = length-take-le ((length (others n chain) + length later) / 2) (others n chain) (omega arith);
      first = first;
    }

favoured-on : (n : ℕ) (chain later : List ℕ) (j : ℕ) → on (favoured n chain later) j ≡ true → (j < n) × (on chain j ≡ false)
favoured-on n chain later j e = others-on n chain j (on-take ((length (others n chain) + length later) / 2) (others n chain) j e)

-- Proves how many generals are neither in v nor sent 1.
left_of : (n : ℕ) (chain v later : List ℕ) → is_distinct v ≡ true → AllBelow n v → ((j : ℕ) → on chain j ≡ false → on v j ≡ false) → length (others n (v ++ favoured n chain later)) + length (v ++ favoured n chain later) ≡ n
left_of n chain v later dv bv off =
    let s : List ℕ = favoured n chain later in
    others-count n (v ++ favoured n chain later) (distinct-join v (favoured n chain later) dv (distinct-take ((length (others n chain) + length later) / 2) (others n chain) (others-distinct n chain)) (λ j h. off j (favoured-on n chain later j h).1)) (below-join n v (favoured n chain later) bv (λ j h. (favoured-on n chain later j h).0))

step_one : (n m : ℕ) (chain w later : List ℕ) (t p : ℕ) → Along n m chain w (t ∷ later) p
    → ((j : ℕ) → (j < n) × (on w j ≡ false) → entry n chain (length later) w p j ≡ cond (j == t) 1 (split_order (others n chain) (t ∷ later) j))
    → majority (map (entry n chain (length later) w p) (others n w)) ≡ 1
step_one n m chain w later t p a is =
    let z = sizes n m chain w (t ∷ later) p a in
    let v : List ℕ = w ++ t ∷ [] in
    let whole : chain ≡ (w ++ t ∷ []) ++ later = a.whole ∙ sym (append_assoc w (t ∷ []) later) in
    let left : length (others n ((w ++ t ∷ []) ++ favoured n chain (t ∷ later))) + length ((w ++ t ∷ []) ++ favoured n chain (t ∷ later)) ≡ n =
    left_of n chain (w ++ t ∷ []) (t ∷ later) (distinct-first (w ++ t ∷ []) later (ap is_distinct (sym whole) ∙ a.distinct)) (let b : AllBelow n ((w ++ t ∷ []) ++ later) = rw whole at a.below in below-first n (w ++ t ∷ []) later b) (λ j h. (off-first (w ++ t ∷ []) later j (ap (λ y. on y j) (sym whole) ∙ h)).0)
    in
    let few : count_by (λ j. not (on (t ∷ favoured n chain (t ∷ later)) j)) (others n w) ≡ length (others n (w ++ t ∷ favoured n chain (t ∷ later))) = others_rest n w (t ∷ favoured n chain (t ∷ later)) in
    let join : (w ++ t ∷ []) ++ favoured n chain (t ∷ later) ≡ w ++ t ∷ favoured n chain (t ∷ later) = append_assoc w (t ∷ []) (favoured n chain (t ∷ later)) in
    let left' : length (others n (w ++ t ∷ favoured n chain (t ∷ later))) + length (w ++ t ∷ favoured n chain (t ∷ later)) ≡ n = rw join at left in
    let sum : length (w ++ t ∷ favoured n chain (t ∷ later)) ≡ length w + length (t ∷ favoured n chain (t ∷ later)) = length-append w (t ∷ favoured n chain (t ∷ later)) in
    let each : (j : ℕ) → on (others n w) j ≡ true → not (on (t ∷ favoured n chain (t ∷ later)) j) ≡ false → entry n chain (length later) w p j ≡ 1 =
    λ j i h. is j (others-on n w j i) ∙ elim (or_cases (t == j) (on (favoured n chain (t ∷ later)) j) (not-false (on (t ∷ favoured n chain (t ∷ later)) j) h)) [
      | inl here ↦ cond-true (j == t) 1 (split_order (others n chain) (t ∷ later) j) (eq-eqb j t (sym (eqb-true t j here)))
      | inr there ↦ rw (split_one n chain (t ∷ later) j there) (same_cond 1 (j == t))
    ]
    in
    let c : length (others n w) ≤ count_by (λ y. y == 1) (map (entry n chain (length later) w p) (others n w)) + count_by (λ j. not (on (t ∷ favoured n chain (t ∷ later)) j)) (others n w) = majority_counts (λ j. not (on (t ∷ favoured n chain (t ∷ later)) j)) (entry n chain (length later) w p) 1 (others n w) each in
    let z1 = z.others_of in
    let z2 = z.chosen in
    let z3 = z.first in
    majority_is_rule (map (entry n chain (length later) w p) (others n w)) 1 (rw length-map (omega arith))
  where
    same_cond : (x : ℕ) (b : Bool) → cond b x x ≡ x
    same_cond x true = refl
    same_cond x false = refl

step_none : (n m : ℕ) (chain w later : List ℕ) (t p : ℕ) → Along n m chain w (t ∷ later) p
    → ((j : ℕ) → (j < n) × (on w j ≡ false) → entry n chain (length later) w p j ≡ cond (j == t) 0 (split_order (others n chain) (t ∷ later) j))
    → majority (map (entry n chain (length later) w p) (others n w)) ≡ 0
step_none n m chain w later t p a is =
    let z = sizes n m chain w (t ∷ later) p a in
    let left : length (others n (w ++ favoured n chain (t ∷ later))) + length (w ++ favoured n chain (t ∷ later)) ≡ n =
    left_of n chain w (t ∷ later) (distinct-first w (t ∷ later) (ap is_distinct (sym a.whole) ∙ a.distinct)) (let b : AllBelow n (w ++ t ∷ later) = rw a.whole at a.below in below-first n w (t ∷ later) b) (λ j h. (off-first w (t ∷ later) j (ap (λ y. on y j) (sym a.whole) ∙ h)).0)
    in
    let few : count_by (λ j. not (on (favoured n chain (t ∷ later)) j)) (others n w) ≡ length (others n (w ++ favoured n chain (t ∷ later))) = others_rest n w (favoured n chain (t ∷ later)) in
    let sum : length (w ++ favoured n chain (t ∷ later)) ≡ length w + length (favoured n chain (t ∷ later)) = length-append w (favoured n chain (t ∷ later)) in
    let each : (j : ℕ) → on (others n w) j ≡ true → not (on (favoured n chain (t ∷ later)) j) ≡ true → entry n chain (length later) w p j ≡ 0 =
    λ j i h. is j (others-on n w j i) ∙ rw (split_none n chain (t ∷ later) j (not-true (on (favoured n chain (t ∷ later)) j) h)) (same_cond 0 (j == t))
    in
    let z1 = z.others_of in
    let z2 = z.chosen in
    let z3 = z.first in
    majority_zero (map (entry n chain (length later) w p) (others n w)) (λ v ne.
    let c : count_by (λ y. y == v) (map (entry n chain (length later) w p) (others n w)) + count_by (λ j. not (on (favoured n chain (t ∷ later)) j)) (others n w) ≤ length (others n w) = zeros (λ j. not (on (favoured n chain (t ∷ later)) j)) (entry n chain (length later) w p) v (others n w) ne each in
    rw length-map (omega arith))
  where
    same_cond : (x : ℕ) (b : Bool) → cond b x x ≡ x
    same_cond x true = refl
    same_cond x false = refl

-- Proves that p decides on the order that the last general of the chain sends him.
down : (n m : ℕ) (chain w later : List ℕ) (p : ℕ) → Along n m chain w later p → om majority n (division n chain) (length later) w p ≡ split_order (others n chain) [] p
down n m chain w [] p a = om-last n chain w p ∙ taken-along n chain w [] p a.whole
down n m chain w (t ∷ later) p a =
    let ih : om majority n (division n chain) (length later) (w ++ t ∷ []) p ≡ split_order (others n chain) [] p = down n m chain (w ++ t ∷ []) later p (along-push n m chain w later t p a) in
    om-step n chain (length later) w p
    ∙ elim (cases_Bool (on (favoured n chain []) p)) [
      | inl one ↦
          let d : split_order (others n chain) [] p ≡ 1 = split_one n chain [] p one in
          step_one n m chain w later t p a (λ j i. entry_is n m chain w later t p j a ih i ∙ ap (λ y. cond (j == t) y (split_order (others n chain) (t ∷ later) j)) d) ∙ sym d
      | inr none ↦
          let d : split_order (others n chain) [] p ≡ 0 = split_none n chain [] p none in
          step_none n m chain w later t p a (λ j i. entry_is n m chain w later t p j a ih i ∙ ap (λ y. cond (j == t) y (split_order (others n chain) (t ∷ later) j)) d) ∙ sym d
    ]

-- Proves the claim for the label of only the commander.
begun : (n c m : ℕ) (chain later : List ℕ) (p : ℕ) → IsTraitorChain n c m chain → chain ≡ c ∷ later → p < n → on chain p ≡ false → Along n m chain (c ∷ []) later p
begun n c m chain later p is e l o = record {
  whole = e;
  distinct = is.label.distinct;
  below = is.label.below;
  long = is.long;
  short = let long = is.long in omega (arith, ap length e);
  half = is.half;
  within = l;
  off = o;
}

decided : (n c m : ℕ) (chain later : List ℕ) (p : ℕ) → IsTraitorChain n c m chain → chain ≡ c ∷ later → p < n → on chain p ≡ false → om majority n (division n chain) m (c ∷ []) p ≡ split_order (others n chain) [] p
decided n c m chain later p is e l o =
    let k : length later ≡ m = let long = is.long in omega (arith, ap length e) in
    ap (λ y. om majority n (division n chain) y (c ∷ []) p) (sym k) ∙ down n m chain (c ∷ []) later p (begun n c m chain later p is e l o)

-- Proves that the last general of the chain sends 1 to one loyal general and 0 to another.
split : (n c m order : ℕ) (chain later : List ℕ) → IsTraitorChain n c m chain → chain ≡ c ∷ later → Agree n c order (on chain) (om majority n (division n chain) m (c ∷ [])) → ⊥
split n c m order chain later is e agree =
    let all : length (others n chain) + length chain ≡ n = others-count n chain is.label.distinct is.label.below in
    let long = is.long in
    let two = is.two in
    let few : length (favoured n chain []) ≡ (length (others n chain) + 0) / 2 = length-take-le ((length (others n chain) + 0) / 2) (others n chain) (omega arith) in
    let left : length (others n (chain ++ favoured n chain [])) + length (chain ++ favoured n chain []) ≡ n = left_of n chain chain [] is.label.distinct is.label.below (λ j h. h) in
    let sum : length (chain ++ favoured n chain []) ≡ length chain + length (favoured n chain []) = length-append chain (favoured n chain []) in
    let a : Member (favoured n chain []) = member (favoured n chain []) (omega arith) in
    let b : Member (others n (chain ++ favoured n chain [])) = member (others n (chain ++ favoured n chain [])) (omega arith) in
    let a' = favoured-on n chain [] a.it a.is in
    let b' = others-on n (chain ++ favoured n chain []) b.it b.is in
    let b'' = off-first chain (favoured n chain []) b.it b'.1 in
    let bad : on chain c ≡ true = ap (λ y. on y c) e ∙ or_left (c == c) (on later c) (eq-eqb c c refl) in
    let same : om majority n (division n chain) m (c ∷ []) a.it ≡ om majority n (division n chain) m (c ∷ []) b.it =
    agree.alike a.it b.it
    (record { general = a'.0; lieutenant = λ q. true≢false (sym bad ∙ ap (on chain) (sym q) ∙ a'.1); loyal = a'.1 })
    (record { general = b'.0; lieutenant = λ q. true≢false (sym bad ∙ ap (on chain) (sym q) ∙ b''.0); loyal = b''.0 })
    in
    let one : om majority n (division n chain) m (c ∷ []) a.it ≡ 1 = decided n c m chain later a.it is e a'.0 a'.1 ∙ split_one n chain [] a.it a.is in
    let none : om majority n (division n chain) m (c ∷ []) b.it ≡ 0 = decided n c m chain later b.it is e b'.0 b''.0 ∙ split_none n chain [] b.it b''.1 in
    omega arith

broken : (n c m order : ℕ) (chain : List ℕ) → IsTraitorChain n c m chain → Agree n c order (on chain) (om majority n (division n chain) m (c ∷ [])) → ⊥
broken n c m order [] is agree = absurd is.label.first
broken n c m order (x ∷ xs) is agree = let e : x ≡ c = is.label.first in split n c m order (x ∷ xs) xs is (ap (λ y. y ∷ xs) e) agree

exists : (n c m : ℕ) → c < n → 2 * m ≤ n → m + 3 ≤ n → (chain : List ℕ) × IsTraitorChain n c m chain
exists n c m inside half two =
    let all : length (others n (c ∷ [])) + 1 ≡ n = others-count n (c ∷ []) refl (inside, tt) in
    let within : (j : ℕ) → on (take m (others n (c ∷ []))) j ≡ true → (j < n) × (on (c ∷ []) j ≡ false) = λ j h. others-on n (c ∷ []) j (on-take m (others n (c ∷ [])) j h) in
    let size : length (take m (others n (c ∷ []))) ≡ m = length-take-le m (others n (c ∷ [])) (omega arith) in (
      c ∷ take m (others n (c ∷ [])),
      record {
        label = record {
          first = refl;
          below = below-join n (c ∷ []) (take m (others n (c ∷ []))) (inside, tt) (λ j h. (within j h).0);
          distinct = distinct-join (c ∷ []) (take m (others n (c ∷ []))) refl (distinct-take m (others n (c ∷ [])) (others-distinct n (c ∷ []))) (λ j h. (within j h).1);
        };
        long = omega arith;
        half = half;
        two = two;
      },
    )

count : (n c m : ℕ) (chain : List ℕ) → IsTraitorChain n c m chain → count_by (on chain) (generals n) ≡ suc m
count n c m chain is =
    let all : length (others n chain) + length chain ≡ n = others-count n chain is.label.distinct is.label.below in
    let long = is.long in
    omega (arith, both_sides (on chain) (generals n), length-range_with_len 0 n)

pub proved_division_breaks : DivisionBreaks
proved_division_breaks = record { faithful = faithful; broken = broken; exists = exists; count = count }
