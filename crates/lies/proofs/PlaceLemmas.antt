-- The orders that traitors send to loyal generals, counted.
use Rattle.std.proofs.Common.{ℕ, zero, suc, ◌+◌, ◌-◌, ◌*◌, ◌<◌, ◌≤◌, ◌≡◌, ◌≢◌, Bool, true, false, not, cond, List, [], ◌∷◌, ◌++◌, length, ◌==◌, Less, Equal, Greater, refl, sym, ap, subst, ◌∙◌, arith, inl, inr}
use Rattle.std.specs.Prelude.{count_by, filter, sum_by, nat_lt, max, min}
use Rattle.std.specs.Ordering.{is_lt, nat_cmp, ord_max}
use Rattle.std.specs.List.{range_with_len}
use Rattle.std.proofs.lemmas.Bool.{cases_Bool, cases_lt, eqb-true, false≢true, or_cases, le-ltb, lt-ltb, ltb-true, ltb-false}
use Rattle.std.proofs.lemmas.List.Sums.{sum_by-cons}
use Rattle.std.proofs.lemmas.Nat.{mul-le}
use Rattle.label.specs.Labels.{on, generals, others}
use Rattle.label.proofs.Counting.{others-on, others-split, range-on}
use Rattle.lies.specs.PlaceCounts.{most_by, own_places, places, places_bound}
use Rattle.lies.specs.Places.{places_at, places_from, places_in}
use Rattle.lies.proofs.Costs.{sum_same}

-- Returns the number of loyal generals in a list, and that of the traitors.
abbrev loyals : (ℕ → Bool) → List ℕ → ℕ
loyals t js = count_by (λ j. not (t j)) js

abbrev traitors : (ℕ → Bool) → List ℕ → ℕ
traitors t js = count_by t js

-- Proves the sum over a list in which loyal generals and traitors count differently.
sum_kinds : (t : ℕ → Bool) (a b : ℕ) (js : List ℕ) → sum_by (λ j. cond (t j) b a) js ≡ loyals t js * a + traitors t js * b
sum_kinds t a b [] = omega arith
sum_kinds t a b (j ∷ js) =
    let ih = sum_kinds t a b js in
    let c : sum_by (λ j. cond (t j) b a) (j ∷ js) ≡ cond (t j) b a + sum_by (λ j. cond (t j) b a) js = sum_by-cons (λ j. cond (t j) b a) j js in
    let l : loyals t (j ∷ js) ≡ cond (not (t j)) 1 0 + loyals t js = sum_by-cons (λ j. cond (not (t j)) 1 0) j js in
    let r : traitors t (j ∷ js) ≡ cond (t j) 1 0 + traitors t js = sum_by-cons (λ j. cond (t j) 1 0) j js in
    rw (c, l, r, ih) (by_kind (t j) (loyals t js) (traitors t js))
  where
    by_kind : (k : Bool) (x y : ℕ) → cond k b a + (x * a + y * b) ≡ (cond (not k) 1 0 + x) * a + (cond k 1 0 + y) * b
    by_kind true x y = omega arith
    by_kind false x y = omega arith

-- Proves how many loyal generals and traitors are off a label that a general extends.
fewer_loyal : (n : ℕ) (t : ℕ → Bool) (w : List ℕ) (j : ℕ) → j < n → on w j ≡ false → loyals t (others n (w ++ j ∷ [])) ≡ loyals t (others n w) - cond (t j) 0 1
fewer_loyal n t w j l off =
    let s : loyals t (others n w) ≡ cond (not (t j)) 1 0 + loyals t (others n (w ++ j ∷ [])) = others-split (λ j. cond (not (t j)) 1 0) n w j l off in
    by_kind (t j) (loyals t (others n w)) (loyals t (others n (w ++ j ∷ []))) s
  where
    by_kind : (k : Bool) (x y : ℕ) → x ≡ cond (not k) 1 0 + y → y ≡ x - cond k 0 1
    by_kind true x y e = omega arith
    by_kind false x y e = omega arith

fewer_traitors : (n : ℕ) (t : ℕ → Bool) (w : List ℕ) (j : ℕ) → j < n → on w j ≡ false → traitors t (others n (w ++ j ∷ [])) ≡ traitors t (others n w) - cond (t j) 1 0
fewer_traitors n t w j l off =
    let s : traitors t (others n w) ≡ cond (t j) 1 0 + traitors t (others n (w ++ j ∷ [])) = others-split (λ j. cond (t j) 1 0) n w j l off in
    by_kind (t j) (traitors t (others n w)) (traitors t (others n (w ++ j ∷ []))) s
  where
    by_kind : (k : Bool) (x y : ℕ) → x ≡ cond k 1 0 + y → y ≡ x - cond k 1 0
    by_kind true x y e = omega arith
    by_kind false x y e = omega arith

-- Proves that the orders depend on the numbers of generals alone.
places_counted : (n : ℕ) (t : ℕ → Bool) (k : ℕ) (w : List ℕ) (g : ℕ) → places_from n t k w g ≡ places k (t g) (loyals t (others n w)) (traitors t (others n w))
unfolding places_from places
places_counted n t zero w g = refl
places_counted n t (suc k) w g =
    let x : ℕ = loyals t (others n w) in
    let y : ℕ = traitors t (others n w) in
    let each : sum_by (λ j. places_from n t k (w ++ j ∷ []) j) (others n w) ≡ sum_by (λ j. cond (t j) (places k true (loyals t (others n w)) (traitors t (others n w) - 1)) (places k false (loyals t (others n w) - 1) (traitors t (others n w)))) (others n w) =
    sum_same (λ j. places_from n t k (w ++ j ∷ []) j) (λ j. cond (t j) (places k true (loyals t (others n w)) (traitors t (others n w) - 1)) (places k false (loyals t (others n w) - 1) (traitors t (others n w)))) (others n w)
    (λ j i. (let at = others-on n w j i in
    places_counted n t k (w ++ j ∷ []) j
    ∙ ((λ d. places k (t j) (fewer_loyal n t w j at.0 at.1 d) (fewer_traitors n t w j at.0 at.1 d))
    ∙ by_kind (t j) (loyals t (others n w)) (traitors t (others n w)))))
    in
    let all = sum_kinds t (places k false (loyals t (others n w) - 1) (traitors t (others n w))) (places k true (loyals t (others n w)) (traitors t (others n w) - 1)) (others n w) in
    ap (λ (s : ℕ). places_at n t w g + s) (each ∙ all)
  where
    by_kind : (b : Bool) (x y : ℕ) → places k b (x - cond b 0 1) (y - cond b 1 0) ≡ cond b (places k true x (y - 1)) (places k false (x - 1) y)
    by_kind true x y = (let e : x - 0 ≡ x = omega arith in ap (λ (z : ℕ). places k true z (y - 1)) e)
    by_kind false x y = (let e : y - 0 ≡ y = omega arith in ap (places k false (x - 1)) e)

-- Proves that the generals are the loyal ones and the traitors.
kinds_are_all : (t : ℕ → Bool) (js : List ℕ) → loyals t js + traitors t js ≡ length js
kinds_are_all t [] = refl
kinds_are_all t (j ∷ js) =
    let ih = kinds_are_all t js in
    let l : loyals t (j ∷ js) ≡ cond (not (t j)) 1 0 + loyals t js = sum_by-cons (λ j. cond (not (t j)) 1 0) j js in
    let r : traitors t (j ∷ js) ≡ cond (t j) 1 0 + traitors t js = sum_by-cons (λ j. cond (t j) 1 0) j js in
    rw (l, r) (by_kind (t j) (loyals t js) (traitors t js) (length js) ih)
  where
    by_kind : (k : Bool) (x y z : ℕ) → x + y ≡ z → (cond (not k) 1 0 + x) + (cond k 1 0 + y) ≡ suc z
    by_kind true x y z e = omega arith
    by_kind false x y z e = omega arith

range_length : (a n : ℕ) → length (range_with_len a n) ≡ n
range_length a zero = refl
range_length a (suc n) = ap suc (range_length (a + 1) n)

-- Returns the orders that `count` traitors send, if the commander is one of them or loyal.
abbrev pub places_under : ℕ → ℕ → Bool → ℕ → ℕ
places_under n m is_traitor count = cond is_traitor (places m true (n - count) (count - 1)) (places m false (n - count - 1) count)

-- Proves how many orders traitors send in a campaign, by their number.
pub campaign_places : (n m c : ℕ) (t : ℕ → Bool) → c < n → places_in n m c t ≡ places_under n m (t c) (count_by t (generals n))
campaign_places n m c t inside =
    let split_l : loyals t (generals n) ≡ cond (not (t c)) 1 0 + loyals t (others n (c ∷ [])) = all_split (λ j. cond (not (t j)) 1 0) in
    let split_t : traitors t (generals n) ≡ cond (t c) 1 0 + traitors t (others n (c ∷ [])) = all_split (λ j. cond (t j) 1 0) in
    let all : loyals t (generals n) + traitors t (generals n) ≡ n = kinds_are_all t (generals n) ∙ range_length 0 n in
    places_counted n t m (c ∷ []) c ∙ by_kind (t c) (loyals t (others n (c ∷ []))) (traitors t (others n (c ∷ []))) (loyals t (generals n)) (traitors t (generals n)) split_l split_t all
  where
    nobody_on : (js : List ℕ) → filter (λ j. not (on [] j)) js ≡ js
    nobody_on [] = refl
    nobody_on (j ∷ js) = ap (λ (ks : List ℕ). j ∷ ks) (nobody_on js)

    all_split : (h : ℕ → ℕ) → sum_by h (generals n) ≡ h c + sum_by h (others n (c ∷ []))
    all_split h = ap (sum_by h) (sym (nobody_on (generals n))) ∙ others-split h n [] c inside refl

    by_kind : (k : Bool) (x y a b : ℕ) → a ≡ cond (not k) 1 0 + x → b ≡ cond k 1 0 + y → a + b ≡ n → places m k x y ≡ places_under n m k b
    by_kind true x y a b e f all = (let l : x ≡ n - b = omega arith in let r : y ≡ b - 1 = omega arith in λ i. places m true (l i) (r i))
    by_kind false x y a b e f all = (let l : x ≡ n - b - 1 = omega arith in let r : y ≡ b = omega arith in λ i. places m false (l i) (r i))

-- States that traitors, at most `most`, send this many orders to loyal generals under some commander.
pub record IsReached (n m most x : ℕ) : Type 0 where
  pub commander : ℕ
  pub traitor : ℕ → Bool
  pub general : commander < n
  pub few : count_by traitor (generals n) ≤ most
  pub reached : places_in n m commander traitor ≡ x

-- States that fewer than `count` traitors send at most this many orders to loyal generals.
abbrev pub AreBounded : ℕ → ℕ → ℕ → ℕ → Type 0
AreBounded n m count x = (c : ℕ) (t : ℕ → Bool) → c < n → count_by t (generals n) < count → places_in n m c t ≤ x

-- Proves that the first generals are as many as they are.
first_many : (a n c : ℕ) → count_by (λ g. nat_lt g c) (range_with_len a n) ≡ min n (c - a)
first_many a zero c = omega arith
first_many a (suc n) c =
    let ih : count_by (λ g. nat_lt g c) (range_with_len (a + 1) n) ≡ min n (c - (a + 1)) = first_many (a + 1) n c in
    let s : count_by (λ g. nat_lt g c) (range_with_len a (suc n)) ≡ cond (nat_lt a c) 1 0 + count_by (λ g. nat_lt g c) (range_with_len (a + 1) n) = sum_by-cons (λ g. cond (nat_lt g c) 1 0) a (range_with_len (a + 1) n) in
    elim (cases_lt a c) [
      | inl less ↦ (let one : cond {A = ℕ} (nat_lt a c) 1 0 ≡ 1 = ap (λ (b : Bool). cond {A = ℕ} b 1 0) (lt-ltb a c less) in omega arith)
      | inr more ↦ (let none : cond {A = ℕ} (nat_lt a c) 1 0 ≡ 0 = ap (λ (b : Bool). cond {A = ℕ} b 1 0) (le-ltb a c more) in omega arith)
    ]

-- Proves that the orders about a label with no further generals are those about it alone.
pub last_places : (k l t : ℕ) (s : Bool) → k ≡ 0 → own_places s l ≡ places k s l t
unfolding places
last_places zero l t s e = refl
last_places (suc k) l t s e = absurd (omega arith)

-- Proves the count about a label that generals extend.
pub more_places : (k l t : ℕ) (s : Bool) → k ≢ 0 → own_places s l + (l * places (k - 1) false (l - 1) t + t * places (k - 1) true l (t - 1)) ≡ places k s l t
unfolding places
more_places zero l t s some = absurd (some refl)
more_places (suc k) l t s some = (let e : suc k - 1 ≡ k = omega arith in λ i. own_places s l + (l * places (e i) false (l - 1) t + t * places (e i) true l (t - 1)))

-- Proves that the bound on the orders is small, among at most 13 generals and 5 rounds.
pub bound_small : (k : ℕ) → k ≤ 4 → places_bound k ≤ 6178315
bound_small zero l = omega arith
bound_small (suc zero) l = omega arith
bound_small (suc (suc zero)) l = omega arith
bound_small (suc (suc (suc zero))) l = omega arith
bound_small (suc (suc (suc (suc zero)))) l = omega arith
bound_small (suc (suc (suc (suc (suc k))))) l = absurd (omega arith)

bound_more : (k : ℕ) → k ≢ 0 → places_bound k ≡ 13 + 26 * places_bound (k - 1)
bound_more zero some = absurd (some refl)
bound_more (suc k) some = (let e : k ≡ suc k - 1 = omega arith in λ i. 13 + 26 * places_bound (e i))

-- Proves that the orders of one general are no more than the loyal generals.
pub own_few : (x l : ℕ) (s : Bool) → x ≡ own_places s l → l ≤ 13 → x ≤ 13
own_few x l true e few = omega arith
own_few x l false e few = omega arith

-- Proves that the orders of up to 13 generals keep to the bound.
pub part_few : (k l x y : ℕ) → x ≡ l → l ≤ 13 → y ≤ places_bound k → x * y ≤ 13 * places_bound k
part_few k l x y e few less = mul-le x y 13 (places_bound k) (omega arith) less

pub sum_few : (k own x y : ℕ) → k ≢ 0 → own ≤ 13 → x ≤ 13 * places_bound (k - 1) → y ≤ 13 * places_bound (k - 1) → own + (x + y) ≤ places_bound k
sum_few k own x y some one two three = (let e = bound_more k some in omega arith)

-- Proves that loyal generals send no orders that count.
no_traitors : (k l : ℕ) → places k false l 0 ≡ 0
unfolding places
no_traitors zero l = refl
no_traitors (suc k) l = rw (no_traitors k (l - 1)) (omega arith)

-- Proves that no traitors send no orders.
pub reach_none : (n m most : ℕ) → 0 < n → IsReached n m most 0
reach_none n m most some =
    let none : count_by (λ _. false) (generals n) ≡ 0 = nobody (generals n) in
    record {
      commander = 0;
      traitor = λ _. false;
      general = some;
      few = omega arith;
      reached = campaign_places n m 0 (λ _. false) some ∙ (ap (λ (x : ℕ). places m false (n - x - 1) x) none ∙ no_traitors m (n - 0 - 1));
    }
  where
    nobody : (js : List ℕ) → count_by (λ _. false) js ≡ 0
    nobody [] = refl
    nobody (j ∷ js) = nobody js

reach_loyal : (n m most count : ℕ) → count < n → count ≤ most → IsReached n m most (places m false (n - count - 1) count)
reach_loyal n m most count room few =
    let many : count_by (λ g. nat_lt g count) (generals n) ≡ count = first_many 0 n count ∙ omega arith in
    let loyal : nat_lt (n - 1) count ≡ false = le-ltb (n - 1) count (omega arith) in
    record {
      commander = n - 1;
      traitor = λ g. nat_lt g count;
      general = omega arith;
      few = omega arith;
      reached = campaign_places n m (n - 1) (λ g. nat_lt g count) (omega arith) ∙ (λ i. places_under n m (loyal i) (many i));
    }

reach_traitor : (n m most count : ℕ) → 0 < count → count ≤ n → count ≤ most → IsReached n m most (places m true (n - count) (count - 1))
reach_traitor n m most count some room few =
    let many : count_by (λ g. nat_lt g count) (generals n) ≡ count = first_many 0 n count ∙ omega arith in
    let one : nat_lt 0 count ≡ true = lt-ltb 0 count some in
    record {
      commander = 0;
      traitor = λ g. nat_lt g count;
      general = omega arith;
      few = omega arith;
      reached = campaign_places n m 0 (λ g. nat_lt g count) (omega arith) ∙ (λ i. places_under n m (one i) (many i));
    }

reach_max : (n m most x y : ℕ) → IsReached n m most x → IsReached n m most y → IsReached n m most (max x y)
reach_max n m most x y one other = elim (cases_lt x y) [
  | inl less ↦ subst (IsReached n m most) (the_second less) other
  | inr more ↦ subst (IsReached n m most) (the_first more) one
]
  where
    the_second : x < y → y ≡ max x y
    the_second l = omega arith

    the_first : y ≤ x → x ≡ max x y
    the_first l = omega arith

reach_if : (n m most x : ℕ) (b : Bool) → 0 < n → (b ≡ true → IsReached n m most x) → IsReached n m most (cond b x 0)
reach_if n m most x true some it = it refl
reach_if n m most x false some it = reach_none n m most some

-- Proves that the most orders so far and those of `count` traitors are reached.
pub reach_more : (n m most count best : ℕ) → 0 < n → count ≤ n → count ≤ most → IsReached n m most best → IsReached n m most (max best (most_by n m count))
reach_more n m most count best some room few so_far =
    reach_max n m most best (most_by n m count) so_far
    (reach_max n m most (cond (nat_lt count n) (places m false (n - count - 1) count) 0) (cond (nat_lt 0 count) (places m true (n - count) (count - 1)) 0)
    (reach_if n m most (places m false (n - count - 1) count) (nat_lt count n) some (λ e. reach_loyal n m most count (ltb-true count n e) few))
    (reach_if n m most (places m true (n - count) (count - 1)) (nat_lt 0 count) some (λ e. reach_traitor n m most count (ltb-true 0 count e) room few)))

-- Proves that a general of a kind is counted.
counted : (p : ℕ → Bool) (c : ℕ) (js : List ℕ) → on js c ≡ true → p c ≡ true → 1 ≤ count_by p js
counted p c [] i e = absurd (false≢true i)
counted p c (j ∷ js) i e =
    let s : count_by p (j ∷ js) ≡ cond (p j) 1 0 + count_by p js = sum_by-cons (λ x. cond (p x) 1 0) j js in
    elim (or_cases (j == c) (on js c) i) [
      | inl here ↦ (let one : cond {A = ℕ} (p j) 1 0 ≡ 1 = ap (λ (x : ℕ). cond {A = ℕ} (p x) 1 0) (eqb-true j c here) ∙ ap (λ (b : Bool). cond {A = ℕ} b 1 0) e in omega arith)
      | inr there ↦ (let ih = counted p c js there e in omega arith)
    ]

traitor_some : (n c : ℕ) (t : ℕ → Bool) → c < n → t c ≡ true → 0 < count_by t (generals n)
traitor_some n c t inside one = (let h = counted t c (generals n) (range-on 0 n c (omega arith) (omega arith)) one in omega arith)

-- Proves that a loyal general and the traitors are no more than all generals.
loyal_room : (n c : ℕ) (t : ℕ → Bool) → c < n → t c ≡ false → count_by t (generals n) < n
loyal_room n c t inside loyal =
    let all : loyals t (generals n) + traitors t (generals n) ≡ n = kinds_are_all t (generals n) ∙ range_length 0 n in
    let one : 1 ≤ loyals t (generals n) = counted (λ j. not (t j)) c (generals n) (range-on 0 n c (omega arith) (omega arith)) (ap not loyal) in
    omega arith

-- Proves that the orders of `count` traitors are no more than the most orders.
by_count : (n m c count : ℕ) (t : ℕ → Bool) → c < n → count_by t (generals n) ≡ count → places_in n m c t ≤ most_by n m count
by_count n m c count t inside many = elim (cases_Bool (t c)) [
  | inl one ↦
      let some : nat_lt 0 count ≡ true = lt-ltb 0 count (subst (λ (x : ℕ). 0 < x) many (traitor_some n c t inside one)) in
      let is : places_in n m c t ≡ places m true (n - count) (count - 1) = campaign_places n m c t inside ∙ (λ i. places_under n m (one i) (many i)) in
      let here : cond (nat_lt 0 count) (places m true (n - count) (count - 1)) 0 ≡ places m true (n - count) (count - 1) = ap (λ (b : Bool). cond b (places m true (n - count) (count - 1)) 0) some in
      omega arith
  | inr loyal ↦
      let some : nat_lt count n ≡ true = lt-ltb count n (subst (λ (x : ℕ). x < n) many (loyal_room n c t inside loyal)) in
      let is : places_in n m c t ≡ places m false (n - count - 1) count = campaign_places n m c t inside ∙ (λ i. places_under n m (loyal i) (many i)) in
      let here : cond (nat_lt count n) (places m false (n - count - 1) count) 0 ≡ places m false (n - count - 1) count = ap (λ (b : Bool). cond b (places m false (n - count - 1) count) 0) some in
      omega arith
]

-- Proves that the most orders so far and those of `count` traitors bound those of up to `count` traitors.
pub bounded_more : (n m count best : ℕ) → AreBounded n m count best → AreBounded n m (count + 1) (max best (most_by n m count))
bounded_more n m count best so_far c t inside few = elim (cases_lt (count_by t (generals n)) count) [
  | inl before ↦ (let l = so_far c t inside before in omega arith)
  | inr last ↦ (let l : places_in n m c t ≤ most_by n m count = by_count n m c count t inside (omega arith) in omega arith)
]

-- Proves that the greater number is the maximum.
pub max_is : (x y : ℕ) → ord_max nat_cmp x y ≡ max x y
max_is x y = pick (nat_lt y x) (y == x) refl
  where
    pick : (d e : Bool) → nat_lt y x ≡ d → cond (is_lt (cond d Less (cond e Equal Greater))) x y ≡ max x y
    pick true e h = (let l = ltb-true y x h in omega arith)
    pick false true h = (let l = ltb-false y x h in omega arith)
    pick false false h = (let l = ltb-false y x h in omega arith)
