-- Numbers that are stored up to a limit.
use Rattle.std.proofs.Common.{ℕ, zero, suc, ◌+◌, ◌-◌, ◌*◌, ◌^◌, ◌≤◌, ◌≡◌, ◌≢◌, Bool, true, false, [], ◌∷◌, ◌++◌, refl, sym, ap, ◌∙◌, arith, inl, inr, min}
use Rattle.std.proofs.lemmas.Bool.{cases_lt}
use Rattle.std.proofs.Math.Nat.{mul_comm, mul-one, mul-zero}
use Rattle.std.proofs.lemmas.Nat.{mul-le}
use Rattle.std.specs.Prelude.{sum_by}
use Rattle.std.proofs.lemmas.List.Sums.{sum_by_push}
use Rattle.label.specs.Labels.{generals}
use Rattle.label.proofs.Ranks.{range_push}
use Rattle.lies.specs.Estimate.{orders_taken, plan_steps, sets, stored}

-- Proves that a sum is stored as the sum of its stored parts.
pub stored_add : (a b : ℕ) → stored (stored a + stored b) ≡ stored (a + b)
stored_add a b = omega arith

at_limit : (m x : ℕ) → m ≤ x → min x m ≡ m
at_limit m x l = omega arith

below_limit : (m x : ℕ) → x ≤ m → min x m ≡ x
below_limit m x l = omega arith

-- Proves that a product is at the limit if its first factor is, and the other is not zero.
full : (m a b : ℕ) → m ≤ a → min (min a m * min b m) m ≡ min (a * b) m
full m a zero l = ap (λ (y : ℕ). min (min a m * y) m) (below_limit m zero (omega arith)) ∙ ap (λ (y : ℕ). min y m) (mul-zero (min a m) ∙ sym (mul-zero a))
full m a (suc b) l =
    let one : min a m ≡ m = at_limit m a l in
    let left : m ≤ m * min (suc b) m = more m in
    let right : a * 1 ≤ a * suc b = mul-le a 1 a (suc b) (omega arith) (omega arith) in
    let same : a * 1 ≡ a = mul-one a in
    ap (λ (x : ℕ). min (x * min (suc b) m) m) one ∙ (at_limit m (m * min (suc b) m) left ∙ sym (at_limit m (a * suc b) (omega arith)))
  where
    more : (m : ℕ) → m ≤ m * min (suc b) m
    more zero = omega arith
    more (suc k) =
        let some : suc k * 1 ≤ suc k * min (suc b) (suc k) = mul-le (suc k) 1 (suc k) (min (suc b) (suc k)) (omega arith) (omega arith) in
        let same : suc k * 1 ≡ suc k = mul-one (suc k) in
        omega arith

limit_mul : (m a b : ℕ) → min (min a m * min b m) m ≡ min (a * b) m
limit_mul m a b = elim (cases_lt a m) [
  | inr above ↦ full m a b above
  | inl below ↦ elim (cases_lt b m) [
    | inl small ↦ (λ i. min (below_limit m a (omega arith) i * below_limit m b (omega arith) i) m)
    | inr above ↦ ap (λ (x : ℕ). min x m) (mul_comm (min a m) (min b m)) ∙ (full m b a above ∙ ap (λ (x : ℕ). min x m) (mul_comm b a))
  ]
]

-- Proves that a product is stored as the product of its stored factors.
pub stored_mul : (a b : ℕ) → stored (stored a * stored b) ≡ stored (a * b)
stored_mul a b = limit_mul (2 ^ 64 - 1) a b

stored_twice : (a : ℕ) → stored (stored a) ≡ stored a
stored_twice a = omega arith

-- Proves that the sum of stored numbers is stored as that of the numbers.
pub sum_stored : (x y a b r : ℕ) → r ≡ stored (x + y) → x ≡ stored a → y ≡ stored b → r ≡ stored (a + b)
sum_stored x y a b r e p q = e ∙ ((λ i. stored (p i + q i)) ∙ stored_add a b)

-- Proves that the product of stored numbers is stored as that of the numbers.
pub product_stored : (x y a b r : ℕ) → r ≡ stored (x * y) → x ≡ stored a → y ≡ stored b → r ≡ stored (a * b)
product_stored x y a b r e p q = e ∙ ((λ i. stored (p i * q i)) ∙ stored_mul a b)

-- Proves the same if the first number is not stored.
pub times_stored : (x y a b r : ℕ) → r ≡ stored (x * y) → x ≡ a → y ≡ stored b → r ≡ stored (a * b)
times_stored x y a b r e p q =
    e ∙ ((λ i. stored (p i * q i)) ∙ (sym (stored_mul a (stored b)) ∙ (ap (λ (z : ℕ). stored (stored a * z)) (stored_twice b) ∙ stored_mul a b)))

-- Proves how the steps of a plan are counted.
pub last_steps : (votes k l t : ℕ) (s : Bool) → k ≡ 0 → 1 ≡ stored (plan_steps votes k s l t)
unfolding plan_steps
last_steps votes zero l t s e = omega arith
last_steps votes (suc k) l t s e = absurd (omega arith)

pub more_steps : (votes k l t : ℕ) (s : Bool) → k ≢ 0
    → orders_taken s ^ l * votes ^ t + (l * (orders_taken s * votes) * plan_steps votes (k - 1) false (l - 1) t + t * votes * plan_steps votes (k - 1) true l (t - 1)) ≡ plan_steps votes k s l t
unfolding plan_steps
more_steps votes zero l t s some = absurd (some refl)
more_steps votes (suc k) l t s some =
    let e : suc k - 1 ≡ k = omega arith in
    λ i. orders_taken s ^ l * votes ^ t + (l * (orders_taken s * votes) * plan_steps votes (e i) false (l - 1) t + t * votes * plan_steps votes (e i) true l (t - 1))

-- Proves how sets are counted.
pub one_set : (n k : ℕ) → k ≡ 0 → 1 ≡ stored (sets n k)
unfolding sets
one_set zero zero e = omega arith
one_set (suc n) zero e = omega arith
one_set n (suc k) e = absurd (omega arith)

pub no_set : (n k : ℕ) → k ≢ 0 → n ≡ 0 → 0 ≡ stored (sets n k)
unfolding sets
no_set n zero some e = absurd (some refl)
no_set zero (suc k) some e = omega arith
no_set (suc n) (suc k) some e = absurd (omega arith)

pub more_sets : (n k : ℕ) → k ≢ 0 → n ≢ 0 → sets (n - 1) (k - 1) + sets (n - 1) k ≡ sets n k
unfolding sets
more_sets n zero some many = absurd (some refl)
more_sets zero (suc k) some many = absurd (many refl)
more_sets (suc n) (suc k) some many =
    let e : suc n - 1 ≡ n = omega arith in
    let d : suc k - 1 ≡ k = omega arith in
    λ i. sets (e i) (d i) + sets (e i) (suc k)

-- Proves how the steps for each number of traitors add up.
pub one_count : (f : ℕ → ℕ) (n : ℕ) → sum_by f (generals n) + f n ≡ sum_by f (generals (n + 1))
one_count f n =
    let e : 0 + n ≡ n = omega arith in
    let d : n + 1 ≡ suc n = omega arith in
    sym (ap (λ (k : ℕ). sum_by f (generals k)) d ∙ (ap (sum_by f) (range_push 0 n ∙ ap (λ (x : ℕ). generals n ++ x ∷ []) e) ∙ sum_by_push f (generals n) n))

-- Proves the same if the second number is not stored.
pub stored_times : (x y a b r : ℕ) → r ≡ stored (x * y) → x ≡ stored a → y ≡ b → r ≡ stored (a * b)
stored_times x y a b r e p q = times_stored y x b a r (e ∙ ap stored (mul_comm x y)) q p ∙ ap stored (mul_comm b a)
