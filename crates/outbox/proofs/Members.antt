-- The numbers in a set of bits, ascending.
use Rattle.std.proofs.Common.{ℕ, zero, suc, ◌+◌, ◌-◌, ◌*◌, ◌%◌, ◌^◌, ◌<◌, ◌≤◌, ◌≡◌, Bool, true, false, not, cond, ◌||◌, ◌&&◌, List, [], ◌∷◌, ◌++◌, length, refl, sym, ap, ◌∙◌, arith, inl, inr, zero-add, add-zero, add-one, length-append, bit_and}
use Rattle.std.specs.Prelude.{◌==◌, filter, nat_lt, count_ones}
use Rattle.std.specs.Int.{bit_at}
use Rattle.std.specs.List.{range_with_len}
use Rattle.std.proofs.Math.Bool.{and_comm}
use Rattle.std.proofs.lemmas.Bool.{and_parts, cases_Bool, ltb-true, lt-ltb}
use Rattle.std.proofs.lemmas.Bool.Decides.{eqb_tells, nat_tests}
use Rattle.std.proofs.lemmas.List.{append-nil}
use Rattle.std.proofs.lemmas.List.Elements.{filter-append}
use Rattle.std.proofs.lemmas.Nat.Bits.{bit_at-lt}
use Rattle.label.specs.Labels.{on, others, generals, is_distinct}
use Rattle.label.specs.Mask.{IsFree}
use Rattle.label.specs.Oral.{AllBelow}
use Rattle.label.proofs.Counting.{on-push, distinct-push}
use Rattle.label.proofs.Masks.{counted}
use Rattle.label.proofs.Ranks.{range_push}
use Rattle.outbox.specs.Masks.{has_bit, members}
use Rattle.outbox.specs.Receivers.{struck}
use Rattle.outbox.proofs.RowLemmas.{all_below}

-- The numbers below `k` + 1 that pass a test are those below `k`, and `k` if it passes.
picked : (p : ℕ → Bool) (k : ℕ) → filter p (generals (suc k)) ≡ filter p (generals k) ++ cond (p k) (k ∷ []) []
picked p k =
    ap (filter p) (range_push 0 k ∙ ap (λ x. range_with_len 0 k ++ x ∷ []) (zero-add k))
    ∙ filter-append p (range_with_len 0 k) (k ∷ [])

picked_yes : (p : ℕ → Bool) (k : ℕ) → p k ≡ true → filter p (generals (suc k)) ≡ filter p (generals k) ++ k ∷ []
picked_yes p k h = picked p k ∙ ap (λ (b : Bool). filter p (generals k) ++ cond b (k ∷ []) []) h

picked_no : (p : ℕ → Bool) (k : ℕ) → p k ≡ false → filter p (generals (suc k)) ≡ filter p (generals k)
picked_no p k h = picked p k ∙ (ap (λ (b : Bool). filter p (generals k) ++ cond b (k ∷ []) []) h ∙ append-nil (filter p (generals k)))

pub next_yes : (p : ℕ → Bool) (k : ℕ) → p k ≡ true → filter p (generals k) ++ k ∷ [] ≡ filter p (generals (k + 1))
next_yes p k h = sym (ap (λ i. filter p (generals i)) (add-one k) ∙ picked_yes p k h)

pub next_no : (p : ℕ → Bool) (k : ℕ) → p k ≡ false → filter p (generals k) ≡ filter p (generals (k + 1))
next_no p k h = sym (ap (λ i. filter p (generals i)) (add-one k) ∙ picked_no p k h)

pub all_picked : (mask k : ℕ) → k ≡ 13 → filter (has_bit mask) (generals k) ≡ members mask
unfolding members
all_picked mask k e = ap (λ i. filter (has_bit mask) (generals i)) e

-- Two tests that agree keep the same numbers.
picked_alike : (p q : ℕ → Bool) (k : ℕ) → ((n : ℕ) → n < k → p n ≡ q n) → filter p (generals k) ≡ filter q (generals k)
picked_alike p q zero h = refl
picked_alike p q (suc k) h =
    let rest : filter p (generals k) ≡ filter q (generals k) = picked_alike p q k (λ n l. h n (omega arith)) in
    let here : p k ≡ q k = h k (omega arith) in
    picked p k
    ∙ (ap (λ xs. xs ++ cond (p k) (k ∷ []) []) rest ∙ (ap (λ (b : Bool). filter q (generals k) ++ cond b (k ∷ []) []) here ∙ sym (picked q k)))

-- A test that also requires a number to be below `m` keeps only those below `m`.
below_too : (p : ℕ → Bool) (m d : ℕ) → filter (λ n. nat_lt n m && p n) (generals (m + d)) ≡ filter p (generals m)
below_too p m zero =
    ap (λ k. filter (λ n. nat_lt n m && p n) (generals k)) (add-zero m)
    ∙ picked_alike (λ n. nat_lt n m && p n) p m (λ n l. ap (λ (b : Bool). b && p n) (lt-ltb n m l))
below_too p m (suc d) =
    let e : m + suc d ≡ suc (m + d) = omega arith in
    let past : nat_lt (m + d) m ≡ false = grind (arith, nat_tests) in
    ap (λ k. filter (λ n. nat_lt n m && p n) (generals k)) e
    ∙ (picked_no (λ n. nat_lt n m && p n) (m + d) (ap (λ (b : Bool). b && p (m + d)) past) ∙ below_too p m d)

pub members_others : (mask m : ℕ) (w : List ℕ) → m ≤ 13 → ((n : ℕ) → has_bit mask n ≡ (nat_lt n m && not (on w n))) → members mask ≡ others m w
unfolding members
members_others mask m w l h =
    let e : 13 ≡ m + (13 - m) = omega arith in
    picked_alike (has_bit mask) (λ n. nat_lt n m && not (on w n)) 13 (λ n less. h n)
    ∙ (ap (λ k. filter (λ n. nat_lt n m && not (on w n)) (generals k)) e ∙ below_too (λ n. not (on w n)) m (13 - m))

-- One number is removed.
less_one : (a : Bool) (j x : ℕ) (ys zs : List ℕ) → struck j ys ≡ zs → struck j (cond a (x ∷ ys) ys) ≡ cond (a && not (x == j)) (x ∷ zs) zs
less_one true j x ys zs e = ap (λ (t : List ℕ). cond (not (x == j)) (x ∷ t) t) e
less_one false j x ys zs e = e

struck_picked : (j : ℕ) (p : ℕ → Bool) (xs : List ℕ) → struck j (filter p xs) ≡ filter (λ x. p x && not (x == j)) xs
struck_picked j p [] = refl
struck_picked j p (x ∷ xs) = less_one (p x) j x (filter p xs) (filter (λ x. p x && not (x == j)) xs) (struck_picked j p xs)

pub members_struck : (mask mask' g : ℕ) → ((n : ℕ) → n < 16 → has_bit mask' n ≡ (not (n == g) && has_bit mask n)) → members mask' ≡ struck g (members mask)
unfolding members
members_struck mask mask' g h =
    picked_alike (has_bit mask') (λ x. has_bit mask x && not (x == g)) 13 (λ n l. h n (omega arith) ∙ and_comm (not (n == g)) (has_bit mask n))
    ∙ sym (struck_picked g (has_bit mask) (generals 13))

-- Which numbers are among those that pass a test.
on_one : (p : ℕ → Bool) (k g : ℕ) (xs : List ℕ) → on xs g ≡ (nat_lt g k && p g) → on (xs ++ cond (p k) (k ∷ []) []) g ≡ (nat_lt g (suc k) && p g)
on_one p k g xs ih = elim (cases_Bool (p k)) [
  | inl yes_k ↦ ap (λ (b : Bool). on (xs ++ cond b (k ∷ []) []) g) yes_k ∙ (on-push xs k g ∙ elim (eqb_tells k g) [
    | inl same ↦
        let here : p g ≡ true = ap p (sym same.1) ∙ yes_k in
        let up : nat_lt g (suc k) ≡ true = (let e = same.1 in grind (arith, nat_tests)) in
        rw (same.0, here, up, ih) (or_true (nat_lt g k && p g))
    | inr apart ↦
        let up : nat_lt g (suc k) ≡ nat_lt g k = (let e = apart.1 in grind (arith, nat_tests)) in
        rw (apart.0, up, ih) (or_false (nat_lt g k && p g))
  ])
  | inr no_k ↦ ap (λ (b : Bool). on (xs ++ cond b (k ∷ []) []) g) no_k ∙ (ap (λ ys. on ys g) (append-nil xs) ∙ (ih ∙ elim (eqb_tells k g) [
    | inl same ↦
        let here : p g ≡ false = ap p (sym same.1) ∙ no_k in
        rw here (and_false (nat_lt g k) (nat_lt g (suc k)))
    | inr apart ↦
        let up : nat_lt g (suc k) ≡ nat_lt g k = (let e = apart.1 in grind (arith, nat_tests)) in
        rw up refl
  ]))
]
  where
    or_true : (b : Bool) → (b || true) ≡ true
    or_true true = refl
    or_true false = refl

    or_false : (b : Bool) → (b || false) ≡ b
    or_false true = refl
    or_false false = refl

    and_false : (a b : Bool) → (a && false) ≡ (b && false)
    and_false true true = refl
    and_false true false = refl
    and_false false true = refl
    and_false false false = refl

on_picked : (p : ℕ → Bool) (k g : ℕ) → on (filter p (generals k)) g ≡ (nat_lt g k && p g)
on_picked p zero g = let none : nat_lt g 0 ≡ false = grind (arith, nat_tests) in rw none refl
on_picked p (suc k) g = ap (λ xs. on xs g) (picked p k) ∙ on_one p k g (filter p (generals k)) (on_picked p k g)

pub on_members : (mask g : ℕ) → on (members mask) g ≡ (nat_lt g 13 && has_bit mask g)
unfolding members
on_members mask g = on_picked (has_bit mask) 13 g

pub on_within : (mask g : ℕ) → g < 13 → has_bit mask g ≡ on (members mask) g
on_within mask g l = sym (on_members mask g ∙ ap (λ (b : Bool). b && has_bit mask g) (lt-ltb g 13 l))

-- The numbers are few, below 13, and different.
picked_few : (p : ℕ → Bool) (k : ℕ) → length (filter p (generals k)) ≤ k
picked_few p zero = omega arith
picked_few p (suc k) =
    let rest : length (filter p (generals k)) ≤ k = picked_few p k in
    let long : length (filter p (generals (suc k))) ≡ length (filter p (generals k)) + length (cond (p k) (k ∷ []) []) = ap length (picked p k) ∙ length-append (filter p (generals k)) (cond (p k) (k ∷ []) []) in
    let one : length (cond (p k) (k ∷ []) []) ≤ 1 = at_most (p k) k in
    omega arith
  where
    at_most : (b : Bool) (k : ℕ) → length (cond b (k ∷ []) []) ≤ 1
    at_most true k = omega arith
    at_most false k = omega arith

pub members_few : (mask : ℕ) → length (members mask) ≤ 13
unfolding members
members_few mask = picked_few (has_bit mask) 13

pub members_below : (mask : ℕ) → AllBelow 13 (members mask)
members_below mask = all_below 13 (members mask) (λ j there.
    let both = and_parts (nat_lt j 13) (has_bit mask j) (sym (on_members mask j) ∙ there) in
    ltb-true j 13 both.0)

picked_distinct : (p : ℕ → Bool) (k : ℕ) → is_distinct (filter p (generals k)) ≡ true
picked_distinct p zero = refl
picked_distinct p (suc k) = ap is_distinct (picked p k) ∙ elim (cases_Bool (p k)) [
  | inl yes_k ↦
      let past : nat_lt k k ≡ false = grind (arith, nat_tests) in
      let off : on (filter p (generals k)) k ≡ false = on_picked p k k ∙ ap (λ (b : Bool). b && p k) past in
      ap (λ (b : Bool). is_distinct (filter p (generals k) ++ cond b (k ∷ []) [])) yes_k ∙ distinct-push (filter p (generals k)) k (picked_distinct p k) off
  | inr no_k ↦
      ap (λ (b : Bool). is_distinct (filter p (generals k) ++ cond b (k ∷ []) [])) no_k ∙ (ap is_distinct (append-nil (filter p (generals k))) ∙ picked_distinct p k)
]

pub members_distinct : (mask : ℕ) → is_distinct (members mask) ≡ true
unfolding members
members_distinct mask = picked_distinct (has_bit mask) 13

-- How many numbers there are, counted by bits.
bit_told : (b : ℕ) → b < 2 → b ≡ cond (not (b == 1)) 0 1
bit_told zero l = refl
bit_told (suc zero) l = refl
bit_told (suc (suc b)) l = absurd (omega arith)

left_out : ℕ → List ℕ
left_out mask = filter (λ x. not (has_bit mask x)) (generals 32)

all_free : (mask : ℕ) → IsFree mask (left_out mask)
unfolding left_out
all_free mask = record {
  bits = λ j l.
      let away : on (left_out mask) j ≡ not (has_bit mask j) = on_picked (λ x. not (has_bit mask x)) 32 j ∙ ap (λ (b : Bool). b && not (has_bit mask j)) (lt-ltb j 32 l) in
      bit_told (bit_at mask j) (bit_at-lt mask j) ∙ sym (ap (λ (b : Bool). cond {A = ℕ} b 0 1) away);
}

pub members_counted : (mask : ℕ) → count_ones (bit_and mask (1 * 2 ^ 13 % 2 ^ 32 - 1)) ≡ length (members mask)
unfolding members left_out
members_counted mask =
    counted mask 13 (left_out mask) (omega arith) (all_free mask)
    ∙ ap length (picked_alike (λ j. not (on (left_out mask) j)) (has_bit mask) 13 (λ n l. back n l))
  where
    twice : (b : Bool) → not (not b) ≡ b
    twice true = refl
    twice false = refl

    back : (n : ℕ) → n < 13 → not (on (left_out mask) n) ≡ has_bit mask n
    back n l =
        let inside : nat_lt n 32 ≡ true = lt-ltb n 32 (omega arith) in
        ap not (on_picked (λ x. not (has_bit mask x)) 32 n ∙ ap (λ (b : Bool). b && not (has_bit mask n)) inside) ∙ twice (has_bit mask n)
