-- The rows of the table of ranges: each interval contains the result for any two numbers, and is within the width.
use Rattle.std.proofs.Common.{◌≡◌, ◌∙◌, ℕ, ◌+◌, ◌-◌, ◌*◌, ◌/◌, ◌%◌, ◌^◌, ◌<◌, ◌≤◌, min, max, Bool, true, false, refl, arith}
use Rattle.std.specs.Prelude.{◌==◌, ◌&&◌, nat_lt, nat_le, if◌then◌else◌, bit_and, bit_or, bit_xor}
use Rattle.std.proofs.lemmas.Bool.{leb-true, ltb-true, eqb-true, eqb-false, and_parts}
use Rattle.std.proofs.lemmas.Nat.{mod_below, le-div, mul-le, pow_pos, and_le_l, and_le_r, or_lt, xor_lt, le_or_l, le_or_r}
use Rattle.std.proofs.Math.Nat.{mod-eq_of_lt, mod-eq-sub-mod, mod-le, div-le_self, div-mul-le_self, le_refl}
use Rattle.std.proofs.Math.Pow.{pow_mono}
use Rattle.range.specs.Interval.{IsIn}
use Rattle.range.specs.Table.{quotients, remainders, common_bits, joined_bits, differing_bits}
use Rattle.range.proofs.CoveringOnes.{ones_power, ones_least}
use Rattle.range.proofs.Growth.{product_within, div_grows}

-- States that the interval contains the number and is below the limit.
abbrev pub Holds : ℕ → ℕ × ℕ → ℕ → Type 0
Holds n p z = IsIn p.0 p.1 z × (p.1 < n)

pub by_test : {A : Type 0} (P : A → Type 0) (b : Bool) (p q : A) → (b ≡ true → P p) → (b ≡ false → P q) → P (if b then p else q)
by_test P true p q f g = f refl
by_test P false p q f g = g refl

mod_once : (s n : ℕ) → n ≤ s → s < n + n → s % n ≡ s - n
mod_once s n le lt = mod-eq-sub-mod le ∙ mod-eq_of_lt (omega arith)

pub whole_holds : (n z : ℕ) → z < n → Holds n (0, n - 1) z
whole_holds n z lt = ((omega arith, omega arith), omega arith)

whole_mod : (n z : ℕ) → 0 < n → Holds n (0, n - 1) (z % n)
whole_mod n z h = whole_holds n (z % n) (mod_below z n h)

pub sums_hold : (n la ha lb hb x y : ℕ) → 0 < n → ha < n → hb < n → IsIn la ha x → IsIn lb hb y →
    Holds n (if nat_lt (ha + hb) n then (la + lb, ha + hb) else (if nat_le n (la + lb) then ((la + lb) - n, (ha + hb) - n) else (0, n - 1))) ((x + y) % n)
sums_hold n la ha lb hb x y some ka kb p q =
    by_test (λ r. Holds n r ((x + y) % n)) (nat_lt (ha + hb) n) _ _
    (λ t. let h : ha + hb < n = ltb-true (ha + hb) n t in
    let e : (x + y) % n ≡ x + y = mod-eq_of_lt (omega (arith, p.1, q.1)) in
    rw e ((omega (arith, p.0, q.0), omega (arith, p.1, q.1)), h))
    (λ f. by_test (λ r. Holds n r ((x + y) % n)) (nat_le n (la + lb)) _ _
    (λ t. let h : n ≤ la + lb = leb-true n (la + lb) t in
    let e : (x + y) % n ≡ (x + y) - n = mod_once (x + y) n (omega (arith, p.0, q.0)) (omega (arith, p.1, q.1)) in
    rw e ((omega (arith, p.0, q.0), omega (arith, p.1, q.1)), omega arith))
    (λ g. whole_mod n (x + y) some))

pub differences_hold : (n la ha lb hb x y : ℕ) → 0 < n → ha < n → hb < n → IsIn la ha x → IsIn lb hb y →
    Holds n (if nat_le hb la then (la - hb, ha - lb) else (if nat_lt ha lb then ((la + n) - hb, (ha + n) - lb) else (0, n - 1))) ((x + (n - y)) % n)
differences_hold n la ha lb hb x y some ka kb p q =
    by_test (λ r. Holds n r ((x + (n - y)) % n)) (nat_le hb la) _ _
    (λ t. let h : hb ≤ la = leb-true hb la t in
    let e : (x + (n - y)) % n ≡ (x + (n - y)) - n = mod_once (x + (n - y)) n (omega (arith, p.0, q.1)) (omega (arith, p.0, p.1, q.0, q.1)) in
    rw e ((omega (arith, p.0, q.1), omega (arith, p.0, p.1, q.0, q.1)), omega arith))
    (λ f. by_test (λ r. Holds n r ((x + (n - y)) % n)) (nat_lt ha lb) _ _
    (λ t. let h : ha < lb = ltb-true ha lb t in
    let e : (x + (n - y)) % n ≡ x + (n - y) = mod-eq_of_lt (omega (arith, p.1, q.0, q.1)) in
    rw e ((omega (arith, p.0, p.1, q.0, q.1), omega (arith, p.0, p.1, q.0, q.1)), omega (arith, p.0, p.1, q.0, q.1)))
    (λ g. whole_mod n (x + (n - y)) some))

pub products_hold : (n la ha lb hb x y : ℕ) → 0 < n → IsIn la ha x → IsIn lb hb y →
    Holds n (if nat_lt (ha * hb) n then (la * lb, ha * hb) else (0, n - 1)) ((x * y) % n)
products_hold n la ha lb hb x y some p q =
    by_test (λ r. Holds n r ((x * y) % n)) (nat_lt (ha * hb) n) _ _
    (λ t. let h : ha * hb < n = ltb-true (ha * hb) n t in (product_within la ha lb hb x y n p.0 p.1 q.0 q.1 h, h))
    (λ f. whole_mod n (x * y) some)

quotient_grows : (a b m k : ℕ) → 0 < m → a ≤ b → m ≤ k → a / k ≤ b / m
quotient_grows a b m k some le more =
    let l : a / k * m ≤ a / k * k = mul-le (a / k) m (a / k) k (omega arith) more in
    le-div (a / k) b m some (omega (arith, l, div-mul-le_self a k))

pub quotients_hold : (n la ha lb hb x y : ℕ) → ha < n → IsIn la ha x → IsIn lb hb y → Holds n (quotients la ha lb hb) (if y == 0 then 0 else x / y)
quotients_hold n la ha lb hb x y ka p q =
    by_test (λ r. Holds n r (if y == 0 then 0 else x / y)) (nat_le 1 lb) _ _
    (λ t. let h : 1 ≤ lb = leb-true 1 lb t in
    by_test (λ z. Holds n (la / hb, ha / lb) z) (y == 0) 0 (x / y)
    (λ z. absurd (let e : y ≡ 0 = eqb-true y 0 z in omega (arith, q.0)))
    (λ z. ((quotient_grows la x y hb (omega (arith, q.0)) p.0 q.1, quotient_grows x ha lb y h p.1 q.0), omega (arith, div-le_self ha lb))))
    (λ f. by_test (λ r. Holds n r (if y == 0 then 0 else x / y)) (hb == 0) (0, 0) (0, ha)
    (λ t. let none : y ≡ 0 = let e : hb ≡ 0 = eqb-true hb 0 t in omega (arith, q.1) in
    by_test (λ z. Holds n (0, 0) z) (y == 0) 0 (x / y) (λ z. ((omega arith, omega arith), omega arith)) (λ z. absurd (eqb-false y 0 z none)))
    (λ g. by_test (λ z. Holds n (0, ha) z) (y == 0) 0 (x / y) (λ z. ((omega arith, omega arith), ka))
    (λ z. ((omega arith, omega (arith, div-le_self x y, p.1)), ka))))

pub remainders_hold : (n la ha lb hb x y : ℕ) → ha < n → IsIn la ha x → IsIn lb hb y → Holds n (remainders la ha lb hb) (if y == 0 then x else x % y)
remainders_hold n la ha lb hb x y ka p q =
    by_test (λ r. Holds n r (if y == 0 then x else x % y)) (nat_le 1 lb) _ _
    (λ t. let h : 1 ≤ lb = leb-true 1 lb t in
    by_test (λ z. Holds n (if nat_lt ha lb then (la, ha) else (0, min ha (hb - 1))) z) (y == 0) x (x % y)
    (λ z. absurd (let e : y ≡ 0 = eqb-true y 0 z in omega (arith, q.0)))
    (λ z. by_test (λ r. Holds n r (x % y)) (nat_lt ha lb) (la, ha) (0, min ha (hb - 1))
    (λ u. let less : ha < lb = ltb-true ha lb u in
    let e : x % y ≡ x = mod-eq_of_lt (omega (arith, p.1, q.0)) in rw e (p, ka))
    (λ u. let small : x % y < y = mod_below x y (omega (arith, q.0)) in
    ((omega arith, omega (arith, mod-le x y, p.1, q.1)), omega arith))))
    (λ f. by_test (λ r. Holds n r (if y == 0 then x else x % y)) (hb == 0) (la, ha) (0, ha)
    (λ t. let none : y ≡ 0 = let e : hb ≡ 0 = eqb-true hb 0 t in omega (arith, q.1) in
    by_test (λ z. Holds n (la, ha) z) (y == 0) x (x % y) (λ z. (p, ka)) (λ z. absurd (eqb-false y 0 z none)))
    (λ g. by_test (λ z. Holds n (0, ha) z) (y == 0) x (x % y) (λ z. ((omega arith, p.1), ka))
    (λ z. ((omega arith, omega (arith, mod-le x y, p.1)), ka))))

pub common_hold : (n la ha lb hb x y : ℕ) → ha < n → IsIn la ha x → IsIn lb hb y → Holds n (common_bits la ha lb hb) (bit_and x y)
common_hold n la ha lb hb x y ka p q = ((omega arith, omega (arith, and_le_l x y, and_le_r x y, p.1, q.1)), omega arith)

-- Proves the claim for two words of k bits.
pub joined_hold : (k la ha lb hb x y : ℕ) → k ≤ 64 → ha < 2 ^ k → hb < 2 ^ k → IsIn la ha x → IsIn lb hb y → Holds (2 ^ k) (joined_bits la ha lb hb) (bit_or x y)
joined_hold k la ha lb hb x y few ka kb p q =
    let wide : 2 ^ k ≤ 2 ^ 64 = pow_mono few in
    let small : max ha hb < 2 ^ 64 = omega arith in
    let m = ones_power (max ha hb) small in
    let l : x < 2 ^ m.0 = omega (arith, p.1, m.2) in
    let r : y < 2 ^ m.0 = omega (arith, q.1, m.2) in
    ((omega (arith, le_or_l x y, le_or_r x y, p.0, q.0), omega (arith, or_lt m.0 x y l r, m.1)), ones_least (max ha hb) k small (omega arith))

pub differing_hold : (k la ha lb hb x y : ℕ) → k ≤ 64 → ha < 2 ^ k → hb < 2 ^ k → IsIn la ha x → IsIn lb hb y → Holds (2 ^ k) (differing_bits la ha lb hb) (bit_xor x y)
differing_hold k la ha lb hb x y few ka kb p q =
    let wide : 2 ^ k ≤ 2 ^ 64 = pow_mono few in
    let small : max ha hb < 2 ^ 64 = omega arith in
    let m = ones_power (max ha hb) small in
    let l : x < 2 ^ m.0 = omega (arith, p.1, m.2) in
    let r : y < 2 ^ m.0 = omega (arith, q.1, m.2) in
    ((omega arith, omega (arith, xor_lt m.0 x y l r, m.1)), ones_least (max ha hb) k small (omega arith))

pub left_shifts_hold : (n k la ha lb hb x y : ℕ) → 0 < n → IsIn la ha x → IsIn lb hb y →
    Holds n (if (lb == hb) && nat_lt (ha * 2 ^ (lb % k)) n then (la * 2 ^ (lb % k), ha * 2 ^ (lb % k)) else (0, n - 1)) ((x * 2 ^ (y % k)) % n)
left_shifts_hold n k la ha lb hb x y some p q =
    by_test (λ r. Holds n r ((x * 2 ^ (y % k)) % n)) ((lb == hb) && nat_lt (ha * 2 ^ (lb % k)) n) _ _
    (λ t. let parts = and_parts (lb == hb) (nat_lt (ha * 2 ^ (lb % k)) n) t in
    let one : lb ≡ hb = eqb-true lb hb parts.0 in
    let same : y ≡ lb = omega (arith, q.0, q.1) in
    let h : ha * 2 ^ (lb % k) < n = ltb-true (ha * 2 ^ (lb % k)) n parts.1 in
    let l : la * 2 ^ (lb % k) ≤ x * 2 ^ (lb % k) = mul-le la (2 ^ (lb % k)) x (2 ^ (lb % k)) p.0 (le_refl (2 ^ (lb % k))) in
    let m : x * 2 ^ (lb % k) ≤ ha * 2 ^ (lb % k) = mul-le x (2 ^ (lb % k)) ha (2 ^ (lb % k)) p.1 (le_refl (2 ^ (lb % k))) in
    let e : (x * 2 ^ (lb % k)) % n ≡ x * 2 ^ (lb % k) = mod-eq_of_lt (omega arith) in
    rw same (rw e ((l, m), h)))
    (λ f. whole_mod n (x * 2 ^ (y % k)) some)

pub right_shifts_hold : (n k la ha lb hb x y : ℕ) → ha < n → IsIn la ha x → IsIn lb hb y →
    Holds n (if lb == hb then (la / 2 ^ (lb % k), ha / 2 ^ (lb % k)) else (0, ha)) (x / 2 ^ (y % k))
right_shifts_hold n k la ha lb hb x y ka p q =
    by_test (λ r. Holds n r (x / 2 ^ (y % k))) (lb == hb) _ _
    (λ t. let one : lb ≡ hb = eqb-true lb hb t in
    let same : y ≡ lb = omega (arith, q.0, q.1) in
    rw same ((div_grows la x (2 ^ (lb % k)) (pow_pos (lb % k)) p.0, div_grows x ha (2 ^ (lb % k)) (pow_pos (lb % k)) p.1), omega (arith, div-le_self ha (2 ^ (lb % k)))))
    (λ f. ((omega arith, omega (arith, div-le_self x (2 ^ (y % k)), p.1)), ka))
