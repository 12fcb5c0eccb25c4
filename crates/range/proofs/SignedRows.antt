-- The rows of signed operations: numbers that are not negative are read as they are, and results fit the width.
use Rattle.std.proofs.Common.{◌≡◌, ◌∙◌, ℕ, ℤ, pos, negsuc, zero, suc, neg_ℤ, ◌-◌, ◌/◌, ◌%◌, ◌^◌, ◌<◌, ◌≤◌, refl, ap, ap₂, arith, w32, w64}
use Rattle.std.specs.Prelude.{◌==◌, ◌&&◌, nat_lt, if◌then◌else◌, int_div, int_rem}
use Rattle.std.specs.Int.{int_shr}
use Rattle.std.specs.Int.Signed.{mag, mag_rem, mag_shr}
use Rattle.std.proofs.lemmas.Bool.{ltb-true, and_parts}
use Rattle.std.proofs.lemmas.Bool.Decides.{nat_tests}
use Rattle.std.proofs.lemmas.Int.{to_z_pos}
use Rattle.std.proofs.Math.Nat.{div-le_self}
use Rattle.word.specs.declared.Width.{Width}
use Rattle.word.specs.declared.Width.TheVariants.{W32, W64}
use Rattle.word.specs.Arithmetic.{bits_of, signed, unsigned}
use Rattle.range.specs.Interval.{IsIn}
use Rattle.range.specs.Table.{sign_limit, signed_quotients, signed_remainders, signed_shifts}
use Rattle.range.proofs.Extending.{unsigned_pos}
use Rattle.range.proofs.RangeRows.{Holds, by_test, whole_holds, quotients_hold, remainders_hold, right_shifts_hold}

pub signed_small : (w : Width) (a : ℕ) → a < sign_limit w → signed w a ≡ pos a
signed_small W32 a h = to_z_pos w32 a h
signed_small W64 a h = to_z_pos w64 a h

pub unsigned_below : (w : Width) (z : ℤ) → mag z < 2 ^ bits_of w → unsigned w z < 2 ^ bits_of w
unsigned_below W32 (pos n) h = h
unsigned_below W64 (pos n) h = h
unsigned_below W32 (negsuc n) h = omega arith
unsigned_below W64 (negsuc n) h = omega arith

signed_mag : (w : Width) (a : ℕ) → a < 2 ^ bits_of w → mag (signed w a) < 2 ^ (bits_of w - 1)
signed_mag W32 a h = grind (arith, nat_tests)
signed_mag W64 a h = grind (arith, nat_tests)

away : (n m : ℕ) → m < n → mag (neg_ℤ (pos m)) < n
away n zero h = omega arith
away n (suc m) h = omega arith

quotient_mag : (h n : ℕ) (y z : ℤ) → h < n → mag y < h → mag (int_div y z) < n
quotient_mag h n (pos a) (pos b) l m = let le : a / b ≤ a = div-le_self a b in omega arith
quotient_mag h n (pos a) (negsuc b) l m = let le : a / suc b ≤ a = div-le_self a (suc b) in away n (a / suc b) (omega arith)
quotient_mag h n (negsuc a) (pos b) l m = let le : suc a / b ≤ suc a = div-le_self (suc a) b in away n (suc a / b) (omega arith)
quotient_mag h n (negsuc a) (negsuc b) l m = let le : suc a / suc b ≤ suc a = div-le_self (suc a) (suc b) in omega arith

half_less : (w : Width) → 2 ^ (bits_of w - 1) < 2 ^ bits_of w
half_less W32 = omega arith
half_less W64 = omega arith

below_less : (w : Width) (m : ℕ) (z : ℤ) → m ≤ mag z → mag z < 2 ^ (bits_of w - 1) → m < 2 ^ bits_of w
below_less w m z le h = let less : 2 ^ (bits_of w - 1) < 2 ^ bits_of w = half_less w in omega arith

abbrev signed_quotient : Width → ℕ → ℕ → ℕ
signed_quotient w x y = if y == 0 then 0 else unsigned w (int_div (signed w x) (signed w y))

abbrev signed_remainder : Width → ℕ → ℕ → ℕ
signed_remainder w x y = if y == 0 then x else unsigned w (int_rem (signed w x) (signed w y))

pub some_word : (w : Width) → 0 < 2 ^ bits_of w
some_word W32 = omega arith
some_word W64 = omega arith

quotient_small : (w : Width) (x y : ℕ) → x < sign_limit w → y < sign_limit w → signed_quotient w x y ≡ (if y == 0 then 0 else x / y)
quotient_small w x y h k =
    ap₂ (λ (a b : ℤ). if y == 0 then 0 else unsigned w (int_div a b)) (signed_small w x h) (signed_small w y k)
    ∙ ap (λ (n : ℕ). if y == 0 then 0 else n) (unsigned_pos w (x / y))

remainder_small : (w : Width) (x y : ℕ) → x < sign_limit w → y < sign_limit w → signed_remainder w x y ≡ (if y == 0 then x else x % y)
remainder_small w x y h k =
    ap₂ (λ (a b : ℤ). if y == 0 then x else unsigned w (int_rem a b)) (signed_small w x h) (signed_small w y k)
    ∙ ap (λ (n : ℕ). if y == 0 then x else n) (unsigned_pos w (x % y))

pub signed_quotients_hold : (w : Width) (la ha lb hb x y : ℕ) → ha < 2 ^ bits_of w → hb < 2 ^ bits_of w → IsIn la ha x → IsIn lb hb y →
    Holds (2 ^ bits_of w) (signed_quotients w la ha lb hb) (signed_quotient w x y)
signed_quotients_hold w la ha lb hb x y ka kb p q =
    by_test (λ r. Holds (2 ^ bits_of w) r (signed_quotient w x y)) (nat_lt ha (sign_limit w) && nat_lt hb (sign_limit w)) _ _
    (λ t. let parts = and_parts (nat_lt ha (sign_limit w)) (nat_lt hb (sign_limit w)) t in
    let l : ha < sign_limit w = ltb-true ha (sign_limit w) parts.0 in
    let m : hb < sign_limit w = ltb-true hb (sign_limit w) parts.1 in
    rw (quotient_small w x y (omega (arith, p.1)) (omega (arith, q.1))) (quotients_hold (2 ^ bits_of w) la ha lb hb x y ka p q))
    (λ f. whole_holds (2 ^ bits_of w) (signed_quotient w x y)
    (by_test (λ z. z < 2 ^ bits_of w) (y == 0) 0 _ (λ z. some_word w)
    (λ z. unsigned_below w (int_div (signed w x) (signed w y))
    (quotient_mag (2 ^ (bits_of w - 1)) (2 ^ bits_of w) (signed w x) (signed w y) (half_less w) (signed_mag w x (omega (arith, p.1)))))))

pub signed_remainders_hold : (w : Width) (la ha lb hb x y : ℕ) → ha < 2 ^ bits_of w → hb < 2 ^ bits_of w → IsIn la ha x → IsIn lb hb y →
    Holds (2 ^ bits_of w) (signed_remainders w la ha lb hb) (signed_remainder w x y)
signed_remainders_hold w la ha lb hb x y ka kb p q =
    by_test (λ r. Holds (2 ^ bits_of w) r (signed_remainder w x y)) (nat_lt ha (sign_limit w) && nat_lt hb (sign_limit w)) _ _
    (λ t. let parts = and_parts (nat_lt ha (sign_limit w)) (nat_lt hb (sign_limit w)) t in
    let l : ha < sign_limit w = ltb-true ha (sign_limit w) parts.0 in
    let m : hb < sign_limit w = ltb-true hb (sign_limit w) parts.1 in
    rw (remainder_small w x y (omega (arith, p.1)) (omega (arith, q.1))) (remainders_hold (2 ^ bits_of w) la ha lb hb x y ka p q))
    (λ f. whole_holds (2 ^ bits_of w) (signed_remainder w x y)
    (by_test (λ z. z < 2 ^ bits_of w) (y == 0) x _ (λ z. omega (arith, p.1))
    (λ z. unsigned_below w (int_rem (signed w x) (signed w y))
    (below_less w (mag (int_rem (signed w x) (signed w y))) (signed w x) (mag_rem (signed w x) (signed w y)) (signed_mag w x (omega (arith, p.1)))))))

shift_small : (w : Width) (x k : ℕ) → x < sign_limit w → unsigned w (int_shr (signed w x) k) ≡ x / 2 ^ k
shift_small w x k h = ap (λ (a : ℤ). unsigned w (int_shr a k)) (signed_small w x h) ∙ unsigned_pos w (x / 2 ^ k)

pub signed_shifts_hold : (w : Width) (la ha lb hb x y : ℕ) → ha < 2 ^ bits_of w → IsIn la ha x → IsIn lb hb y →
    Holds (2 ^ bits_of w) (signed_shifts w la ha lb hb) (unsigned w (int_shr (signed w x) (y % bits_of w)))
signed_shifts_hold w la ha lb hb x y ka p q =
    by_test (λ r. Holds (2 ^ bits_of w) r (unsigned w (int_shr (signed w x) (y % bits_of w)))) (nat_lt ha (sign_limit w)) _ _
    (λ t. let l : ha < sign_limit w = ltb-true ha (sign_limit w) t in
    rw (shift_small w x (y % bits_of w) (omega (arith, p.1))) (right_shifts_hold (2 ^ bits_of w) (bits_of w) la ha lb hb x y ka p q))
    (λ f. whole_holds (2 ^ bits_of w) _
    (unsigned_below w (int_shr (signed w x) (y % bits_of w))
    (below_less w (mag (int_shr (signed w x) (y % bits_of w))) (signed w x) (mag_shr (signed w x) (2 ^ (y % bits_of w))) (signed_mag w x (omega (arith, p.1))))))
