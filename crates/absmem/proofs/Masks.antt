-- Words with consecutive bits set.
use Rattle.std.proofs.Common.{◌≡◌, ℕ, zero, suc, ◌+◌, ◌-◌, ◌*◌, ◌%◌, ◌^◌, ◌<◌, ◌≤◌, ◌&&◌, refl, ap, ◌∙◌, arith, bit_and, bit_or, w64}
use Rattle.std.specs.Prelude.{◌==◌, ◌↔◌, IsTrue, min, max, if◌then◌else◌}
use Rattle.std.specs.Int.{bit_at, bit_not}
use Rattle.std.proofs.lemmas.Bool.{eqb-true, eq-eqb}
use Rattle.std.proofs.Math.Nat.{mod-eq_of_lt, mul_comm, mul-sub}
use Rattle.std.proofs.Math.Pow.{pow-lt, pow_mono}
use Rattle.std.proofs.lemmas.Nat.{and_le_r, pow-add, pow_pos}
use Rattle.std.proofs.lemmas.Nat.Bits.{bit_at-lt, bit_at_or, bit_at_and, bit_at_not, bit_at_mask_inside, bit_at_mask_below, bit_at_mask_above, same_from_bits_below}

-- ---- single bits

greater_bit : (a m : ℕ) → a < 2 → m < 2 → max a m ≡ (if m == 1 then 1 else a)
greater_bit a zero l r = omega arith
greater_bit a (suc zero) l r = omega arith
greater_bit a (suc (suc m)) l r = absurd (omega arith)

less_other : (a m : ℕ) → a < 2 → m < 2 → min a (1 - m) ≡ (if m == 1 then 0 else a)
less_other a zero l r = omega arith
less_other a (suc zero) l r = omega arith
less_other a (suc (suc m)) l r = absurd (omega arith)

pub both_bits : (a b : ℕ) → a < 2 → b < 2 → (min a b == 1) ≡ ((a == 1) && (b == 1))
both_bits zero b l r = let none : min 0 b ≡ 0 = omega arith in ap (λ n. n == 1) none
both_bits (suc zero) zero l r = refl
both_bits (suc zero) (suc zero) l r = refl
both_bits (suc zero) (suc (suc b)) l r = absurd (omega arith)
both_bits (suc (suc a)) b l r = absurd (omega arith)

pub bit_set : (word mask i : ℕ) → bit_at (bit_or word mask) i ≡ (if bit_at mask i == 1 then 1 else bit_at word i)
bit_set word mask i = bit_at_or word mask i ∙ greater_bit (bit_at word i) (bit_at mask i) (bit_at-lt word i) (bit_at-lt mask i)

pub bit_cleared : (word mask i : ℕ) → mask < 2 ^ 64 → i < 64 → bit_at (bit_and word (bit_not w64 mask)) i ≡ (if bit_at mask i == 1 then 0 else bit_at word i)
bit_cleared word mask i small lt =
    bit_at_and word (bit_not w64 mask) i
    ∙ (ap (min (bit_at word i)) (bit_at_not w64 mask i small lt) ∙ less_other (bit_at word i) (bit_at mask i) (bit_at-lt word i) (bit_at-lt mask i))

-- ---- a word that has a mask

pub has_mask : (word mask : ℕ) → mask < 2 ^ 64 → IsTrue (bit_and word mask == mask) ↔ ((i : ℕ) → i < 64 → bit_at mask i ≡ 1 → bit_at word i ≡ 1)
has_mask word mask small = (
  λ yes i lt one. omega (arith, bit_at_and word mask i, ap (λ n. bit_at n i) (eqb-true (bit_and word mask) mask yes), bit_at-lt word i),
  λ all. eq-eqb (bit_and word mask) mask (same_from_bits_below 64 (bit_and word mask) mask (omega (arith, and_le_r word mask)) small
      (λ i lt. bit_at_and word mask i ∙ lesser (bit_at word i) (bit_at mask i) (bit_at-lt word i) (bit_at-lt mask i) (all i lt))),
)
  where
    lesser : (a m : ℕ) → a < 2 → m < 2 → (m ≡ 1 → a ≡ 1) → min a m ≡ m
    lesser a zero l r h = omega arith
    lesser a (suc zero) l r h = omega (arith, h refl)
    lesser a (suc (suc m)) l r h = absurd (omega arith)

-- ---- the mask of a window

abbrev pub window : ℕ → ℕ → ℕ → ℕ
window number place end = 2 ^ min (end - 64 * number) 64 - 2 ^ (place - 64 * number)

module _ (number place end i : ℕ) (inner : i < 64) where
  pub window_inside : place ≤ 64 * number + i → 64 * number + i < end → bit_at (window number place end) i ≡ 1
  window_inside le lt = bit_at_mask_inside (place - 64 * number) (min (end - 64 * number) 64) i (omega arith) (omega arith)

  pub window_before : 64 * number + i < place → bit_at (window number place end) i ≡ 0
  window_before lt = bit_at_mask_below (place - 64 * number) (min (end - 64 * number) 64) i (omega arith)

  pub window_behind : end ≤ 64 * number + i → bit_at (window number place end) i ≡ 0
  window_behind le = bit_at_mask_above (place - 64 * number) (min (end - 64 * number) 64) i (omega arith)

-- The same for fewer than 64 cells, as the code computes it.
pub window_moved : (size up : ℕ) → size < 64 → size + up ≤ 64 →
    (1 * 2 ^ size % 18446744073709551616 - 1) * 2 ^ up % 18446744073709551616 ≡ 2 ^ (size + up) - 2 ^ up
window_moved size up few fits =
    let below : 2 ^ size < 2 ^ 64 = pow-lt few in
    let same : 1 * 2 ^ size ≡ 2 ^ size = omega arith in
    let one : 1 * 2 ^ size % 18446744073709551616 ≡ 2 ^ size = ap (λ (n : ℕ). n % 18446744073709551616) same ∙ mod-eq_of_lt below in
    let product : (2 ^ size - 1) * 2 ^ up ≡ 2 ^ (size + up) - 2 ^ up =
    mul_comm (2 ^ size - 1) (2 ^ up) ∙ (mul-sub (2 ^ up) (2 ^ size) 1
    ∙ omega (arith, mul_comm (2 ^ up) (2 ^ size), pow-add 2 size up)) in
    let small : 2 ^ (size + up) - 2 ^ up < 2 ^ 64 = omega (arith, pow_mono fits, pow_pos up) in
    ap (λ (n : ℕ). (n - 1) * 2 ^ up % 18446744073709551616) one
    ∙ (ap (λ (n : ℕ). n % 18446744073709551616) product ∙ mod-eq_of_lt small)
