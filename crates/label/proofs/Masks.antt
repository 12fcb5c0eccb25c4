-- The bits of a mask, and how many of them are set.
use Rattle.std.proofs.Common.{ℕ, zero, suc, ◌-◌, ◌*◌, ◌%◌, ◌^◌, min, ◌<◌, ◌≤◌, ◌≡◌, Bool, true, false, not, cond, List, [], ◌∷◌, ◌++◌, map, length, get_or, refl, sym, ap, ◌∙◌, arith, inl, inr, bit_and, w32}
use Rattle.std.specs.Prelude.{◌==◌, ◌||◌}
use Rattle.std.specs.Int.{bit_at, bit_not}
use Rattle.std.specs.Int.RustNames.{count_ones}
use lib.Lanes.{mask_l}
use Rattle.std.proofs.lemmas.Bool.{cases_eq, cases_lt, or_right, eq-eqb, ne_eqb}
use Rattle.std.proofs.lemmas.Nat.Bits.{bit_at_clear_same, bit_at_clear_other, bit_at_ones, bit_at_ones_above, bit_at_and, same_from_bits}
use Rattle.std.proofs.lemmas.Nat.{one_shl}
use Rattle.std.proofs.lemmas.Simd.{ones-mask_l, bit_mask_l}
use Rattle.std.proofs.lemmas.List.Sums.{length-filter}
use Rattle.std.proofs.lemmas.List.FromFn.{get_or-map-range_with_len, length-map-range_with_len}
use Rattle.label.specs.Labels.{on, others, generals}
use Rattle.label.proofs.Counting.{on-push}
use Rattle.label.specs.Mask.{IsFree}

-- Proves that in the mask with all bits set every general is free.
pub all-free : IsFree (2 ^ 32 - 1) []
all-free = record { bits = λ j l. bit_at_ones 32 j l }

-- Proves that a general is no longer free after his bit is cleared.
pub struck : (free g : ℕ) (v : List ℕ) → g < 32 → IsFree free v → IsFree (bit_and free (bit_not w32 (1 * 2 ^ g % 2 ^ 32))) (v ++ g ∷ [])
struck free g v l f = record {
  bits = λ j within. elim (cases_eq j g) [
    | inl same ↦ rw same (bit_at_clear_same w32 free g l ∙ sym (ap (λ (b : Bool). cond {A = ℕ} b 0 1) (on-push v g g ∙ or_right (on v g) (g == g) (eq-eqb g g refl))))
    | inr ne ↦ bit_at_clear_other w32 free g l j within ne ∙ (f.bits j within ∙ sym (ap (λ (b : Bool). cond {A = ℕ} b 0 1) (on-push v g j ∙ or_other (on v j) (g == j) (ne_eqb g j (λ e. ne (sym e))))))
  ];
}
  where
    or_other : (a b : Bool) → b ≡ false → (a || b) ≡ a
    or_other true b e = refl
    or_other false b e = e

-- Proves that there is no bit beyond the end.
past : (xs : List Bool) (i : ℕ) → length xs ≤ i → get_or xs i false ≡ false
past [] i l = refl
past (x ∷ xs) zero l = absurd (omega arith)
past (x ∷ xs) (suc i) l = past xs i (omega arith)

-- Proves which bits below a general are set.
pub below : (free g : ℕ) (v : List ℕ) → g < 32 → IsFree free v → bit_and free (2 ^ g - 1) ≡ mask_l (map (λ j. not (on v j)) (generals g))
below free g v l f = same_from_bits (bit_and free (2 ^ g - 1)) (mask_l (map (λ j. not (on v j)) (generals g))) (λ i. elim (cases_lt i g) [
  | inl less ↦
      let one : bit_at (2 ^ g - 1) i ≡ 1 = bit_at_ones g i less in
      let here : bit_at free i ≡ cond (on v i) 0 1 = f.bits i (omega arith) in
      let read : get_or (map (λ j. not (on v j)) (generals g)) i false ≡ not (on v i) = get_or-map-range_with_len (λ j. not (on v j)) 0 g i i false less (omega arith) in
      bit_at_and free (2 ^ g - 1) i ∙ (rw (one, here) (turn (on v i)) ∙ sym (bit_mask_l (map (λ j. not (on v j)) (generals g)) i ∙ ap (λ (b : Bool). cond {A = ℕ} b 1 0) read))
  | inr more ↦
      let none : bit_at (2 ^ g - 1) i ≡ 0 = bit_at_ones_above g i more in
      let long : length (map (λ j. not (on v j)) (generals g)) ≡ g = length-map-range_with_len (λ j. not (on v j)) 0 g in
      let read : get_or (map (λ j. not (on v j)) (generals g)) i false ≡ false = past (map (λ j. not (on v j)) (generals g)) i (omega arith) in
      bit_at_and free (2 ^ g - 1) i ∙ (rw none (omega arith) ∙ sym (bit_mask_l (map (λ j. not (on v j)) (generals g)) i ∙ ap (λ (b : Bool). cond {A = ℕ} b 1 0) read))
])
  where
    turn : (b : Bool) → min (cond b 0 1) 1 ≡ cond (not b) 1 0
    turn true = refl
    turn false = refl

-- Proves how many bits below a general are set.
pub counted : (free g : ℕ) (v : List ℕ) → g < 32 → IsFree free v → count_ones (bit_and free (1 * 2 ^ g % 2 ^ 32 - 1)) ≡ length (others g v)
counted free g v l f =
    let shift : 1 * 2 ^ g % 2 ^ 32 ≡ 2 ^ g = one_shl g 32 l in
    rw (shift, below free g v l f) (ones-mask_l (λ j. not (on v j)) (generals g) ∙ sym (length-filter (λ j. not (on v j)) (generals g)))
