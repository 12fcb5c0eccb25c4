-- Adding or removing one bit of a mask, and the orders that are stored with the mask.
use Rattle.std.proofs.Common.{ℕ, zero, suc, ◌+◌, ◌%◌, ◌^◌, ◌*◌, ◌<◌, ◌≤◌, ◌≡◌, Bool, true, false, not, ◌||◌, ◌&&◌, List, [], ◌∷◌, length, get_or, set, refl, sym, ap, ◌∙◌, arith, inl, inr, Some, None, Option, bit_and, bit_or, w16}
use Rattle.std.specs.Prelude.{◌==◌, if◌then◌else◌}
use Rattle.std.specs.Int.{bit_at, bit_not}
use Rattle.std.proofs.lemmas.Bool.{ne_eqb, eq-eqb}
use Rattle.std.proofs.lemmas.Bool.Decides.{eqb_tells}
use Rattle.std.proofs.lemmas.List.{get_or_past}
use Rattle.std.proofs.lemmas.Nat.Bits.{bit_at_set_same, bit_at_set_other, bit_at_clear_same, bit_at_clear_other}
use Rattle.outbox.specs.Masks.{has_bit, kept_from}

pub with_one : (mask k : ℕ) → k < 16 → (n : ℕ) → has_bit (bit_or mask (1 * 2 ^ k % 2 ^ 16)) n ≡ (k == n || has_bit mask n)
with_one mask k l n =
    elim (eqb_tells k n) [
      | inl same ↦ rw same.0 (ap (λ (b : ℕ). b == 1) (ap (bit_at (bit_or mask (1 * 2 ^ k % 2 ^ 16))) (sym same.1) ∙ bit_at_set_same w16 mask k l))
      | inr apart ↦ rw apart.0 (ap (λ (b : ℕ). b == 1) (bit_at_set_other w16 mask k l n (λ e. apart.1 (sym e))))
    ]

pub without_one : (mask k : ℕ) → k < 16 → (n : ℕ) → n < 16 → has_bit (bit_and mask (bit_not w16 (1 * 2 ^ k % 2 ^ 16))) n ≡ (not (n == k) && has_bit mask n)
without_one mask k l n m =
    elim (eqb_tells n k) [
      | inl same ↦ rw same.0 (ap (λ (b : ℕ). b == 1) (ap (bit_at (bit_and mask (bit_not w16 (1 * 2 ^ k % 2 ^ 16)))) same.1 ∙ bit_at_clear_same w16 mask k l))
      | inr apart ↦ rw apart.0 (ap (λ (b : ℕ). b == 1) (bit_at_clear_other w16 mask k l n m apart.1))
    ]

-- Orders stored with a mask.
pub kept_long : (mask a : ℕ) (os : List ℕ) → length (kept_from mask a os) ≡ length os
kept_long mask a [] = refl
kept_long mask a (o ∷ os) = ap suc (kept_long mask (a + 1) os)

pub kept_at : (mask a i : ℕ) (os : List ℕ) → i < length os → get_or (kept_from mask a os) i None ≡ (if has_bit mask (a + i) then Some (get_or os i 0) else None)
kept_at mask a i [] l = absurd (omega arith)
kept_at mask a zero (o ∷ os) l =
    let e : a ≡ a + 0 = omega arith in
    ap (λ k. if has_bit mask k then Some o else None) e
kept_at mask a (suc i) (o ∷ os) l =
    let e : a + 1 + i ≡ a + suc i = omega arith in
    kept_at mask (a + 1) i os (omega arith) ∙ ap (λ k. if has_bit mask k then Some (get_or os i 0) else None) e

pub at_some : (mask : ℕ) (os : List ℕ) (now : List (Option ℕ)) (i : ℕ) → kept_from mask 0 os ≡ now → i < length os → has_bit mask i ≡ true → Some (get_or os i 0) ≡ get_or now i None
at_some mask os now i seen l h =
    let e : 0 + i ≡ i = omega arith in
    sym (ap (λ xs. get_or xs i None) (sym seen) ∙ (kept_at mask 0 i os l ∙ (ap (λ k. if has_bit mask k then Some (get_or os i 0) else None) e ∙ ap (λ (b : Bool). if b then Some (get_or os i 0) else None) h)))

pub at_none : (mask : ℕ) (os : List ℕ) (now : List (Option ℕ)) (i : ℕ) → kept_from mask 0 os ≡ now → i < length os → has_bit mask i ≡ false → None ≡ get_or now i None
at_none mask os now i seen l h =
    let e : 0 + i ≡ i = omega arith in
    sym (ap (λ xs. get_or xs i None) (sym seen) ∙ (kept_at mask 0 i os l ∙ (ap (λ k. if has_bit mask k then Some (get_or os i 0) else None) e ∙ ap (λ (b : Bool). if b then Some (get_or os i 0) else None) h)))

pub at_past : (mask : ℕ) (os : List ℕ) (now : List (Option ℕ)) (i : ℕ) → kept_from mask 0 os ≡ now → length os ≤ i → None ≡ get_or now i None
at_past mask os now i seen l =
    let long : length (kept_from mask 0 os) ≡ length os = kept_long mask 0 os in
    sym (ap (λ xs. get_or xs i None) (sym seen) ∙ get_or_past (kept_from mask 0 os) i None (omega arith))

-- Masks that agree from a number on keep the same orders.
kept_same : (mask mask' a : ℕ) (os : List ℕ) → ((n : ℕ) → a ≤ n → has_bit mask' n ≡ has_bit mask n) → kept_from mask' a os ≡ kept_from mask a os
kept_same mask mask' a [] h = refl
kept_same mask mask' a (o ∷ os) h =
    let rest : kept_from mask' (a + 1) os ≡ kept_from mask (a + 1) os = kept_same mask mask' (a + 1) os (λ n l. h n (omega arith)) in
    rw (h a (omega arith), rest) refl

kept_put : (mask mask' a i v : ℕ) (os : List ℕ) → ((n : ℕ) → has_bit mask' n ≡ ((a + i) == n || has_bit mask n)) → i < length os → kept_from mask' a (set os i v) ≡ set (kept_from mask a os) i (Some v)
kept_put mask mask' a i v [] h l = absurd (omega arith)
kept_put mask mask' a zero v (o ∷ os) h l =
    let same : a + 0 ≡ a = omega arith in
    let here : has_bit mask' a ≡ true = h a ∙ ap (λ (b : Bool). b || has_bit mask a) (eq-eqb (a + 0) a same) in
    let rest : kept_from mask' (a + 1) os ≡ kept_from mask (a + 1) os = kept_same mask mask' (a + 1) os (λ n m. h n ∙ ap (λ (b : Bool). b || has_bit mask n) (ne_eqb (a + 0) n (λ q. omega arith))) in
    rw (here, rest) refl
kept_put mask mask' a (suc i) v (o ∷ os) h l =
    let here : has_bit mask' a ≡ has_bit mask a = h a ∙ ap (λ (b : Bool). b || has_bit mask a) (ne_eqb (a + suc i) a (λ q. omega arith)) in
    let next : a + suc i ≡ a + 1 + i = omega arith in
    let rest : kept_from mask' (a + 1) (set os i v) ≡ set (kept_from mask (a + 1) os) i (Some v) = kept_put mask mask' (a + 1) i v os (λ n. h n ∙ ap (λ (k : ℕ). k == n || has_bit mask n) next) (omega arith) in
    rw (here, rest) refl

pub put_is : (mask mask' i v : ℕ) (os : List ℕ) (now : List (Option ℕ)) → kept_from mask 0 os ≡ now → ((n : ℕ) → has_bit mask' n ≡ (i == n || has_bit mask n)) → i < length os → kept_from mask' 0 (set os i v) ≡ set now i (Some v)
put_is mask mask' i v os now seen h l =
    let e : i ≡ 0 + i = omega arith in
    kept_put mask mask' 0 i v os (λ n. h n ∙ ap (λ (k : ℕ). k == n || has_bit mask n) e) l ∙ ap (λ xs. set xs i (Some v)) seen
