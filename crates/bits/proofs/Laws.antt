-- What known bits of operands mean for the results of operations.
use Rattle.std.proofs.Common.{◌≡◌, ◌∙◌, ℕ, ◌+◌, ◌-◌, ◌*◌, ◌/◌, ◌%◌, ◌^◌, ◌<◌, ◌≤◌, min, max, inl, inr, sym, ap, subst, arith}
use Rattle.std.specs.Int.{w64, bit_at, bit_not}
use Rattle.std.specs.Prelude.{bit_and, bit_or, bit_xor}
use Rattle.std.proofs.lemmas.Bool.{cases_lt}
use Rattle.std.proofs.lemmas.Nat.{and_le_l, or_lt, xor_lt, le_or_l}
use Rattle.std.proofs.lemmas.Nat.Bits.{bit_at-lt, bit_at-zero, bit_at_and, bit_at_or, bit_at_xor, bit_at_not, bit_at_above, bit_at_cat_low, bit_at_ones, same_from_bits}
use Rattle.word.specs.declared.Width.{Width}
use Rattle.word.specs.declared.Width.TheVariants.{W32, W64}
use Rattle.word.specs.Arithmetic.{bits_of}
use Rattle.bits.specs.Known.{HasBits, unknown, less, joined, joined_mask, common, either, differing}
use Rattle.bits.proofs.Digits.{and_digit, or_digit, xor_digit, join_digit, join_digit_right}

pub less_at : (a b i : ℕ) → a < 2 ^ 64 → b < 2 ^ 64 → bit_at (less a b) i ≡ min (bit_at a i) (1 - bit_at b i)
less_at a b i h k = bit_at_and a (bit_not w64 b) i ∙ elim (cases_lt i 64) [
  | inl lt ↦ ap (λ z. min (bit_at a i) z) (bit_at_not w64 b i k lt)
  | inr ge ↦ let z : bit_at a i ≡ 0 = bit_at_above a 64 i h ge in rw z (omega arith)
]

pub less_lt : (a b : ℕ) → a < 2 ^ 64 → less a b < 2 ^ 64
less_lt a b h = omega (arith, and_le_l a (bit_not w64 b))

pub or_below : (a b : ℕ) → a < 2 ^ 64 → b < 2 ^ 64 → bit_or a b < 2 ^ 64
or_below a b h k = or_lt 64 a b h k

pub xor_below : (a b : ℕ) → a < 2 ^ 64 → b < 2 ^ 64 → bit_xor a b < 2 ^ 64
xor_below a b h k = xor_lt 64 a b h k

-- Proves that no bit is set in both numbers.
pub apart_at : (m v i : ℕ) → bit_and m v ≡ 0 → min (bit_at m i) (bit_at v i) ≡ 0
apart_at m v i e = sym (bit_at_and m v i) ∙ ap (λ z. bit_at z i) e ∙ bit_at-zero i

pub and_holds : (m v n w x y : ℕ) → m < 2 ^ 64 → v < 2 ^ 64 → n < 2 ^ 64 → w < 2 ^ 64 → bit_and m v ≡ 0 → bit_and n w ≡ 0 → HasBits (m, v) x → HasBits (n, w) y →
    HasBits (common (m, v) (n, w)) (bit_and x y)
and_holds m v n w x y lm lv ln lw am an h k = record {
  word = omega (arith, and_le_l x y, h.word);
  same = λ i e. bit_at_and x y i ∙ and_digit (bit_at m i) (bit_at v i) (bit_at x i) (bit_at n i) (bit_at w i) (bit_at y i) (bit_at (bit_and v w) i) (bit_at (bit_or v m) i) (bit_at (bit_or w n) i)
      (bit_at (bit_and (bit_or v m) (bit_or w n)) i) (bit_at (less (bit_and (bit_or v m) (bit_or w n)) (bit_and v w)) i)
      (bit_at-lt m i) (bit_at-lt v i) (bit_at-lt x i) (bit_at-lt n i) (bit_at-lt w i) (bit_at-lt y i) (apart_at m v i am) (apart_at n w i an) (h.same i) (k.same i)
      (less_at (bit_and (bit_or v m) (bit_or w n)) (bit_and v w) i (omega (arith, and_le_l (bit_or v m) (bit_or w n), or_lt 64 v m lv lm)) (omega (arith, and_le_l v w)))
      (bit_at_and (bit_or v m) (bit_or w n) i) (bit_at_or v m i) (bit_at_or w n i) (bit_at_and v w i) e;
}

pub or_holds : (m v n w x y : ℕ) → m < 2 ^ 64 → v < 2 ^ 64 → n < 2 ^ 64 → w < 2 ^ 64 → bit_and m v ≡ 0 → bit_and n w ≡ 0 → HasBits (m, v) x → HasBits (n, w) y →
    HasBits (either (m, v) (n, w)) (bit_or x y)
or_holds m v n w x y lm lv ln lw am an h k = record {
  word = or_lt 64 x y h.word k.word;
  same = λ i e. bit_at_or x y i ∙ or_digit (bit_at m i) (bit_at v i) (bit_at x i) (bit_at n i) (bit_at w i) (bit_at y i) (bit_at (bit_or v w) i) (bit_at (bit_or m n) i)
      (bit_at (less (bit_or m n) (bit_or v w)) i)
      (bit_at-lt m i) (bit_at-lt v i) (bit_at-lt x i) (bit_at-lt n i) (bit_at-lt w i) (bit_at-lt y i) (apart_at m v i am) (apart_at n w i an) (h.same i) (k.same i)
      (less_at (bit_or m n) (bit_or v w) i (or_lt 64 m n lm ln) (or_lt 64 v w lv lw))
      (bit_at_or m n i) (bit_at_or v w i) e;
}

pub xor_holds : (m v n w x y : ℕ) → m < 2 ^ 64 → v < 2 ^ 64 → n < 2 ^ 64 → w < 2 ^ 64 → HasBits (m, v) x → HasBits (n, w) y →
    HasBits (differing (m, v) (n, w)) (bit_xor x y)
xor_holds m v n w x y lm lv ln lw h k = record {
  word = xor_lt 64 x y h.word k.word;
  same = λ i e. bit_at_xor x y i ∙ xor_digit (bit_at m i) (bit_at v i) (bit_at x i) (bit_at n i) (bit_at w i) (bit_at y i) (bit_at (bit_or m n) i) (bit_at (bit_xor v w) i)
      (bit_at (less (bit_xor v w) (bit_or m n)) i)
      (bit_at-lt m i) (bit_at-lt v i) (bit_at-lt x i) (bit_at-lt n i) (bit_at-lt w i) (bit_at-lt y i) (h.same i) (k.same i)
      (less_at (bit_xor v w) (bit_or m n) i (xor_lt 64 v w lv lw) (or_lt 64 m n lm ln))
      (bit_at_xor v w i) (bit_at_or m n i) e;
}

joined_at : (m v n w i : ℕ) → bit_at (joined_mask (m, v) (n, w)) i ≡ max (max (bit_at m i) (bit_at n i)) (bit_at (bit_xor v w) i)
joined_at m v n w i = bit_at_or (bit_or m n) (bit_xor v w) i ∙ ap (λ z. max z (bit_at (bit_xor v w) i)) (bit_at_or m n i)

pub joined_lt : (m v n w : ℕ) → m < 2 ^ 64 → v < 2 ^ 64 → n < 2 ^ 64 → w < 2 ^ 64 → joined_mask (m, v) (n, w) < 2 ^ 64
joined_lt m v n w lm lv ln lw = or_lt 64 (bit_or m n) (bit_xor v w) (or_lt 64 m n lm ln) (xor_lt 64 v w lv lw)

pub joined_left : (m v n w x : ℕ) → m < 2 ^ 64 → v < 2 ^ 64 → n < 2 ^ 64 → w < 2 ^ 64 → HasBits (m, v) x → HasBits (joined (m, v) (n, w)) x
joined_left m v n w x lm lv ln lw h = record {
  word = h.word;
  same = λ i e. join_digit (bit_at m i) (bit_at v i) (bit_at x i) (bit_at n i) (bit_at w i) (bit_at (bit_xor v w) i) (bit_at (joined_mask (m, v) (n, w)) i) (bit_at (less v (joined_mask (m, v) (n, w))) i)
      (bit_at-lt m i) (bit_at-lt v i) (bit_at-lt x i) (bit_at-lt n i) (bit_at-lt w i) (h.same i)
      (joined_at m v n w i) (bit_at_xor v w i) (less_at v (joined_mask (m, v) (n, w)) i lv (joined_lt m v n w lm lv ln lw)) e;
}

pub joined_right : (m v n w x : ℕ) → m < 2 ^ 64 → v < 2 ^ 64 → n < 2 ^ 64 → w < 2 ^ 64 → HasBits (n, w) x → HasBits (joined (m, v) (n, w)) x
joined_right m v n w x lm lv ln lw h = record {
  word = h.word;
  same = λ i e. join_digit_right (bit_at m i) (bit_at v i) (bit_at x i) (bit_at n i) (bit_at w i) (bit_at (bit_xor v w) i) (bit_at (joined_mask (m, v) (n, w)) i) (bit_at (less v (joined_mask (m, v) (n, w))) i)
      (bit_at-lt m i) (bit_at-lt v i) (bit_at-lt x i) (bit_at-lt n i) (bit_at-lt w i) (h.same i)
      (joined_at m v n w i) (bit_at_xor v w i) (less_at v (joined_mask (m, v) (n, w)) i lv (joined_lt m v n w lm lv ln lw)) e;
}

-- Proves that the bits which another number does not have are separate from it.
pub less_apart : (a b : ℕ) → a < 2 ^ 64 → b < 2 ^ 64 → bit_and b (less a b) ≡ 0
less_apart a b h k = same_from_bits _ _ (λ i.
    let e = bit_at_and b (less a b) i in
    let f = less_at a b i h k in
    let l = bit_at-lt b i in
    let z = bit_at-zero i in
    digits (bit_at a i) (bit_at b i) (bit_at (less a b) i) (bit_at (bit_and b (less a b)) i) l e f ∙ sym z)
  where
    digits : (p q c r : ℕ) → q < 2 → r ≡ min q c → c ≡ min p (1 - q) → r ≡ 0
    digits p q c r l e f = grind arith

-- Proves which bits the low 32 bits are.
cut_low : (a i : ℕ) → i < 32 → bit_at (a % 2 ^ 32) i ≡ bit_at a i
cut_low a i lt =
    let e : (a / 2 ^ 32) * 2 ^ 32 + a % 2 ^ 32 ≡ a = omega arith in
    sym (bit_at_cat_low (a / 2 ^ 32) 32 (a % 2 ^ 32) i lt) ∙ ap (λ z. bit_at z i) e

cut_high : (a i : ℕ) → 32 ≤ i → bit_at (a % 2 ^ 32) i ≡ 0
cut_high a i ge = bit_at_above (a % 2 ^ 32) 32 i (omega arith) ge

pub cut_holds : (m v x : ℕ) → HasBits (m, v) x → HasBits (m % 2 ^ 32, v % 2 ^ 32) (x % 2 ^ 32)
cut_holds m v x h = record {
  word = omega arith;
  same = λ i e. elim (cases_lt i 32) [
    | inl lt ↦ cut_low x i lt ∙ h.same i (sym (cut_low m i lt) ∙ e) ∙ sym (cut_low v i lt)
    | inr ge ↦ cut_high x i ge ∙ sym (cut_high v i ge)
  ];
}

pub cut_apart : (m v : ℕ) → bit_and m v ≡ 0 → bit_and (m % 2 ^ 32) (v % 2 ^ 32) ≡ 0
cut_apart m v e = same_from_bits _ _ (λ i. bit_at_and (m % 2 ^ 32) (v % 2 ^ 32) i ∙ elim (cases_lt i 32) [
  | inl lt ↦ let a = cut_low m i lt in let b = cut_low v i lt in rw (a, b) (apart_at m v i e) ∙ sym (bit_at-zero i)
  | inr ge ↦ let a = cut_high m i ge in rw a (omega arith) ∙ sym (bit_at-zero i)
])

-- Proves the claim if all bits of a width are unknown.
pub unknown_holds : (k x : ℕ) → k ≤ 64 → x < 2 ^ k → x < 2 ^ 64 → HasBits (2 ^ k - 1, 0) x
unknown_holds k x le h l = record {
  word = l;
  same = λ i e. elim (cases_lt i k) [
    | inl lt ↦ absurd (one (bit_at (2 ^ k - 1) i) (bit_at_ones k i lt) e)
    | inr ge ↦ bit_at_above x k i h ge ∙ sym (bit_at-zero i)
  ];
} where
  one : (n : ℕ) → n ≡ 1 → n ≡ 0 → ⊥
  one n p q = omega arith

pub unknown_has : (w : Width) (x : ℕ) → x < 2 ^ bits_of w → HasBits (unknown w) x
unknown_has W32 x h = unknown_holds 32 x (omega arith) h (omega arith)
unknown_has W64 x h = unknown_holds 64 x (omega arith) h h

pub unknown_at : (v w : Width) (x : ℕ) → v ≡ w → x < 2 ^ bits_of v → HasBits (unknown w) x
unknown_at v w x e h = unknown_has w x (subst (λ (u : Width). x < 2 ^ bits_of u) e h)

-- Proves that a word with these known bits is the value with some bits of the mask.
pub masked_same : (m v x : ℕ) → HasBits (m, v) x → bit_or x m ≡ bit_or v m
masked_same m v x h = same_from_bits _ _ (λ i.
    bit_at_or x m i ∙ digits (bit_at m i) (bit_at v i) (bit_at x i) (bit_at-lt m i) (bit_at-lt v i) (bit_at-lt x i) (h.same i) ∙ sym (bit_at_or v m i))
  where
    digits : (m v x : ℕ) → m < 2 → v < 2 → x < 2 → (m ≡ 0 → x ≡ v) → max x m ≡ max v m
    digits m v x lm lv lx h = grind arith

pub masked_has : (m v x : ℕ) → x < 2 ^ 64 → bit_or x m ≡ bit_or v m → HasBits (m, v) x
masked_has m v x l e = record {
  word = l;
  same = λ i z. digits (bit_at m i) (bit_at v i) (bit_at x i) (sym (bit_at_or x m i) ∙ ap (λ n. bit_at n i) e ∙ bit_at_or v m i) z;
} where
  digits : (m v x : ℕ) → max x m ≡ max v m → m ≡ 0 → x ≡ v
  digits m v x e z = grind arith

pub greatest_above : (m v x : ℕ) → HasBits (m, v) x → x ≤ bit_or v m
greatest_above m v x h = omega (arith, le_or_l x m, masked_same m v x h)

pub least_below : (m v x : ℕ) → bit_and m v ≡ 0 → HasBits (m, v) x → v ≤ x
least_below m v x e h =
    let same : bit_and x v ≡ v = same_from_bits _ _ (λ i.
    bit_at_and x v i ∙ digits (bit_at m i) (bit_at v i) (bit_at x i) (bit_at-lt m i) (bit_at-lt v i) (apart_at m v i e) (h.same i)) in
    omega (arith, and_le_l x v, same)
  where
    digits : (m v x : ℕ) → m < 2 → v < 2 → min m v ≡ 0 → (m ≡ 0 → x ≡ v) → min x v ≡ v
    digits m v x lm lv e h = grind arith
