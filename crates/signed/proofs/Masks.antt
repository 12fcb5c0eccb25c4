-- Sets of generals as bits, and lists of generals.
use Rattle.std.proofs.Common.{◌≡◌, ℕ, zero, suc, ◌+◌, ◌-◌, ◌*◌, ◌%◌, ◌^◌, ◌<◌, ◌≤◌, min, Bool, true, false, not, cond, List, [], ◌∷◌, ◌++◌, length, take, refl, sym, ap, ◌∙◌, arith, inl, inr, bit_and, bit_or, w16, get_or, append-nil}
use Rattle.std.specs.Prelude.{filter, sum_by, ◌==◌, ◌&&◌, ◌||◌, nat_lt}
use Rattle.std.specs.Int.{bit_at, bit_not}
use Rattle.std.proofs.lemmas.Bool.{cases_Bool, ltb-true, ltb-false, lt-ltb, le-ltb, false_from_ne_true}
use Rattle.std.proofs.lemmas.List.Elements.{filter-append}
use Rattle.std.proofs.lemmas.List.Folds.{list_any_more}
use Rattle.std.proofs.lemmas.Bool.Decides.{eqb_tells}
use Rattle.std.proofs.lemmas.Nat.Bits.{bit_at_set_same, bit_at_set_other, bit_at_and, bit_at_not, bit_at-lt, bit_at_above, bit_at_ones, bit_at_ones_above, same_from_bits}
use Rattle.label.specs.Labels.{on, is_distinct, generals, others}
use Rattle.label.proofs.Counting.{range-on_within, others-distinct, others-on}
use Rattle.label.proofs.Ranks.{range_push}
use Rattle.signed.specs.Chains.{Chain}
use Rattle.signed.specs.Entries.{receivers_in}
use Rattle.signed.specs.Loyal.{bits_but}
use Rattle.signed.specs.Sending.{named}
use Rattle.signed.proofs.Dispatching.{on_others}
use Rattle.signed.proofs.Signing.{bits_are}
use Rattle.signed.proofs.Passing.{kept_alike}

pub one_more : (bits k : ℕ) → k < 16 → (g : ℕ) → bit_at (bit_or bits (1 * 2 ^ k % 2 ^ 16)) g ≡ cond (k == g) 1 (bit_at bits g)
one_more bits k l g = elim (eqb_tells k g) [
  | inl same ↦ rw same.0 (ap (bit_at (bit_or bits (1 * 2 ^ k % 2 ^ 16))) (sym same.1) ∙ bit_at_set_same w16 bits k l)
  | inr apart ↦ rw apart.0 (bit_at_set_other w16 bits k l g (λ e. apart.1 (sym e)))
]

none_left : (a x : ℕ) → x ≡ 0 → cond {A = ℕ} (a == 1) 0 x ≡ 0
none_left a x e = by (a == 1)
  where
    by : (b : Bool) → cond {A = ℕ} b 0 x ≡ 0
    by true = refl
    by false = e

-- One bit without another.
one_less : (x o : ℕ) → x < 2 → o < 2 → min x (1 - o) ≡ cond (o == 1) 0 x
one_less x o lx lo = elim (eqb_tells o 1) [
  | inl same ↦ rw same.0 (let e = same.1 in omega arith)
  | inr apart ↦ rw apart.0 (let ne = apart.1 in omega arith)
]

pub less : (bits others : ℕ) → bits < 2 ^ 16 → others < 2 ^ 16 → (g : ℕ) → bit_at (bit_and bits (bit_not w16 others)) g ≡ cond (bit_at others g == 1) 0 (bit_at bits g)
less bits others lb lo g = elim (cases_Bool (nat_lt g 16)) [
  | inl below ↦
      bit_at_and bits (bit_not w16 others) g
      ∙ (ap (λ (k : ℕ). min (bit_at bits g) k) (bit_at_not w16 others g lo (ltb-true g 16 below)) ∙ one_less (bit_at bits g) (bit_at others g) (bit_at-lt bits g) (bit_at-lt others g))
  | inr past ↦
      let none : bit_at bits g ≡ 0 = bit_at_above bits 16 g lb (ltb-false g 16 past) in
      bit_at_and bits (bit_not w16 others) g ∙ (ap (λ (k : ℕ). min k (bit_at (bit_not w16 others) g)) none ∙ ((omega arith) ∙ sym (none_left (bit_at others g) (bit_at bits g) none)))
]

pub first_ones : (n g : ℕ) → bit_at (2 ^ n - 1) g ≡ cond (nat_lt g n) 1 0
first_ones n g = elim (cases_Bool (nat_lt g n)) [
  | inl below ↦ rw below (bit_at_ones n g (ltb-true g n below))
  | inr past ↦ rw past (bit_at_ones_above n g (ltb-false g n past))
]

-- One more of different generals is added to the bits.
pub on_more : (xs : List ℕ) (i x g : ℕ) (bits : ℕ) → i < length xs → x ≡ get_or xs i 0 → bit_at bits g ≡ cond (on (take i xs) g) 1 0 → cond (x == g) 1 (bit_at bits g) ≡ cond (on (take (i + 1) xs) g) 1 0
on_more xs i x g bits lt is h =
    ap (λ (k : ℕ). cond (x == g) 1 k) h ∙ (by (on (take i xs) g) (x == g) ∙ sym (ap (λ (b : Bool). cond {A = ℕ} b 1 0) (list_any_more (λ y. y == g) xs i 0 lt ∙ ap (λ (y : ℕ). on (take i xs) g || (y == g)) (sym is))))
  where
    by : (a b : Bool) → cond {A = ℕ} b 1 (cond a 1 0) ≡ cond (a || b) 1 0
    by true true = refl
    by true false = refl
    by false true = refl
    by false false = refl

-- Numbers with the same bits are the same.
pub sum_is : (xs : List ℕ) (bits : ℕ) → is_distinct xs ≡ true → ((g : ℕ) → bit_at bits g ≡ cond (on xs g) 1 0) → bits ≡ sum_by (λ g. 2 ^ g) xs
sum_is xs bits d h = same_from_bits bits (sum_by (λ g. 2 ^ g) xs) (λ i. h i ∙ sym (bits_are xs i d))

-- Two tests agree below a number, and from there on the first fails.
pub narrow : (t u : ℕ → Bool) (n k : ℕ) → ((g : ℕ) → g < n → t g ≡ u g) → ((g : ℕ) → n ≤ g → t g ≡ false) → filter t (generals (n + k)) ≡ filter u (generals n)
narrow t u n zero same none =
    let e : n + 0 ≡ n = omega arith in
    ap (λ (m : ℕ). filter t (generals m)) e ∙ kept_alike t u (generals n) (λ g there. same g (let l = range-on_within 0 n g there in omega arith))
narrow t u n (suc k) same none =
    let e : n + suc k ≡ suc (n + k) = omega arith in
    let last : t (0 + (n + k)) ≡ false = none (0 + (n + k)) (omega arith) in
    ap (λ (m : ℕ). filter t (generals m)) e
    ∙ (ap (filter t) (range_push 0 (n + k))
    ∙ (filter-append t (generals (n + k)) ((0 + (n + k)) ∷ [])
    ∙ (ap (λ (b : Bool). filter t (generals (n + k)) ++ cond b ((0 + (n + k)) ∷ []) []) last
    ∙ (append-nil (filter t (generals (n + k))) ∙ narrow t u n k same none))))

below_16 : (t u : ℕ → Bool) (n : ℕ) → n ≤ 13 → ((g : ℕ) → g < n → t g ≡ u g) → ((g : ℕ) → n ≤ g → t g ≡ false) → filter t (generals 16) ≡ filter u (generals n)
below_16 t u n le same none =
    let e : 16 ≡ n + (16 - n) = omega arith in
    ap (λ (m : ℕ). filter t (generals m)) e ∙ narrow t u n (16 - n) same none

kept_bit : (x : ℕ) (b : Bool) → x < 2 → (cond {A = ℕ} (cond {A = ℕ} b 1 0 == 1) 0 (min x 1) == 1) ≡ ((x == 1) && not b)
kept_bit x true l = sym (and_no (x == 1))
  where
    and_no : (a : Bool) → (a && false) ≡ false
    and_no true = refl
    and_no false = refl
kept_bit x false l =
    let e : min x 1 ≡ x = omega arith in
    ap (λ (k : ℕ). k == 1) e ∙ sym (and_yes (x == 1))
  where
    and_yes : (a : Bool) → (a && true) ≡ a
    and_yes true = refl
    and_yes false = refl

-- The generals of a set below `n` who have not signed a chain.
pub left_are : (n bits mask other result : ℕ) (ch : Chain) → n ≤ 13 → ((g : ℕ) → bit_at mask g ≡ cond (nat_lt g n) 1 0) → ((g : ℕ) → bit_at other g ≡ cond (on ch.signers g) 1 0)
    → ((g : ℕ) → bit_at result g ≡ cond (bit_at other g == 1) 0 (bit_at (bit_and bits mask) g)) → named result ≡ receivers_in n bits ch
left_are n bits mask other result ch le masks others lefts =
    below_16 (λ g. bit_at result g == 1) (λ g. (bit_at bits g == 1) && not (on ch.signers g)) n le
    (λ g lt.
    ap (λ (k : ℕ). k == 1) (lefts g
    ∙ ((λ i. cond (others g i == 1) 0 (bit_at_and bits mask g i))
    ∙ ap (λ (k : ℕ). cond (cond {A = ℕ} (on ch.signers g) 1 0 == 1) 0 (min (bit_at bits g) k)) (masks g ∙ ap (λ (b : Bool). cond {A = ℕ} b 1 0) (lt-ltb g n lt))))
    ∙ kept_bit (bit_at bits g) (on ch.signers g) (bit_at-lt bits g))
    (λ g past.
    let off : bit_at mask g ≡ 0 = masks g ∙ ap (λ (b : Bool). cond {A = ℕ} b 1 0) (le-ltb g n past) in
    let none : bit_at (bit_and bits mask) g ≡ 0 = bit_at_and bits mask g ∙ (ap (λ (k : ℕ). min (bit_at bits g) k) off ∙ (omega arith)) in
    ap (λ (k : ℕ). k == 1) (lefts g ∙ none_left (bit_at other g) (bit_at (bit_and bits mask) g) none))

on_all_others : (n : ℕ) (names : List ℕ) (g : ℕ) → cond {A = ℕ} (on (others n names) g) 1 0 ≡ cond (cond {A = ℕ} (on names g) 1 0 == 1) 0 (cond (nat_lt g n) 1 0)
on_all_others n names g = elim (cases_Bool (nat_lt g n)) [
  | inl below ↦ rw below (ap (λ (b : Bool). cond {A = ℕ} b 1 0) (on_others n names g (ltb-true g n below)) ∙ by (on names g))
  | inr past ↦
      rw past (
      ap (λ (b : Bool). cond {A = ℕ} b 1 0) (false_from_ne_true (on (others n names) g) (λ h. let l = (others-on n names g h).0 in let m = ltb-false g n past in omega arith))
      ∙ sym (none_left (cond (on names g) 1 0) 0 refl))
]
  where
    by : (b : Bool) → cond {A = ℕ} (not b) 1 0 ≡ cond (cond {A = ℕ} b 1 0 == 1) 0 1
    by true = refl
    by false = refl

-- All generals below `n` who are not in the list.
pub but_are : (n mask other result : ℕ) (names : List ℕ) → ((g : ℕ) → bit_at mask g ≡ cond (nat_lt g n) 1 0) → ((g : ℕ) → bit_at other g ≡ cond (on names g) 1 0)
    → ((g : ℕ) → bit_at result g ≡ cond (bit_at other g == 1) 0 (bit_at mask g)) → result ≡ bits_but n names
but_are n mask other result names masks marks lefts =
    sum_is (others n names) result (others-distinct n names) (λ g. lefts g ∙ ((λ i. cond (marks g i == 1) 0 (masks g i)) ∙ sym (on_all_others n names g)))
