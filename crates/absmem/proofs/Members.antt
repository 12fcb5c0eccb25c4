-- Sets of cells as words.
use Rattle.std.proofs.Common.{◌≡◌, ◌≢◌, ℕ, zero, suc, ◌+◌, ◌*◌, ◌/◌, ◌%◌, ◌^◌, ◌<◌, ◌≤◌, List, length, Bool, true, false, ◌&&◌, refl, sym, ap, subst, ◌∙◌, inl, inr, arith, get_or, set, get_or-set_same, get_or-set_other, length-set, replicate, bit_and}
use Rattle.std.specs.Prelude.{◌==◌, min, if◌then◌else◌}
use Rattle.std.specs.Int.{bit_at}
use Rattle.std.proofs.lemmas.Bool.{cases_lt, cases_eq, eqb-true}
use Rattle.std.proofs.lemmas.List.{ext_get_or, get_or_past, get_or-replicate, length-replicate}
use Rattle.std.proofs.lemmas.Nat.Bits.{bit_at-zero, bit_at-lt, bit_at_and}
use Rattle.absmem.specs.Known.{byte_at, IsSetTo}
use Rattle.absmem.specs.Members.{word_at, members, AreWords}
use Rattle.absmem.specs.Laws.{length-members, member_at}
use Rattle.absmem.proofs.Masks.{window, window_inside, window_before, window_behind, both_bits}

pub member_past : (words : List ℕ) (k : ℕ) → 512 ≤ k → byte_at (members words) k ≡ false
member_past words k le = get_or_past (members words) k false (omega (arith, length-members words))

-- ---- no cell

zero_everywhere : (n i : ℕ) → get_or {A = ℕ} (replicate n 0) i 0 ≡ 0
zero_everywhere zero i = refl
zero_everywhere (suc n) zero = refl
zero_everywhere (suc n) (suc i) = zero_everywhere n i

pub members-none : members (replicate 8 0) ≡ replicate 512 false
members-none = ext_get_or false (members (replicate 8 0)) (replicate 512 false) (length-members (replicate 8 0) ∙ sym (length-replicate 512 false))
    (λ k lt.
    let inside : k < 512 = omega (arith, length-members (replicate 8 0)) in
    member_at (replicate 8 0) k inside
    ∙ (ap (λ word. bit_at word (k % 64) == 1) (zero_everywhere 8 (k / 64)) ∙ (ap (λ bit. bit == 1) (bit_at-zero (k % 64)) ∙ sym (get_or-replicate 512 k false false inside))))

-- ---- one word written

pub words_set : (words : List ℕ) (number x : ℕ) → AreWords words → number < 8 → x < 2 ^ 64 → AreWords (set words number x)
words_set words number x kept lt small = record {
  count = length-set words number x ∙ kept.count;
  each = λ n less. elim (cases_eq n number) [
    | inl same ↦
        let inside : number < length words = omega (arith, kept.count) in
        subst (λ (m : ℕ). word_at (set words number x) m < 2 ^ 64) (sym same) (rw (get_or-set_same words number x 0 inside) small)
    | inr ne ↦ rw (get_or-set_other words number n x 0 ne) (kept.each n less)
  ];
}

module _ (words : List ℕ) (number x k : ℕ) where
  pub member_set_other : k / 64 ≢ number → byte_at (members (set words number x)) k ≡ byte_at (members words) k
  member_set_other ne =
      elim (cases_lt k 512) [
        | inl lt ↦ member_at (set words number x) k lt ∙ (ap (λ word. bit_at word (k % 64) == 1) (get_or-set_other words number (k / 64) x 0 ne) ∙ sym (member_at words k lt))
        | inr le ↦ member_past (set words number x) k le ∙ sym (member_past words k le)
      ]

  module _ (same : k / 64 ≡ number) (lt : number < 8) where
    pub member_here : byte_at (members words) k ≡ (bit_at (word_at words number) (k % 64) == 1)
    member_here = member_at words k (omega arith) ∙ ap (λ n. bit_at (word_at words n) (k % 64) == 1) same

    pub member_set_same : length words ≡ 8 → byte_at (members (set words number x)) k ≡ (bit_at x (k % 64) == 1)
    member_set_same long =
        let inside : number < length words = omega (arith, long) in
        member_at (set words number x) k (omega arith)
        ∙ (ap (λ n. bit_at (word_at (set words number x) n) (k % 64) == 1) same ∙ ap (λ word. bit_at word (k % 64) == 1) (get_or-set_same words number x 0 inside))

-- ---- a window set or cleared

as_told : (value : Bool) → ((if value then 1 else 0) == 1) ≡ value
as_told true = refl
as_told false = refl

-- The word has the bits of the mask set or cleared, and its other bits unchanged.
abbrev pub IsPut : Bool → ℕ → ℕ → ℕ → Type 0
IsPut value mask word x = (i : ℕ) → i < 64 → bit_at x i ≡ (if bit_at mask i == 1 then (if value then 1 else 0) else bit_at word i)

module _ (value : Bool) (old words : List ℕ) (number place end x : ℕ) (lt : number < 8) (long : length words ≡ 8) (put : IsPut value (window number place end) (word_at words number) x) where
  put_inside : (k : ℕ) → k / 64 ≡ number → place ≤ k → k < end → byte_at (members (set words number x)) k ≡ value
  put_inside k same le less =
      let inner : k % 64 < 64 = omega arith in
      let from : place ≤ 64 * number + k % 64 = omega arith in
      let to : 64 * number + k % 64 < end = omega arith in
      member_set_same words number x k same lt long
      ∙ (ap (λ bit. bit == 1) (put (k % 64) inner ∙ ap (λ bit. if bit == 1 then (if value then 1 else 0) else bit_at (word_at words number) (k % 64)) (window_inside number place end (k % 64) inner from to))
      ∙ as_told value)

  put_outside : (k : ℕ) → k / 64 ≡ number → bit_at (window number place end) (k % 64) ≡ 0 → byte_at (members (set words number x)) k ≡ byte_at (members words) k
  put_outside k same none =
      let inner : k % 64 < 64 = omega arith in
      member_set_same words number x k same lt long
      ∙ (ap (λ bit. bit == 1) (put (k % 64) inner ∙ ap (λ bit. if bit == 1 then (if value then 1 else 0) else bit_at (word_at words number) (k % 64)) none)
      ∙ sym (member_here words number x k same lt))

  put_before : (k : ℕ) → k < place → byte_at (members (set words number x)) k ≡ byte_at (members words) k
  put_before k less =
      elim (cases_eq (k / 64) number) [
        | inl same ↦ put_outside k same (window_before number place end (k % 64) (omega arith) (omega arith))
        | inr ne ↦ member_set_other words number x k ne
      ]

  put_behind : (k : ℕ) → min end (64 * (number + 1)) ≤ k → byte_at (members (set words number x)) k ≡ byte_at (members words) k
  put_behind k le =
      elim (cases_eq (k / 64) number) [
        | inl same ↦ put_outside k same (window_behind number place end (k % 64) (omega arith) (omega arith))
        | inr ne ↦ member_set_other words number x k ne
      ]

  -- One more word.
  pub window_more : IsSetTo value (members old) (members words) place (min end (64 * number)) → IsSetTo value (members old) (members (set words number x)) place (min end (64 * (number + 1)))
  window_more s = record {
    inside = λ k le less. elim (cases_eq (k / 64) number) [
      | inl same ↦ put_inside k same le (omega arith)
      | inr ne ↦ member_set_other words number x k ne ∙ s.inside k le (omega arith)
    ];
    before = λ k less. put_before k less ∙ s.before k less;
    behind = λ k le. put_behind k le ∙ s.behind k (omega arith);
  }

pub window_none : (value : Bool) (flags : List Bool) (place end : ℕ) → IsSetTo value flags flags place (min end (64 * (place / 64)))
window_none value flags place end = record {
  inside = λ k le less. absurd (omega arith);
  before = λ k less. refl;
  behind = λ k le. refl;
}

-- ---- what belongs to both

module _ (old other words : List ℕ) (number : ℕ) (lt : number < 8) (long : length words ≡ 8) where
  -- One more word.
  pub both_more : (x : ℕ) → x ≡ bit_and (word_at words number) (word_at other number) →
      ((k : ℕ) → k / 64 < number → byte_at (members words) k ≡ (byte_at (members old) k && byte_at (members other) k)) →
      ((k : ℕ) → number ≤ k / 64 → byte_at (members words) k ≡ byte_at (members old) k) →
      (k : ℕ) → k / 64 < number + 1 → byte_at (members (set words number x)) k ≡ (byte_at (members old) k && byte_at (members other) k)
  both_more x is done left k less =
      elim (cases_eq (k / 64) number) [
        | inl same ↦
            let here : byte_at (members old) k ≡ (bit_at (word_at words number) (k % 64) == 1) = sym (left k (omega arith)) ∙ member_here words number x k same lt in
            let there : byte_at (members other) k ≡ (bit_at (word_at other number) (k % 64) == 1) = member_here other number x k same lt in
            member_set_same words number x k same lt long
            ∙ (ap (λ bit. bit == 1) (ap (λ word. bit_at word (k % 64)) is ∙ bit_at_and (word_at words number) (word_at other number) (k % 64))
            ∙ (both_bits (bit_at (word_at words number) (k % 64)) (bit_at (word_at other number) (k % 64)) (bit_at-lt (word_at words number) (k % 64)) (bit_at-lt (word_at other number) (k % 64))
            ∙ (λ i. sym here i && sym there i)))
        | inr ne ↦ member_set_other words number x k ne ∙ done k (omega arith)
      ]

  pub left_more : (x : ℕ) → ((k : ℕ) → number ≤ k / 64 → byte_at (members words) k ≡ byte_at (members old) k) →
      (k : ℕ) → number + 1 ≤ k / 64 → byte_at (members (set words number x)) k ≡ byte_at (members old) k
  left_more x left k le = member_set_other words number x k (λ e. omega arith) ∙ left k (omega arith)

pub both_done : (flags others : List Bool) (old other words : List ℕ) → members old ≡ flags → members other ≡ others →
    ((k : ℕ) → k / 64 < 8 → byte_at (members words) k ≡ (byte_at (members old) k && byte_at (members other) k)) →
    (k : ℕ) → byte_at (members words) k ≡ (byte_at flags k && byte_at others k)
both_done flags others old other words seen_old seen_other done k =
    each ∙ (λ i. byte_at (seen_old i) k && byte_at (seen_other i) k)
  where
    each : byte_at (members words) k ≡ (byte_at (members old) k && byte_at (members other) k)
    each =
        elim (cases_lt k 512) [
          | inl lt ↦ done k (omega arith)
          | inr le ↦ member_past words k le ∙ ap (λ b. b && byte_at (members other) k) (sym (member_past old k le))
        ]

-- ---- a window whose cells are all in the set

abbrev pub HasCells : List Bool → ℕ → ℕ → Type 0
HasCells flags place end = (k : ℕ) → place ≤ k → k < end → byte_at flags k ≡ true

pub has_none : (words : List ℕ) (place end : ℕ) → HasCells (members words) place (min end (64 * (place / 64)))
has_none words place end k le less = absurd (omega arith)

module _ (words : List ℕ) (number place end : ℕ) (lt : number < 8) where
  -- One more word.
  pub has_more : ((i : ℕ) → i < 64 → bit_at (window number place end) i ≡ 1 → bit_at (word_at words number) i ≡ 1) → HasCells (members words) place (min end (64 * number)) →
      HasCells (members words) place (min end (64 * (number + 1)))
  has_more here before k le less =
      elim (cases_eq (k / 64) number) [
        | inl same ↦
            let inner : k % 64 < 64 = omega arith in
            member_here words number 0 k same lt ∙ ap (λ bit. bit == 1) (here (k % 64) inner (window_inside number place end (k % 64) inner (omega arith) (omega arith)))
        | inr ne ↦ before k le (omega arith)
      ]

  -- The bits of the word, if the set has all cells of the window.
  pub has_here : HasCells (members words) place end → (i : ℕ) → i < 64 → bit_at (window number place end) i ≡ 1 → bit_at (word_at words number) i ≡ 1
  has_here all i inner one =
      elim (cases_lt (64 * number + i) place) [
        | inl less ↦ absurd (omega (arith, window_before number place end i inner less))
        | inr from ↦ elim (cases_lt (64 * number + i) end) [
          | inl to ↦
              let its_word : (64 * number + i) / 64 ≡ number = omega arith in
              let its_bit : (64 * number + i) % 64 ≡ i = omega arith in
              eqb-true (bit_at (word_at words number) i) 1
              (ap (λ n. bit_at (word_at words number) n == 1) (sym its_bit) ∙ (sym (member_here words number 0 (64 * number + i) its_word lt) ∙ all (64 * number + i) from to))
          | inr behind ↦ absurd (omega (arith, window_behind number place end i inner behind))
        ]
      ]
