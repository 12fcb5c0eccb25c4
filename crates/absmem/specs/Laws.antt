-- Proves that the words of a set can be recomputed from its cells. The Model of `CellSet` cites this proof, and no
-- reader needs it.
use Rattle.std.proofs.Common.{◌≡◌, ℕ, zero, suc, ◌+◌, ◌-◌, ◌*◌, ◌/◌, ◌%◌, ◌^◌, ◌<◌, ◌≤◌, List, length, take, drop, Bool, false, refl, sym, ap, ◌∙◌, arith, get_or, cond}
use Rattle.std.specs.Prelude.{◌==◌, slice_range}
use Rattle.std.specs.Int.{bit_at}
use Rattle.std.specs.Simd.Lanes.{mask_l}
use Rattle.std.proofs.lemmas.List.{ext_get_or, length-take-le, length-drop, get_or-take, get_or-drop}
use Rattle.std.proofs.lemmas.List.FromFn.{length-map-range_with_len, get_or-map-range_with_len}
use Rattle.std.proofs.lemmas.Nat.Bits.{bit_at-lt, same_from_bits_below}
use Rattle.std.proofs.lemmas.Simd.{bit_mask_l, mask_l-lt}
use Rattle.absmem.specs.Members.{word_at, is_member, members, words_of, AreWords}

pub length-members : (words : List ℕ) → length (members words) ≡ 512
unfolding members
length-members words = length-map-range_with_len (is_member words) 0 512

pub member_at : (words : List ℕ) (k : ℕ) → k < 512 → get_or (members words) k false ≡ is_member words k
unfolding members
member_at words k lt = get_or-map-range_with_len (is_member words) 0 512 k k false lt (omega arith)

-- Testing whether a bit is 1, and turning the answer into 1 or 0, gives the bit again.
pub bit_of_test : (bit : ℕ) → bit < 2 → cond {A = ℕ} (bit == 1) 1 0 ≡ bit
bit_of_test zero lt = refl
bit_of_test (suc zero) lt = refl
bit_of_test (suc (suc n)) lt = absurd (omega arith)

-- Returns the cells of one word.
abbrev cells_of : List ℕ → ℕ → List Bool
cells_of words number = slice_range (members words) (64 * number) (64 * number + 64)

module _ (words : List ℕ) (number : ℕ) (lt : number < 8) where
  length-cells : length (cells_of words number) ≡ 64
  length-cells =
      let room : 64 ≤ length (drop (64 * number) (members words)) =
      omega (arith, length-drop (64 * number) (members words), length-members words) in
      let size : 64 * number + 64 - 64 * number ≡ 64 = omega arith in
      ap (λ n. length (take n (drop (64 * number) (members words)))) size ∙ length-take-le 64
      (drop (64 * number) (members words)) room

  cell-of : (i : ℕ) → i < 64 → get_or (cells_of words number) i false ≡ (bit_at (word_at words number) i == 1)
  cell-of i inside =
      let within : i < 64 * number + 64 - 64 * number = omega arith in
      let room : 64 * number + i < 512 = omega arith in
      let its_word : (64 * number + i) / 64 ≡ number = omega arith in
      let its_bit : (64 * number + i) % 64 ≡ i = omega arith in
      get_or-take (64 * number + 64 - 64 * number) (drop (64 * number) (members words)) i false within
      ∙ (get_or-drop (64 * number) (members words) i false
      ∙ (member_at words (64 * number + i) room
      ∙ (λ t. bit_at (word_at words (its_word t)) (its_bit t) == 1)))

  word-found : word_at words number < 2 ^ 64 → mask_l (cells_of words number) ≡ word_at words number
  word-found small =
      let large : mask_l (cells_of words number) < 2 ^ 64 =
      omega (arith, mask_l-lt (cells_of words number), ap (λ n. 2 ^ n) length-cells) in
      same_from_bits_below 64 (mask_l (cells_of words number)) (word_at words number) large small
      (λ i inside. bit_mask_l (cells_of words number) i
      ∙ (ap (λ t. cond {A = ℕ} t 1 0) (cell-of i inside) ∙ bit_of_test (bit_at (word_at words number) i)
      (bit_at-lt (word_at words number) i)))

pub words_of-members : (words : List ℕ) → AreWords words → words_of (members words) ≡ words
unfolding words_of
words_of-members words kept =
    let found : ℕ → ℕ = λ number. mask_l (cells_of words number) in
    let eight : length (words_of (members words)) ≡ 8 = length-map-range_with_len found 0 8 in
    ext_get_or 0 (words_of (members words)) words (eight ∙ sym kept.count)
    (λ number lt.
    let inside : number < 8 = omega (arith, eight) in
    get_or-map-range_with_len found 0 8 number number 0 inside (omega arith) ∙ word-found words number inside
    (kept.each number inside))
