-- Defines a set of the 512 stack cells as eight words: bit `k % 64` of word `k / 64` says whether cell k is in it.
use Rattle.std.specs.Prelude.{ℕ, ◌+◌, ◌*◌, ◌^◌, ◌/◌, ◌%◌, ◌<◌, ◌≡◌, ◌==◌, Bool, List, length, map, slice_index_or, slice_range}
use Rattle.std.specs.Int.{bit_at}
use Rattle.std.specs.List.{range_with_len}
use Rattle.std.specs.Simd.Lanes.{mask_l}
use Rattle.semantics.specs.Limits.{stack_size}

-- Returns the word at index `number` of a set, or 0 after the last word.
abbrev pub word_at : List ℕ → ℕ → ℕ
word_at words number = slice_index_or words number 0

-- Checks whether cell `k` is in the set.
abbrev pub is_member : List ℕ → ℕ → Bool
is_member words k = bit_at (word_at words (k / 64)) (k % 64) == 1

-- Returns for each stack cell whether it is in the set.
unfoldable pub members : List ℕ → List Bool
members words = map (is_member words) (range_with_len 0 stack_size)

-- Returns the eight words of a set, from a list that says for each stack cell whether it is in the set.
unfoldable pub words_of : List Bool → List ℕ
words_of flags = map (λ number. mask_l (slice_range flags (64 * number) (64 * number + 64))) (range_with_len 0 8)

-- States that there are eight words, each of 64 bits.
pub record AreWords (words : List ℕ) : Type 0 where
  pub count : length words ≡ 8
  pub each : (number : ℕ) → number < 8 → word_at words number < 2 ^ 64
