-- Defines the numbers that words can be: generals, bounds, orders, counts, seeds and depths (own).
use Rattle.std.specs.Prelude.{ℕ, nat_lt, ◌&&◌, ◌^◌, if◌then◌else◌, List, [], ◌∷◌, ◌++◌, Option, Some, None}
use Rattle.text.specs.Options.{◌>>=◌}
use Rattle.text.specs.Stop.{comma}
use Rattle.text.specs.Parts.{pieces}
use Rattle.text.specs.Number.{decimal_of}

-- Parses a decimal number less than `most`. Returns `None` for any other word.
abbrev pub below : ℕ → List ℕ → Option ℕ
below most word = decimal_of word >>= λ n. if nat_lt n most then Some n else None

-- Parses the number of a general, 0 to 12. Returns `None` for any other word.
unfoldable pub general_in : List ℕ → Option ℕ
general_in word = below 13 word

-- Parses an order, 0 to 4294967295. Returns `None` for any other word.
unfoldable pub order_in : List ℕ → Option ℕ
order_in word = below (2 ^ 32) word

-- Parses a count, 1 to 18446744073709551615. Returns `None` for any other word.
unfoldable pub count_in : List ℕ → Option ℕ
count_in word = decimal_of word >>= λ n. if nat_lt 0 n && nat_lt n (2 ^ 64) then Some n else None

-- Parses the seed of a random schedule, 0 to 18446744073709551615. Returns `None` for any other word.
unfoldable pub seed_in : List ℕ → Option ℕ
seed_in word = below (2 ^ 64) word

-- Returns a number of generals, 2 to 13.
unfoldable pub size_in : List ℕ → Option ℕ
size_in word = decimal_of word >>= λ n. if nat_lt 1 n && nat_lt n 14 then Some n else None

-- Parses a bound on the traitors, 0 to 4. Returns `None` for any other word.
unfoldable pub bound_in : List ℕ → Option ℕ
bound_in word = below 5 word

-- Parses a number of traitors, 0 to 12. Returns `None` for any other word.
unfoldable pub traitors_in : List ℕ → Option ℕ
traitors_in word = below 13 word

-- Parses a number of levels of a tree, 0 to 4. Returns `None` for any other word.
unfoldable pub depth_in : List ℕ → Option ℕ
depth_in word = below 5 word

-- Returns the generals `before`, and then those whose numbers these texts are. Returns `None` if one of the texts is
-- not the number of a general.
abbrev pub generals_behind : List ℕ → List (List ℕ) → Option (List ℕ)
generals_behind before [] = Some before
generals_behind before (part ∷ parts) = general_in part >>= λ g. generals_behind (before ++ g ∷ []) parts

-- Returns the generals that a word lists, such as `1,3`. Returns `None` if a part of the word, between commas, is not
-- the number of a general.
unfoldable pub generals_in : List ℕ → Option (List ℕ)
generals_in word = generals_behind [] (pieces comma word)
