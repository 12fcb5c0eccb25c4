-- Defines which words are numbers and ranges of numbers, such as `4` and `4..7` (docs/FORMATS.md, "Surveys").
use Rattle.std.specs.Prelude.{ℕ, ◌≡◌, ◌≤◌, ◌<◌, ◌⊎◌, List, ◌++◌, codes, Some}
use Rattle.text.specs.Number.{decimal_of}

-- States that the words `front` and `back` are the decimal numbers `low` and `high`.
abbrev pub AreTold : List ℕ → List ℕ → ℕ → ℕ → Type 0
AreTold front back low high = (decimal_of front ≡ Some low) × (decimal_of back ≡ Some high)

-- States that the word has the form `LOW..HIGH` with the numbers `low` and `high`.
pub record IsSpread (word : List ℕ) (low high : ℕ) : Type 0 where
  pub front : List ℕ
  pub back : List ℕ
  pub whole : word ≡ front ++ codes ".." ++ back
  pub told : AreTold front back low high

-- States that the word is the range from `low` to `high`: one number for both, or `LOW..HIGH`.
abbrev pub IsTold : List ℕ → ℕ → ℕ → Type 0
IsTold word low high = AreTold word word low high ⊎ IsSpread word low high

-- States that the word is not a range whose first number is at most the second and whose second number is less than the
-- limit.
abbrev pub IsNoSpan : ℕ → List ℕ → Type 0
IsNoSpan limit word = (low high : ℕ) → IsTold word low high → low ≤ high → high < limit → ⊥
