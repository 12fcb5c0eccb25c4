-- Defines how much of a file is read: all of it, or only the front of a file that is too long.
use Rattle.std.specs.Prelude.{ℕ, ◌≡◌, ◌≤◌, ◌<◌, ◌++◌, List, Option, IfSome, length, take}
use Rattle.std.specs.Str.{IsUtf8}
use Rattle.streams.specs.declared.bounded_read.Within.{Within}
use Rattle.streams.specs.declared.bounded_read.Within.TheVariants.{Whole, Longer}

-- States that these are all bytes of the file, if its bytes are known.
abbrev pub AreBytes : Option (List ℕ) → List ℕ → Type 0
AreBytes known bytes = IfSome known (λ all. bytes ≡ all)

-- States what is read from a file that should have at most `most` bytes: all its bytes. From a longer file the result
-- has the number of its bytes, and a text that agrees with the file in the first `most` bytes.
abbrev pub IsWithin : ℕ → Option (List ℕ) → Within → Type 0
IsWithin most known (Whole bytes) = (length bytes.items ≤ most) × AreBytes known bytes.items
IsWithin most known (Longer front number) =
    (most < number) × IfSome known (λ all. (length all ≡ number) × (take most front.items ≡ take most all))

-- States that the result of a read has at most `most` bytes, whether they are the whole file or only its front.
abbrev pub HasAtMost : ℕ → Within → Type 0
HasAtMost most (Whole bytes) = length bytes.items ≤ most
HasAtMost most (Longer front number) = length front.items ≤ most

-- States that `front` is the front of a file whose bytes are `all`. If `front` has at most `most` bytes, it is the
-- whole file.
pub record BeginsSo (most : ℕ) (all front : List ℕ) : Type 0 where
  pub rest : List ℕ
  pub split : all ≡ front ++ rest
  pub whole : length front ≤ most → all ≡ front

abbrev pub IsFront : ℕ → Option (List ℕ) → List ℕ → Type 0
IsFront most known front = IfSome known (λ all. BeginsSo most all front)

-- States that a UTF-8 text can begin with these bytes.
abbrev pub MayBeginText : List ℕ → Type 0
MayBeginText front = (rest : List ℕ) × IsUtf8 (front ++ rest)
