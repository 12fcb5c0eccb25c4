-- Defines how much of a text may have been written if a write fails.
use Rattle.std.specs.Prelude.{ℕ, ◌≡◌, ◌++◌, List, Option}
use Rattle.std.specs.Io.KnownBytes.{Appends}

-- States that a stream contained `old` and now contains `new`, which is `old` followed by the front of the text: any
-- number of its first bytes. Nothing is stated if the contents are not known.
pub record AppendsFront (old new : Option (List ℕ)) (text : List ℕ) : Type 0 where
  pub front : List ℕ
  pub rest : List ℕ
  pub split : text ≡ front ++ rest
  pub written : Appends old new front
