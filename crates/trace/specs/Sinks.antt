-- What a sink has accepted of a text that was written to it (own).
use Rattle.std.specs.Prelude.{◌≡◌, ℕ, Bool, true, false, List, [], ◌++◌, Option}
use Rattle.std.specs.Io.KnownBytes.{Appends}

-- States that a text was written to a sink, which held `old` before and `new` after. `before` and `after` say whether
-- the sink had failed then. It has accepted `front`, which is a beginning of the text: all of it if the sink has not
-- failed after, and nothing if it had failed before.
pub record Wrote (old : Option (List ℕ)) (before : Bool) (text : List ℕ) (new : Option (List ℕ))
    (after : Bool) : Type 0 where
  pub front : List ℕ
  pub rest : List ℕ
  pub parts : text ≡ front ++ rest
  pub grown : Appends old new front
  pub whole : after ≡ false → rest ≡ []
  pub sound : after ≡ false → before ≡ false
  pub nothing : before ≡ true → front ≡ []

-- States that the text was written to a sink except for its end `left`, which is still in a buffer.
abbrev pub WroteBut : Option (List ℕ) → Bool → List ℕ → Option (List ℕ) → Bool → List ℕ → Type 0
WroteBut old before text new after left = (told : List ℕ) × Wrote old before told new after × (told ++ left ≡ text)
