-- The commanders that are asked about: one that is given, or every general.
use Rattle.std.specs.Prelude.{ℕ, ◌<◌, ◌≡◌, ◌==◌, Bool, true, List, unwrap_or, Option, None, Some}
use Rattle.bounds.specs.Tolerance.{Tolerates}
use Rattle.lies.specs.Break.{ToleratesUnder}

-- Returns whether general c is asked about as commander: he is the given one, or none is given.
abbrev pub is_asked : Option ℕ → ℕ → Bool
is_asked None c = true
is_asked (Some given) c = given == c

-- States that general c is one of n generals, and is asked about as commander.
pub record IsAsked (n : ℕ) (given : Option ℕ) (c : ℕ) : Type 0 where
  pub general : c < n
  pub asked : is_asked given c ≡ true

-- Returns the first commander asked about.
abbrev pub first_asked : Option ℕ → ℕ
first_asked given = unwrap_or given 0

-- States that OM(m) with the rule f tolerates k traitors among n generals under each commander asked about. If none is
-- given, this is the tolerance that bounds on traitors are about.
abbrev pub ToleratesAsked : (List ℕ → ℕ) → ℕ → ℕ → ℕ → Option ℕ → Type 0
ToleratesAsked f n m k None = Tolerates f n m k
ToleratesAsked f n m k (Some given) = ToleratesUnder f n m k given
