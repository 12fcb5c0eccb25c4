-- Defines which known name is most similar to a misspelled word.
use Rattle.std.specs.Prelude.{ℕ, ◌/◌, List, [], ◌∷◌, Bool, ◌&&◌, nat_eq, nat_le, nat_lt, if◌then◌else◌, Option, None, Some, length}
use Rattle.strsim.specs.Edits.{levenshtein_row}

-- Returns the Levenshtein distance between a word and a name, as `strsim` computes it: how many bytes must at least be
-- inserted, deleted or replaced to change one into the other.
abbrev pub distance : List ℕ → List ℕ → ℕ
distance word name = levenshtein_row nat_eq word name (length name)

-- Returns the name with the lesser distance from the word, or `best` if both have the same.
abbrev pub nearer : List ℕ → List ℕ → List ℕ → List ℕ
nearer word best name = if nat_lt (distance word name) (distance word best) then name else best

-- Returns the name with the least distance from the word, the first one if there are several. `best` comes before the
-- list.
abbrev pub nearest : List ℕ → List ℕ → List (List ℕ) → List ℕ
nearest word best [] = best
nearest word best (name ∷ names) = nearest word (nearer word best name) names

-- Checks whether the word is not empty, and its distance from the name is at most half the word's size in bytes.
abbrev pub is_near : List ℕ → List ℕ → Bool
is_near word name = nat_lt 0 (length word) && nat_le (distance word name) (length word / 2)

-- Returns the name with the least distance from the word, if this distance is at most half the word's size in bytes.
unfoldable pub near : List ℕ → List (List ℕ) → Option (List ℕ)
near word names = if is_near word (nearest word [] names) then Some (nearest word [] names) else None
