-- The story of a scenario, which is the comments and blank lines at its head, and the text after it (own; TOML 1.0,
-- "Comment").
use Rattle.std.specs.Prelude.{ℕ, ◌+◌, ◌==◌, Bool, false, ◌||◌, ◌&&◌, not, if◌then◌else◌, List, [], ◌∷◌, drop, take}
use Rattle.label.specs.Labels.{on}

-- Returns whether the byte is a space, a tab, or part of a line end.
abbrev pub is_blank : ℕ → Bool
is_blank c = c == 32 || (c == 9 || (c == 13 || c == 10))

-- Returns how many bytes of the head of a scenario these bytes begin with. `within` says whether they begin inside a
-- comment. A comment goes from a number sign to the end of its line.
abbrev pub bytes_on : Bool → List ℕ → ℕ
bytes_on within [] = 0
bytes_on within (c ∷ cs) =
    if within || (is_blank c || c == 35) then 1 + bytes_on (not (c == 10) && (within || c == 35)) cs else 0

abbrev pub head_bytes : List ℕ → ℕ
head_bytes text = bytes_on false text

-- Returns the length in bytes of a scenario's story. It is 0 if the head, which is the first comments and blank lines,
-- has no comment.
abbrev pub story_bytes : List ℕ → ℕ
story_bytes text = if on (take (head_bytes text) text) 35 then head_bytes text else 0

abbrev pub story : List ℕ → List ℕ
story text = take (story_bytes text) text

abbrev pub behind_story : List ℕ → List ℕ
behind_story text = drop (story_bytes text) text
