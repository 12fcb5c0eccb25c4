-- Defines the story of a scenario: the comments and blank lines before its first key (own; TOML 1.0, "Comment").
use Rattle.std.specs.Prelude.{ℕ, ◌==◌, Bool, true, false, ◌||◌, ◌&&◌, not, if◌then◌else◌, List, [], ◌∷◌, ◌++◌, bytes_eq}
use Rattle.cli_words.specs.declared.tasks.Task.{Task}
use Rattle.cli_words.specs.declared.tasks.Task.TheVariants.{Page}

-- Checks whether a byte is a space, a tab, a carriage return or a line feed.
abbrev pub is_blank : ℕ → Bool
is_blank c = c == 32 || (c == 9 || (c == 13 || c == 10))

-- Returns the longest beginning of these bytes that has only comments and blank lines. A comment goes from a number
-- sign to the end of its line. The flag says that the bytes begin within a comment.
abbrev pub story_on : Bool → List ℕ → List ℕ
story_on within [] = []
story_on within (c ∷ cs) =
    if within || (is_blank c || c == 35) then c ∷ story_on (not (c == 10) && (within || c == 35)) cs else []

-- Returns the story of a scenario: the comments and blank lines before its first key.
abbrev pub story : List ℕ → List ℕ
story bytes = story_on false bytes

-- Checks whether the task is `page`.
abbrev pub is_page : Task → Bool
is_page (Page scenario course target) = true
is_page _ = false

-- Returns the bytes that are read as the scenario. `own` is the scenario as the user wrote it, and `bytes` is the same
-- with the content of the named files in it. For a page the comments and blank lines at the head of `own` are put
-- before `bytes`, unless the two are equal.
abbrev pub with_story : Task → List ℕ → List ℕ → List ℕ
with_story task own bytes = if is_page task && not (bytes_eq bytes own) then story own ++ bytes else bytes
