-- The board as an object of one thread (its sequential specification, as in Herlihy and Wing 1990), and its ledger.
use Rattle.std.specs.Prelude.{ℕ, ◌≡◌, ◌<◌, ◌+◌, ◌%◌, ◌^◌, ◌==◌, if◌then◌else◌, List, [], ◌∷◌, All, length, take, drop, slice_index, slice_set}
use Rattle.semantics.specs.declared.request.Request.{Request}
use Rattle.semantics.specs.declared.request.Request.TheVariants.{Get, Swap, Add, Cas, Copy}

-- States that a list of words is a board: 64 words of 64 bits.
pub record IsBoard (words : List ℕ) : Type 0 where
  pub long : length words ≡ 64
  pub each : All (λ word. word < 2 ^ 64) words

-- Returns the board's reply to a request: for a copy the copied words, and otherwise the word as it was before the
-- request.
abbrev pub reply : List ℕ → Request → List ℕ
reply words (Get slot) = slice_index words slot ∷ []
reply words (Swap slot value) = slice_index words slot ∷ []
reply words (Add slot value) = slice_index words slot ∷ []
reply words (Cas slot expected new) = slice_index words slot ∷ []
reply words (Copy span) = take span.1 (drop span.0 words)

-- Returns the board's words after a request.
abbrev pub next : List ℕ → Request → List ℕ
next words (Get slot) = words
next words (Swap slot value) = slice_set words slot value
next words (Add slot value) = slice_set words slot ((slice_index words slot + value) % 2 ^ 64)
next words (Cas slot expected new) = if slice_index words slot == expected then slice_set words slot new else words
next words (Copy span) = words

-- An access: the general, the round, his request, and the board's reply.
pub record Access : Type 0 where
  pub general : ℕ
  pub round : ℕ
  pub request : Request
  pub reply : List ℕ

-- Returns the board's words after all accesses of a ledger, where it first had the given words.
abbrev pub words_after : List ℕ → List Access → List ℕ
words_after words [] = words
words_after words (a ∷ ledger) = words_after (next words a.request) ledger

-- States that a ledger is legal on a board with these words at the start: each reply is the one that the board gives
-- after the earlier accesses.
abbrev pub IsLegal : List ℕ → List Access → Type 0
IsLegal words [] = Unit {0}
IsLegal words (a ∷ ledger) = (a.reply ≡ reply words a.request) × IsLegal (next words a.request) ledger
