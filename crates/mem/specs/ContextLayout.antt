-- The layout of a context (own).
use Rattle.std.specs.Prelude.{ℕ, ◌-◌, ◌+◌, ◌*◌, List, ◌∷◌, ◌++◌, length, take, flat_map, replicate, slice_range}
use Rattle.semantics.specs.Limits.{context_size}
use Rattle.word.specs.Bytes.{little_bytes, little_number}
use Rattle.label.specs.declared.shape.Shape.{Shape}

-- Returns the bytes of a context, 4,096: the given numbers as 4 little-endian bytes each, and then zeros.
unfoldable pub context_bytes : List ℕ → List ℕ
context_bytes numbers = take context_size (flat_map (little_bytes 4) numbers ++ replicate context_size 0)

-- Returns the numbers of a context: eight that describe the campaign, the general and the round, and then the order
-- that he took for each label that he relays.
abbrev pub context_numbers : Shape → ℕ → List ℕ → List ℕ
context_numbers shape bound values =
    shape.generals ∷ bound ∷ shape.general ∷ shape.commander ∷ shape.round ∷ length values ∷
    (shape.generals - shape.round) ∷ 0 ∷ values

-- Returns the number with index `word` in a context, which has 4 bytes.
abbrev pub number_told : List ℕ → ℕ → ℕ
number_told context word = little_number (slice_range context (4 * word) (4 * word + 4))

-- The index, in `context_numbers`, of the number of generals.
abbrev pub at_generals : ℕ
at_generals = 0

-- The index, in `context_numbers`, of the general.
abbrev pub at_general : ℕ
at_general = 2

-- The index, in `context_numbers`, of the commander.
abbrev pub at_commander : ℕ
at_commander = 3

-- The index, in `context_numbers`, of the round.
abbrev pub at_round : ℕ
at_round = 4

-- The index, in `context_numbers`, of the kind of messages: 0 if they are oral, 1 if they are signed.
abbrev pub at_kind : ℕ
at_kind = 7
