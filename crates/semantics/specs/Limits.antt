-- Defines the limits of campaigns that concern calls and contexts.
use Rattle.std.specs.Prelude.{ℕ}

-- The greatest number of generals in a campaign, and of orders that send_row sets.
abbrev pub most_generals : ℕ
most_generals = 13

-- The number of cells of a stack. A cell is one byte.
abbrev pub stack_size : ℕ
stack_size = 512

-- The number of bytes of a context.
abbrev pub context_size : ℕ
context_size = 4096

-- The number of labels for which a context has room, 4 bytes for each after the first 32 bytes.
abbrev pub most_labels : ℕ
most_labels = 1016

-- The greatest number of chains of signatures that a general can hold.
abbrev pub most_held : ℕ
most_held = 384

-- The number of sets of generals, 2 ^ most_generals. A set is a number with one bit for each general.
abbrev pub receiver_sets : ℕ
receiver_sets = 8192

-- The number of words of the board.
abbrev pub board_words : ℕ
board_words = 64
