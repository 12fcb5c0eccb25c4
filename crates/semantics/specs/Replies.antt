-- Defines the words in a reply of the board.
use Rattle.std.specs.Prelude.{ℕ, List, [], ◌∷◌}
use Rattle.semantics.specs.declared.reply.Reply.{Reply}
use Rattle.semantics.specs.declared.reply.Reply.TheVariants.{Word, Words}

-- Returns the words in a reply: one, or the words of a copy.
abbrev pub words_in : Reply → List ℕ
words_in (Word word) = word ∷ []
words_in (Words words) = words
