use Rattle.std.proofs.Common.{ℕ}
use denote.Text.{Utf8}
use denote.Shadow.{shadow}
use Rattle.rows.proofs.rebuilt_lines.put_line.Given as goal

-- The text that is written before the next word is UTF-8.
abbrev pub invariant-loop-word : goal.invariant-loop-word
invariant-loop-word l =
    (goal.iterator-loop-word).can_next l.word-iterator ×
    (goal.iterator-loop-word).is_finite l.word-iterator ×
    shadow (Utf8 l.front)
