use Rattle.std.proofs.Common.{◌≡◌, ◌*◌, take}
use Rattle.trace.proofs.comparison.alike_words.Given as goal

abbrev pub invariant-loop-word : goal.invariant-loop-word
invariant-loop-word l = take (8 * l.word) l.text ≡ take (8 * l.word) l.piece
