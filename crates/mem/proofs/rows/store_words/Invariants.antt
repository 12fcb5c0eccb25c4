use Rattle.std.proofs.Common.{◌≡◌, take}
use Rattle.semantics.specs.Memory.{overwritten}
use Rattle.mem.proofs.InARow.{words_cells}
use Rattle.mem.proofs.rows.store_words.Given as goal

abbrev pub invariant-loop-i : goal.invariant-loop-i
invariant-loop-i l = l.stack ≡ overwritten l.fn.stack l.place (words_cells (take l.i l.words))
