use Rattle.std.proofs.Common.{◌≡◌, ◌++◌, take}
use Rattle.show_diagram.specs.Lists.{count_of, strokes_from}
use Rattle.show_diagram.proofs.lists.push_rows.Given as goal

-- The strokes of the messages so far.
abbrev pub invariant-loop-row : goal.invariant-loop-row
invariant-loop-row l = l.strokes.items ≡ l.fn.strokes.items ++ strokes_from l.receiver (count_of l.counts) 0 (take l.row l.list)
