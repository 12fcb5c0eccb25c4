use Rattle.std.proofs.Common.{◌≡◌, ◌++◌}
use Rattle.show_diagram.specs.Lists.{lists_of}
use Rattle.show_diagram.proofs.lists.push_lists.Given as goal

-- The strokes of the rounds so far.
abbrev pub invariant-loop-before : goal.invariant-loop-before
invariant-loop-before l = l.strokes.items ≡ l.fn.strokes.items ++ lists_of l.receiver l.tellings l.before
