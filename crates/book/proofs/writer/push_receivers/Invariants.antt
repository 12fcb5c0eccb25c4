use Rattle.std.proofs.Common.{◌≡◌, ◌++◌}
use Rattle.std.specs.List.{flat_map}
use Rattle.std.specs.String.{string_bytes}
use Rattle.label.specs.Labels.{others}
use Rattle.book.specs.Explained.{dotted}
use Rattle.book.specs.Written.{line_of}
use Rattle.book.proofs.writer.push_receivers.Given as goal

-- The lines of the receivers so far.
abbrev pub invariant-loop-receiver : goal.invariant-loop-receiver
invariant-loop-receiver g l = string_bytes l.text ≡ string_bytes l.fn.text ++ flat_map (λ p. line_of (dotted l.label) p (g.M.Marks.marking l.marks l.label p)) (others l.receiver l.label)
