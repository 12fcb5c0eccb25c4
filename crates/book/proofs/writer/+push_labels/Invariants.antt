use Rattle.std.proofs.Common.{◌≡◌, ◌-◌, ◌++◌, ◌∷◌, []}
use Rattle.std.specs.List.{flat_map}
use Rattle.std.specs.String.{string_bytes}
use Rattle.label.specs.Labels.{others}
use Rattle.book.specs.Written.{lines_from}
use Rattle.book.proofs.writer.+push_labels.Given as goal

abbrev pub decreases-push_labels : goal.decreases-push_labels
decreases-push_labels g l = l.more

-- The lines of the longer labels so far.
abbrev pub invariant-loop-general : goal.invariant-loop-general
invariant-loop-general g l = string_bytes l.text ≡ string_bytes l.fn.text ++ flat_map (λ j. lines_from (g.M.Marks.marking l.marks) l.generals (l.more - 1) (l.label ++ j ∷ [])) (others l.general l.label)
