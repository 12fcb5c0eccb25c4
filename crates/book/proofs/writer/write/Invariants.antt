use Rattle.std.proofs.Common.{◌≡◌, ◌++◌, ◌∷◌, []}
use Rattle.std.specs.List.{flat_map, range_with_len}
use Rattle.std.specs.String.{string_bytes}
use Rattle.book.specs.Written.{first_line, lines_from}
use Rattle.book.proofs.writer.write.Given as goal

-- The first line, and the lines of the labels with fewer generals after the commander.
abbrev pub invariant-loop-more : goal.invariant-loop-more
invariant-loop-more g l =
    string_bytes l.text ≡ first_line l.fn.generals l.fn.bound l.fn.commander l.fn.rule ++ flat_map (λ k. lines_from (g.M.Marks.marking l.fn.marks) l.fn.generals k (l.fn.commander ∷ [])) (range_with_len 0 l.more)
