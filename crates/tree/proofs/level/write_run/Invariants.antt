use Rattle.std.proofs.Common.{◌≡◌, ℕ, List, Option, map}
use Rattle.std.specs.Prelude.{is_some}
use Rattle.label.specs.Oral.{order_of}
use Rattle.tree.specs.LieutenantTree.{AreAnswers, run_written}
use Rattle.tree.proofs.level.write_run.Given as goal

abbrev pub invariant-loop-place : goal.invariant-loop-place
invariant-loop-place g l =
    (values : List (Option ℕ)) × AreAnswers (goal.F-post g l.value) l.place values
    × (l.orders ≡ run_written l.first (map order_of values) l.fn.orders)
    × (l.told ≡ run_written l.first (map is_some values) l.fn.told)
