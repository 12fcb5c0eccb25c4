use Rattle.std.proofs.Common.{◌≡◌, ◌++◌}
use Rattle.std.specs.List.{flat_map, range_with_len}
use Rattle.std.specs.String.{string_bytes}
use Rattle.show_diagram.specs.Left.{mores_in}
use Rattle.show_diagram.proofs.overflow.put_mores.Given as goal

abbrev pub invariant-loop-before : goal.invariant-loop-before
invariant-loop-before l = string_bytes l.out ≡ string_bytes l.fn.out ++ flat_map (mores_in l.generals l.strokes l.drawn l.accesses) (range_with_len 0 l.before)
