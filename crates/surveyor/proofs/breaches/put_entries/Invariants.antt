use Rattle.std.proofs.Common.{◌-◌, ◌++◌}
use Rattle.std.specs.Prelude.{min}
use Rattle.surveyor.proofs.BrokenLemmas.{IsPrintedSoFar, bounds_upto, sizes_upto}
use Rattle.surveyor.proofs.breaches.put_entries.Given as goal

abbrev pub invariant-loop-generals : goal.invariant-loop-generals
invariant-loop-generals g l =
    IsPrintedSoFar l.asked l.family l.is_table (g.O.Output.contents l.fn.out) (g.O.Output.contents l.out) l.is_first
    (sizes_upto l.asked.bound l.asked.generals.low (min l.generals l.end - l.asked.generals.low))

abbrev pub invariant-loop-bound : goal.invariant-loop-bound
invariant-loop-bound g l =
    IsPrintedSoFar l.asked l.family l.is_table (g.O.Output.contents l.fn.out) (g.O.Output.contents l.out) l.is_first
    (sizes_upto l.asked.bound l.asked.generals.low (l.generals - l.asked.generals.low) ++ bounds_upto l.generals l.asked.bound.low (min l.bound l.most - l.asked.bound.low))
