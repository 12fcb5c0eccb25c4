use Rattle.std.proofs.Common.{◌-◌}
use Rattle.surveys.specs.Plotting.{plot_of}
use Rattle.surveys.proofs.PieceSearch.{IsSearched}
use Rattle.surveys.proofs.breach_search.least_breach.Given as goal

abbrev pub invariant-loop-next : goal.invariant-loop-next
invariant-loop-next g l = IsSearched (plot_of l.family) l.fn.first l.next l.end l.so_far

abbrev pub decreases-loop-next : goal.decreases-loop-next
decreases-loop-next g l = l.end - l.next
