use Rattle.std.proofs.Common.{ℕ}
use Rattle.surveys.specs.Plotting.{plot_of}
use Rattle.surveys.specs.Breaches.{narrowed}
use Rattle.surveys.proofs.Searching.{IsSoFar}
use Rattle.surveys.proofs.breach_search.breaking.Given as goal

abbrev pub invariant-loop-count : goal.invariant-loop-count
invariant-loop-count g l = IsSoFar (λ (t : ℕ). plot_of (narrowed l.family l.generals l.bound t)) l.fn.traitors.low l.fn.traitors.high l.count l.first l.end l.least
