use Rattle.surveys.specs.Breaches.{IsLeastOf}
use Rattle.surveys.proofs.breach_search.least.Given as goal

abbrev pub invariant-loop-breach : goal.invariant-loop-breach
invariant-loop-breach l = IsLeastOf l.yielded l.least
