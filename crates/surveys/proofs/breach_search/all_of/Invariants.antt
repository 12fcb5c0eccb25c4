use Rattle.std.proofs.Common.{◌≡◌, Ok, map}
use Rattle.surveys.proofs.breach_search.all_of.Given as goal

abbrev pub invariant-loop-answer : goal.invariant-loop-answer
invariant-loop-answer l = l.yielded ≡ map Ok l.found.items
