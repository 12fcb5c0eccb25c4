use Rattle.std.proofs.Common.{◌≡◌, ◌++◌, map, take}
use Rattle.std.specs.Prelude.{flat_map}
use Rattle.lies.specs.Attempts.{disagreement}
use Rattle.lies.proofs.attempts.disagreements.Given as goal

abbrev pub invariant-loop-first : goal.invariant-loop-first
invariant-loop-first l = l.list.items ≡ flat_map (λ p. map (disagreement p) l.loyals) (take l.first-index l.loyals)

abbrev pub invariant-loop-second : goal.invariant-loop-second
invariant-loop-second l = l.list.items ≡ l.initial.list.items ++ map (disagreement l.first) (take l.second-index l.loyals)
