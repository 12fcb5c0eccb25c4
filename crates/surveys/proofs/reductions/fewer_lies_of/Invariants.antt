use Rattle.std.proofs.Common.{ℕ, ◌<◌}
use Rattle.surveys.specs.Shrinking.{ComesWell, without_lie}
use Rattle.surveys.proofs.reductions.fewer_lies_of.Given as goal

abbrev pub invariant-loop-index : goal.invariant-loop-index
invariant-loop-index l = (index : ℕ) → index < l.index → ComesWell (without_lie l.plot l.place index)
