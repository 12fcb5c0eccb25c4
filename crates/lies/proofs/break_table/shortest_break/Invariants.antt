use Rattle.std.proofs.Common.{ℕ, ◌<◌}
use Rattle.combine.specs.Rule.{combined_by}
use Rattle.lies.proofs.SearchLemmas.{NoneAsked}
use Rattle.lies.proofs.break_table.shortest_break.Given as goal

abbrev pub invariant-loop-count : goal.invariant-loop-count
invariant-loop-count l = (k : ℕ) → k < l.count → NoneAsked (combined_by l.rule) l.generals l.bound l.commander k
