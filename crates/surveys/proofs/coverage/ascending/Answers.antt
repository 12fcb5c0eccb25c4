use Rattle.std.proofs.Common.{ℕ}
use Rattle.std.proofs.lemmas.List.Sorted.{IsNonDecreasingBy-from_sort}
use Rattle.surveys.proofs.coverage.ascending.Goals as goal

pub returns : goal.returns
returns c = record {
  same = rw c.in_ok-seeds.ensures at c.sort_unstable.ensures.permutation;
  ascending = IsNonDecreasingBy-from_sort (λ (x : ℕ). x) c.sort_unstable.new.self.items c.sort_unstable.ensures.sorted;
}
