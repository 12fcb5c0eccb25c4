use Rattle.std.proofs.Common.{◌≡◌}
use Rattle.semantics.specs.Outbox.{taken_value}
use Rattle.outbox.proofs.Throughout.{all_first}
use Rattle.outbox.proofs.outbox.Outbox.honest_to_all.Given as goal

abbrev pub invariant-loop-rank : goal.invariant-loop-rank
invariant-loop-rank l = record {
  shape : l.self-inside.shape ≡ l.initial.self-inside.shape;
  signing : l.self-inside.signing ≡ l.initial.self-inside.signing;
  rows : l.self-inside.rows ≡ all_first (taken_value l.context) 0 l.rank l.initial.self-inside.rows;
}
