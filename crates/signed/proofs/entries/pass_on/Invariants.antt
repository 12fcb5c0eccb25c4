use Rattle.std.proofs.Common.{◌≡◌, ◌≤◌, ℕ, List, length, drop}
use Rattle.signed.specs.Sending.{added_by, AreFirst}
use Rattle.signed.proofs.Onward.{IsPassing}
use Rattle.signed.proofs.entries.pass_on.Given as goal

abbrev pub invariant-loop-place : goal.invariant-loop-place
invariant-loop-place l = record {
  relay : l.outbox.relay ≡ l.initial.outbox.relay;
  rows : l.outbox.rows ≡ l.initial.outbox.rows;
  left : (seen : List ℕ) → AreFirst l.fn.before.items seen → length (added_by l.rounds l.general seen (drop l.held.earlier l.held.chains)) ≤ 8
      → IsPassing l.generals l.rounds l.general l.held.earlier l.held.chains l.initial.outbox.relay seen l.initial.outbox.entries l.place l.orders.items l.outbox.entries;
}
