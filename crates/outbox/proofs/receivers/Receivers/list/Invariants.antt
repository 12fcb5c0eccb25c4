use Rattle.std.proofs.Common.{◌≡◌, ◌≤◌, length}
use Rattle.std.specs.Prelude.{filter}
use Rattle.label.specs.Labels.{generals}
use Rattle.outbox.specs.Masks.{has_bit}
use Rattle.outbox.proofs.receivers.Receivers.list.Given as goal

abbrev pub invariant-loop-general : goal.invariant-loop-general
invariant-loop-general l = record {
  picked : l.list.items ≡ filter (has_bit l.mask) (generals l.general);
  few : length l.list.items ≤ l.general;
}
