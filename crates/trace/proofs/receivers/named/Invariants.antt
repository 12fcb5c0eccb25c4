use Rattle.std.proofs.Common.{◌≡◌, ◌≤◌, length}
use Rattle.std.specs.List.{range_with_len}
use Rattle.trace.proofs.ChainLemmas.{named_of}
use Rattle.trace.proofs.receivers.named.Given as goal

abbrev pub invariant-loop-general : goal.invariant-loop-general
invariant-loop-general l = record {
  named : l.generals.items ≡ named_of l.bits (range_with_len 0 l.general);
  few : length l.generals.items ≤ l.general;
}
