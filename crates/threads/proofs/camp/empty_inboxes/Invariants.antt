use Rattle.std.proofs.Common.{◌≡◌, length}
use Rattle.threads.specs.Inboxes.{AreOwn}
use Rattle.threads.proofs.camp.empty_inboxes.Given as goal

abbrev pub invariant-loop-general : goal.invariant-loop-general
invariant-loop-general l = record {
  count : length l.inboxes.items ≡ l.general;
  own : AreOwn l.inboxes.items;
}
