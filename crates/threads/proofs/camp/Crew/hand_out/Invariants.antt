use Rattle.std.proofs.Common.{◌≡◌, ◌≤◌, length, vec_len}
use Rattle.threads.specs.Inboxes.{AreByGeneral}
use Rattle.threads.proofs.camp.Crew.hand_out.Given as goal

abbrev pub invariant-loop-task : goal.invariant-loop-task
invariant-loop-task g l = record {
  from : l.given.from ≡ length l.tasks.items;
  of : l.given.tasks ≡ length l.initial.tasks.items;
  few : length l.tasks.items ≤ length l.self.inboxes.items;
  own : AreByGeneral l.tasks.items;
}

abbrev pub decreases-loop-task : goal.decreases-loop-task
decreases-loop-task g l = vec_len l.tasks
