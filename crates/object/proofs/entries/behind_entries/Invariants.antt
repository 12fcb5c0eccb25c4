-- The remaining entries begin at the index.
use Rattle.std.proofs.Common.{length, ◌≡◌, ◌-◌, ◌≤◌}
use Rattle.object.specs.Entries.{behind_entries}
use Rattle.object.proofs.entries.behind_entries.Given as goal

abbrev pub invariant-loop-done : goal.invariant-loop-done
invariant-loop-done l = record {
  inside : l.next ≤ length l.bytes;
  left : behind_entries l.entries l.count l.formats l.from l.bytes l.place ≡ behind_entries (l.entries - l.done) l.count l.formats l.from l.bytes l.next;
}
