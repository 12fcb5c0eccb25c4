use Rattle.std.proofs.Common.{◌+◌, drop}
use Rattle.byzlab.proofs.KeptLemmas.{AreKeptTo}
use Rattle.byzlab.proofs.kept_files.keep.Given as goal

abbrev pub invariant-loop-before : goal.invariant-loop-before
invariant-loop-before l = AreKeptTo l.folder l.scenario l.schedules (drop l.before l.schedules) (l.before + 1) l.files.items
