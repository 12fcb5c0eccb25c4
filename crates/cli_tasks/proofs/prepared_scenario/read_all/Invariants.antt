use Rattle.std.proofs.Common.{take}
use Rattle.std.specs.List.{AllZip}
use Rattle.cli_tasks.specs.Taken.{IsBeside}
use Rattle.cli_tasks.proofs.prepared_scenario.read_all.Given as goal

abbrev pub invariant-loop-file : goal.invariant-loop-file
invariant-loop-file g l = AllZip (IsBeside (g.D.Folder.bytes l.folder)) (take l.file-index l.named) l.files.items
