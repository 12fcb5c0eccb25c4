use Rattle.std.proofs.Common.{take}
use Rattle.std.specs.Prelude.{flat_map}
use Rattle.surveyor.specs.Kept.{Gains, breach_file}
use Rattle.surveyor.proofs.minimal_campaigns.keep_in.Given as goal

abbrev pub invariant-loop-breach : goal.invariant-loop-breach
invariant-loop-breach g l = Gains (g.K.Keeper.files l.fn.keeper) (g.K.Keeper.files l.keeper) (flat_map (breach_file l.folder) (take l.breach-index l.found))
