use Rattle.std.proofs.Common.{map, take}
use Rattle.surveyor.specs.Kept.{Gains, campaign_file}
use Rattle.surveyor.proofs.played_survey.keep_in.Given as goal

abbrev pub invariant-loop-seed : goal.invariant-loop-seed
invariant-loop-seed g l = Gains (g.K.Keeper.files l.fn.keeper) (g.K.Keeper.files l.keeper) (map (campaign_file l.folder l.family) (take l.seed-index l.seeds))
