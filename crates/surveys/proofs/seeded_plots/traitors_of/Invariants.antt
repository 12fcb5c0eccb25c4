use Rattle.std.proofs.Common.{◌≡◌, ◌++◌, ◌-◌, map}
use Rattle.surveys.specs.Plotting.{chosen, traitor_of}
use Rattle.surveys.proofs.seeded_plots.traitors_of.Given as goal

abbrev pub invariant-loop-general : goal.invariant-loop-general
invariant-loop-general l =
    l.traitors.items ++ map (traitor_of l.family l.seed l.generals) (chosen l.seed l.general (l.generals - l.general) l.needed)
    ≡ map (traitor_of l.family l.seed l.generals) (chosen l.seed 0 l.generals l.count)
