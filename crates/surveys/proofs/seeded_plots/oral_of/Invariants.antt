use Rattle.std.proofs.Common.{◌≡◌}
use Rattle.std.specs.List.{flat_map, range_with_len}
use Rattle.surveys.specs.Plotting.{drawn_for, oral_lies}
use Rattle.surveys.proofs.seeded_plots.oral_of.Given as goal

abbrev pub invariant-loop-receiver : goal.invariant-loop-receiver
invariant-loop-receiver l = l.lies.items ≡ flat_map (λ r. oral_lies l.counts l.orders l.general r (drawn_for l.seed l.general r)) (range_with_len 0 l.receiver)
