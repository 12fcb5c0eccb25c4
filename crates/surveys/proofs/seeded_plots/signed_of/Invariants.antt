use Rattle.std.proofs.Common.{◌≡◌}
use Rattle.std.specs.List.{flat_map, range_with_len}
use Rattle.surveys.specs.Plotting.{drawn_for, signed_lies}
use Rattle.surveys.proofs.seeded_plots.signed_of.Given as goal

abbrev pub invariant-loop-place : goal.invariant-loop-place
invariant-loop-place l = l.lies.items ≡ flat_map (λ r. signed_lies l.counts l.orders l.commander l.general (drawn_for l.seed l.general r)) (range_with_len 0 l.place)
