use Rattle.std.proofs.Common.{ℕ}
use Rattle.surveys.specs.Plotting.{drawn_for, signed_lies}
use Rattle.surveys.proofs.Ranges.{range_pieces}
use Rattle.surveys.proofs.seeded_plots.signed_of.Goals as goal

pub loop-place-preserved : goal.loop-place-preserved
loop-place-preserved c =
    let piece = λ (r : ℕ). signed_lies c.args.counts c.args.orders c.args.commander c.args.general (drawn_for c.args.seed c.args.general r) in
    rw (c.in_ok-push_signed.ensures, c.drawn_for.ensures, c.loop-place.invariant) (range_pieces piece c.loop-place.place)
