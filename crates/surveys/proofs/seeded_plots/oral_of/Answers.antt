use Rattle.std.proofs.Common.{ℕ}
use Rattle.surveys.specs.Plotting.{drawn_for, oral_lies}
use Rattle.surveys.proofs.Ranges.{range_pieces}
use Rattle.surveys.proofs.seeded_plots.oral_of.Goals as goal

pub loop-receiver-preserved : goal.loop-receiver-preserved
loop-receiver-preserved c =
    let piece = λ (r : ℕ). oral_lies c.args.counts c.args.orders c.args.general r (drawn_for c.args.seed c.args.general r) in
    rw (c.in_ok-push_oral.ensures, c.drawn_for.ensures, c.loop-receiver.invariant) (range_pieces piece c.loop-receiver.receiver)
