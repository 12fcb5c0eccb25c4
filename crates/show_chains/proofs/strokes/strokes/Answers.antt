use Rattle.std.proofs.Common.{[], ap, ◌+◌, ℕ}
use Rattle.show_chains.specs.Strokes.{behind, in_round}
use Rattle.show_chains.proofs.StrokeLemmas.{round_more}
use Rattle.show_chains.proofs.strokes.strokes.Goals as goal

pub loop-before-preserved : goal.loop-before-preserved
loop-before-preserved c =
    round_more (behind c.args.chronicle.now) c.loop-before.before [] c.loop-before.strokes.items c.push_round.new.strokes.items _ c.loop-before.invariant
    (ap (λ (k : ℕ). in_round c.args.chronicle.now (k + 1)) c.from.ensures) c.in_ok-push_round.ensures
