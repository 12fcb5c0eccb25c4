use Rattle.std.proofs.Common.{[], refl}
use Rattle.show_chains.specs.Strokes.{between}
use Rattle.show_chains.proofs.StrokeLemmas.{round_more}
use Rattle.show_chains.proofs.strokes.told_to.Goals as goal

pub loop-general-preserved : goal.loop-general-preserved
loop-general-preserved c =
    round_more (between c.args.chronicle.now c.args.round c.args.receiver) c.loop-general.general [] c.loop-general.list.items c.push_between.new.list.items _ c.loop-general.invariant refl c.in_ok-push_between.ensures
