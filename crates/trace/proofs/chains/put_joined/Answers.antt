use Rattle.std.proofs.Common.{sym}
use Rattle.trace.proofs.WrittenLemmas.{then_wrote, wrote-same}
use Rattle.trace.proofs.ChainLemmas.{behind_dot}
use Rattle.trace.proofs.RoundLemmas.{told_at}
use Rattle.trace.proofs.chains.put_joined.Goals as goal

pub loop-general-preserved : goal.loop-general-preserved
loop-general-preserved g c =
    wrote-same _ _ (sym (told_at behind_dot c.args.generals.now c.loop-general.general-index _ c.loop-general-test.true)) (then_wrote c.loop-general.invariant c.put_behind.ensures)
