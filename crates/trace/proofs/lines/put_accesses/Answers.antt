use Rattle.std.specs.Prelude.{◌==◌}
use Rattle.trace.proofs.WrittenLemmas.{then_wrote, wrote-same}
use Rattle.trace.proofs.LineLemmas.{more_accesses}
use Rattle.trace.proofs.lines.put_accesses.Goals as goal

pub loop-access-preserved : goal.loop-access-preserved
loop-access-preserved g c =
    wrote-same _ _ (more_accesses (λ a. a.round == c.args.round) c.args.accesses.now c.loop-access.access-index c.access-item.result c.loop-access-test.true c.access-item.is) (then_wrote c.loop-access.invariant c.put_access_in.ensures)
