use Rattle.std.proofs.Common.{◌+◌, ap}
use Rattle.world.specs.Chronicle.{chronicle_of}
use Rattle.world.specs.World.{oral_kind}
use Rattle.trace.specs.Names.{chronicle_told}
use Rattle.trace.proofs.AuditLemmas.{replayed_ok}
use Rattle.trace.proofs.audit.replayed.Goals as goal

pub returns : goal.returns
unfolding chronicle_told
returns c =
    replayed_ok oral_kind chronicle_of c.args.scenario.now c.in_ok-copy.field-0 c.args.text.now (c.bound.result + 2) c.in_ok-lists.lists.items c.deref.result.now c.replay.result c.in_ok-copy.ensures c.deref.ensures.value (ap (λ n. n + 2) c.bound.ensures.same) c.in_ok-lists.ensures c.replay.ensures.replayed
