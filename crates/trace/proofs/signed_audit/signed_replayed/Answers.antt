use Rattle.std.proofs.Common.{◌+◌, ap}
use Rattle.signed.specs.Chronicle.{signed_chronicle_of}
use Rattle.signed.specs.Kind.{signed_kind}
use Rattle.trace.specs.SignedAudit.{signed_chronicle_told}
use Rattle.trace.proofs.AuditLemmas.{replayed_ok}
use Rattle.trace.proofs.signed_audit.signed_replayed.Goals as goal

pub returns : goal.returns
unfolding signed_chronicle_told
returns c =
    replayed_ok signed_kind signed_chronicle_of c.args.scenario.now c.in_ok-copy.field-0 c.args.text.now (c.bound.result + 2) c.in_ok-lists.lists.items c.deref.result.now c.replay_signed.result c.in_ok-copy.ensures c.deref.ensures.value (ap (λ n. n + 2) c.bound.ensures.same) c.in_ok-lists.ensures c.replay_signed.ensures.replayed
