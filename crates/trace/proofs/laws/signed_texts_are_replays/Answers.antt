use Rattle.std.proofs.Common.{sym, ap}
use Rattle.world.proofs.Replaying.{runs_are_replays}
use Rattle.signed.specs.Kind.{signed_kind}
use Rattle.signed.specs.Chronicle.{signed_chronicle_of}
use Rattle.signed.proofs.Worlds.{signed_campaigns}
use Rattle.trace.specs.SignedText.{signed_text}
use Rattle.trace.proofs.laws.signed_texts_are_replays.Goals as goal

pub returns : goal.returns
returns c = λ s events is complete.
    ap (λ w. signed_text (signed_chronicle_of w)) (sym ((runs_are_replays signed_kind signed_campaigns).worlds s events is complete))
