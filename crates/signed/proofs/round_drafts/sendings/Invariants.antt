use Rattle.std.proofs.Common.{◌≡◌, map}
use Rattle.std.specs.Prelude.{slice_get}
use Rattle.label.specs.Labels.{generals}
use Rattle.signed.specs.Entries.{dispatched}
use Rattle.signed.specs.Sending.{entries_drafted}
use Rattle.signed.specs.Sent.{held_behind}
use Rattle.signed.proofs.round_drafts.sendings.Given as goal

abbrev pub invariant-loop-general : goal.invariant-loop-general
invariant-loop-general l =
    l.sendings.items ≡ map (λ g. dispatched l.scenario.generals l.scenario.commander g (held_behind l.scenario.generals l.sent g) (entries_drafted (slice_get l.drafts g) (slice_get l.parts g))) (generals l.general)
