use Rattle.std.proofs.Common.{◌≡◌, ◌∷◌, []}
use Rattle.std.specs.Prelude.{slice_get}
use Rattle.world.specs.Kind.{each}
use Rattle.signed.specs.Sending.{draft_behind}
use Rattle.signed.proofs.round_drafts.drafts.Given as goal

abbrev pub invariant-loop-general : goal.invariant-loop-general
invariant-loop-general l = l.drafts.items ≡ each l.general (λ j. draft_behind l.scenario l.sent l.accesses j (slice_get l.parts j) ∷ [])
