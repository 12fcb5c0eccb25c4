use Rattle.std.proofs.Common.{◌≡◌, ◌∷◌, []}
use Rattle.std.specs.Prelude.{slice_get}
use Rattle.world.specs.World.{each}
use Rattle.world.specs.Closing.{draft_of}
use Rattle.world.proofs.letters.drafts.Given as goal

abbrev pub invariant-loop-general : goal.invariant-loop-general
invariant-loop-general l = l.drafts.items ≡ each l.general (λ j. draft_of l.scenario l.closed l.accesses j (slice_get l.parts j) ∷ [])
