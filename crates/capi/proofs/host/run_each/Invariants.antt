use Rattle.std.proofs.Common.{◌≡◌, ℕ, ◌<◌, List, length}
use Rattle.std.specs.Prelude.{IfSome, slice_get}
use Rattle.codec.specs.Program.{SpellsProgram}
use Rattle.capi.specs.Many.{IsOutcome, AreBegun, context_at}
use Rattle.capi.proofs.host.run_each.Given as goal

abbrev pub invariant-loop-index : goal.invariant-loop-index
invariant-loop-index l =
    (length l.outcomes ≡ length l.initial.outcomes)
    × ((bytes : List ℕ) → SpellsProgram bytes l.verified → (j : ℕ) → j < l.index → IfSome (slice_get l.outcomes j) (λ o. IsOutcome bytes (context_at l.contexts j) o))
    × ((bytes : List ℕ) → SpellsProgram bytes l.verified → AreBegun bytes l.contexts l.initial.outcomes l.outcomes)
