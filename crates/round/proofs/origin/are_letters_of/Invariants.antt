use Rattle.std.proofs.Common.{◌≡◌, ◌<◌, ℕ, Some}
use Rattle.std.specs.Prelude.{slice_get}
use Rattle.round.specs.Scenario.{shape_of}
use Rattle.round.specs.Letters.{Letter}
use Rattle.round.proofs.origin.are_letters_of.Given as goal

abbrev pub invariant-loop-letter : goal.invariant-loop-letter
invariant-loop-letter l = (k : ℕ) (x : Letter) → k < l.letter-index → slice_get l.letters k ≡ Some x → (x.round ≡ l.round) × (x.outbox.relay.shape ≡ shape_of l.scenario x.general l.round)
