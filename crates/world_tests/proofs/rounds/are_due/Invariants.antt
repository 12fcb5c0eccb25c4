use Rattle.std.proofs.Common.{◌≡◌, ◌<◌, ℕ, Some}
use Rattle.std.specs.Prelude.{slice_get}
use Rattle.round.specs.Letters.{Letter}
use Rattle.world_tests.proofs.rounds.are_due.Given as goal

abbrev pub invariant-loop-letter : goal.invariant-loop-letter
invariant-loop-letter l = (k : ℕ) (x : Letter) → k < l.letter-index → slice_get l.letters k ≡ Some x → x.outbox.relay.shape ≡ record { generals = l.tree.generals; commander = l.tree.commander; general = x.general; round = l.round }
