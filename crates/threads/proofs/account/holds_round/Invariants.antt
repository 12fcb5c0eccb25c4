use Rattle.std.proofs.Common.{◌≡◌, ◌<◌, ℕ, List, take, Some}
use Rattle.std.specs.Prelude.{slice_get}
use Rattle.round.specs.Letters.{Letter}
use Rattle.round.specs.Scenario.{program_of}
use Rattle.world.specs.Kind.{accesses_of}
use Rattle.world.specs.KindAccounted.{IsLetterOf}
use Rattle.threads.proofs.account.holds_round.Given as goal

abbrev pub invariant-loop-general : goal.invariant-loop-general
invariant-loop-general g l =
    (rows : List (List Letter)) → g.D.Delivered.was_told l.scenario rows l.told → (k : ℕ) (x : Letter) → k < l.general → slice_get l.letters k ≡ Some x →
    IsLetterOf g.D.Delivered.kind l.scenario (take l.rounds rows) k (program_of l.scenario k) x × (accesses_of k l.piece ≡ x.transcript)
