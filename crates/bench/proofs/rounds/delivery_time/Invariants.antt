use Rattle.std.proofs.Common.{◌≡◌, List}
use Rattle.round.specs.Letters.{Letter}
use Rattle.round.specs.Origin.{AreLettersOf}
use Rattle.round.specs.Told.{WasTold}
use Rattle.std.specs.Prelude.{◌≤◌, suc}
use Rattle.bench.proofs.rounds.delivery_time.Given as goal

abbrev pub invariant-loop : goal.invariant-loop
invariant-loop g l = ((before : List (List Letter)) × WasTold l.scenario before l.told) × (l.told.rounds ≤ l.scenario.bound) × AreLettersOf l.scenario (suc l.told.rounds) l.letters
