use Rattle.std.proofs.Common.{◌≡◌, ◌≤◌, [], ◌∷◌}
use Rattle.std.specs.Vec.{vec_len, vec_capacity}
use Rattle.round.specs.Scenario.{program_of}
use Rattle.world.specs.World.{each}
use Rattle.world.specs.Closing.{blank}
use Rattle.world.proofs.opening.blanks.Given as goal

abbrev pub invariant-loop-general : goal.invariant-loop-general
invariant-loop-general l = record {
  items : l.parts.items ≡ each l.general (λ j. blank l.scenario l.fn.before j (program_of l.scenario j) ∷ []);
  len : vec_len l.parts ≡ l.general;
  room : l.scenario.generals ≤ vec_capacity l.parts;
}
