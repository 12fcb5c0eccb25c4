use Rattle.std.proofs.Common.{◌≡◌, ◌∷◌, []}
use Rattle.round.specs.Scenario.{program_of}
use Rattle.world.specs.Kind.{each}
use Rattle.signed.specs.Sending.{begins_behind}
use Rattle.signed.proofs.opening.beginnings.Given as goal

abbrev pub invariant-loop-general : goal.invariant-loop-general
invariant-loop-general l = l.parts.items ≡ each l.general (λ j. begins_behind l.scenario l.sent j (program_of l.scenario j) ∷ [])
