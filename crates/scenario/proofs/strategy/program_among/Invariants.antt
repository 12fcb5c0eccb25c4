use Rattle.std.proofs.Common.{◌≡◌, drop, map}
use Rattle.scenario.specs.Strategies.{program_among}
use Rattle.scenario.proofs.strategy.program_among.Given as goal

abbrev pub invariant-loop-known : goal.invariant-loop-known
invariant-loop-known l = program_among l.name (map (λ s. (s.0.now, s.1.now)) (drop l.known-index l.strategies)) ≡ program_among l.name (map (λ s. (s.0.now, s.1.now)) l.strategies)
