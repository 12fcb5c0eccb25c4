use Rattle.std.proofs.Common.{◌≡◌, drop, option_map}
use Rattle.scenario.specs.Asking.{is_asked}
use Rattle.scenario.proofs.reference.is_asked.Given as goal

abbrev pub invariant-loop-own : goal.invariant-loop-own
invariant-loop-own l = is_asked l.key l.name (option_map (λ f. f.now) l.function) (drop l.own-index l.all) ≡ is_asked l.key l.name (option_map (λ f. f.now) l.function) l.all
