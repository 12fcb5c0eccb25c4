use Rattle.std.proofs.Common.{suc, length, refl, arith}
use Rattle.std.proofs.lemmas.List.{length-map}
use Rattle.label.specs.Relay.{relay}
use Rattle.round.specs.Scenario.{shape_of}
use Rattle.round.specs.Contexts.{took}
use Rattle.round.proofs.Contexts.{shape_is}
use Rattle.trial.proofs.laws.contexts_are_settings.Goals as goal

pub returns : goal.returns
returns c = record {
  possible = λ s before g words is within le. record {
    limits = shape_is s g (length before) is within le;
    rounds = omega arith;
    few = is.rounds;
    enough = is.enough;
    each = length-map (relay (shape_of s g (suc (length before)))) (took s before g);
  };
  same = λ s before g words. refl;
}
