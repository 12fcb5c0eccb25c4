use Rattle.std.proofs.Common.{◌≡◌, [], ◌∷◌, take}
use Rattle.std.specs.Prelude.{flat_map}
use Rattle.lies.specs.Attempts.{disobedience}
use Rattle.lies.proofs.attempts.disobediences.Given as goal

abbrev pub invariant-loop-general : goal.invariant-loop-general
invariant-loop-general l = l.list.items ≡ flat_map (λ p. disobedience p 0 1 ∷ disobedience p 1 0 ∷ []) (take l.general-index l.loyals)
