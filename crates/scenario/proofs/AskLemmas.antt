-- Files that are added one after the other, each of them once.
use Rattle.std.proofs.Common.{◌≡◌, List, [], ◌∷◌, ◌++◌, refl}
use Rattle.scenario.specs.Asking.{Asked, gathered, with_asked}

pub gathered_more : (all some more : List Asked) → gathered all (some ++ more) ≡ gathered (gathered all some) more
gathered_more all [] more = refl
gathered_more all (a ∷ some) more = gathered_more (with_asked all a) some more
