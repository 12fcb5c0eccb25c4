-- The number of items in a list.
use Rattle.std.proofs.Common.{◌≡◌, suc, List, [], ◌∷◌, length, refl, ap}
use Rattle.toml.specs.View.{items_view}
use Rattle.toml.specs.declared.value.Value.{Value}
use Rattle.scenario.specs.Origins.{count}

pub counted : (vs : List Value) → length vs ≡ count (items_view vs)
counted [] = refl
counted (v ∷ vs) = ap suc (counted vs)
