-- Texts that are joined, one by one.
use Rattle.std.proofs.Common.{◌≡◌, ℕ, List, [], ◌∷◌, ◌++◌, map, refl, ap}
use Rattle.std.specs.List.{flat_map, join_by}

flat_read : {X : Type 0} (f : X → List ℕ) (separator : List ℕ) (xs : List X) → flat_map (λ x. separator ++ f x) xs ≡ flat_map (λ y. separator ++ y) (map f xs)
flat_read f separator [] = refl
flat_read f separator (x ∷ xs) = ap (λ rest. (separator ++ f x) ++ rest) (flat_read f separator xs)

pub join_read : {X : Type 0} (f : X → List ℕ) (separator : List ℕ) (xs : List X) → join_by f separator xs ≡ join_by (λ y. y) separator (map f xs)
join_read f separator [] = refl
join_read f separator (x ∷ xs) = ap (λ rest. f x ++ rest) (flat_read f separator xs)
