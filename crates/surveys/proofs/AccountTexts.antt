-- The texts of several items, each after the one before.
use Rattle.std.proofs.Common.{ℕ, ◌+◌, ◌<◌, ◌≡◌, List, [], ◌∷◌, ◌++◌, length, take, get_or, ap, sym, ◌∙◌}
use Rattle.std.specs.List.{flat_map}
use Rattle.std.proofs.lemmas.List.{flat_map_more, take_more}

pub text_more : {A : Type 0} (F : A → List ℕ) (xs : List A) (i : ℕ) (x : A) (now new : List ℕ) → i < length xs → x ≡ get_or xs i x → now ≡ flat_map F (take i xs) → new ≡ now ++ F x → new ≡ flat_map F (take (i + 1) xs)
text_more F xs i x now new less at so is =
    is ∙ (ap (λ (l : List ℕ). l ++ F x) so ∙ (ap (λ y. flat_map F (take i xs) ++ F y) at ∙ (flat_map_more F [] (take i xs) (get_or xs i x) ∙ ap (flat_map F) (sym (take_more xs i x less)))))
