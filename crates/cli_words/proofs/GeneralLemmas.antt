-- Whether the parts of a word name generals does not depend on the generals before them.
use Rattle.std.proofs.Common.{◌≡◌, ℕ, List, [], ◌∷◌, ◌++◌, Option, Some, None, refl}
use Rattle.std.specs.Prelude.{is_some}
use Rattle.text.specs.Options.{◌>>=◌}
use Rattle.cli_words.specs.Generals.{general_in, generals_behind}

pub behind_any : (before other : List ℕ) (parts : List (List ℕ)) → is_some (generals_behind before parts) ≡ is_some (generals_behind other parts)
behind_any before other [] = refl
behind_any before other (part ∷ parts) = go (general_in part) (λ g. behind_any (before ++ g ∷ []) (other ++ g ∷ []) parts)
  where
    go : (o : Option ℕ) → ((g : ℕ) → is_some (generals_behind (before ++ g ∷ []) parts) ≡ is_some (generals_behind (other ++ g ∷ []) parts))
        → is_some (o >>= λ g. generals_behind (before ++ g ∷ []) parts) ≡ is_some (o >>= λ g. generals_behind (other ++ g ∷ []) parts)
    go None later = refl
    go (Some g) later = later g
