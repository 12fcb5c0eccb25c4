-- The names of the helpers in assembly, and their numbers.
use Rattle.std.specs.Prelude.{ℕ, ℤ, pos, ◌+◌, List, [], ◌∷◌, if◌then◌else◌, Option, Some, None, codes}
use Rattle.std.specs.Str.{bytes_eq}
use Rattle.text.specs.Options.{◌>>=◌}

-- The names of the helpers, in the order of their numbers, which begin at 1.
abbrev pub helpers : List (List ℕ)
helpers =
    codes "board_get" ∷ codes "board_swap" ∷ codes "board_add" ∷ codes "board_cas" ∷ codes "board_copy"
    ∷ codes "send" ∷ codes "send_row" ∷ codes "sway" ∷ codes "honest"
    ∷ codes "sign_order" ∷ codes "pass_on" ∷ []

-- Returns the position of a word in a list of names, counted from `n`.
abbrev pub place_in : List ℕ → ℕ → List (List ℕ) → Option ℕ
place_in word n [] = None
place_in word n (name ∷ names) = if bytes_eq word name then Some n else place_in word (n + 1) names

-- Returns the number of the helper with this name.
unfoldable pub helper_of : List ℕ → Option ℤ
helper_of name = place_in name 1 helpers >>= λ n. Some (pos n)
