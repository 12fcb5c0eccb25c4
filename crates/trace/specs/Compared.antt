-- The bytes that a comparing sink has received. The sink compares them with a text (own).
use Rattle.std.specs.Prelude.{ℕ, ◌+◌, List, [], ◌∷◌, ◌++◌, length, slice_index, take, Option, Some, option_to_list}

-- Returns the received bytes: the first `same` bytes of the text, and then the first byte that differs, if there is
-- one.
abbrev pub taken : List ℕ → ℕ → Option ℕ → List ℕ
taken text same other = take same text ++ option_to_list other

-- Returns a list that determines both the text and the received bytes: the text's length, the text, and the bytes. So a
-- contract that says how this list grows also says that the text stays the same.
abbrev pub compared : List ℕ → List ℕ → Option (List ℕ)
compared text bytes = Some (length text ∷ text ++ bytes)

-- Returns the 8 bytes from index `place` on.
abbrev pub eight : ℕ → List ℕ → List ℕ
eight place bytes =
    slice_index bytes place ∷ slice_index bytes (place + 1) ∷ slice_index bytes (place + 2)
    ∷ slice_index bytes (place + 3) ∷ slice_index bytes (place + 4) ∷ slice_index bytes (place + 5)
    ∷ slice_index bytes (place + 6) ∷ slice_index bytes (place + 7) ∷ []
