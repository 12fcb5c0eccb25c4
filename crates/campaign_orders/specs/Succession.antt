-- Which order of accesses comes next in the ascending list of a campaign's orders (own). It is the same up to the last
-- access at which a general with a higher number could have acted instead. There it has the lowest such general, and
-- what follows is not determined here.
use Rattle.std.specs.Prelude.{ℕ, nat_lt, min, cond, List, [], ◌∷◌, Option, None, Some}

-- Returns the lesser of `h` and the general, or `h` if the general is `None`.
abbrev pub lesser : ℕ → Option ℕ → ℕ
lesser h None = h
lesser h (Some k) = min h k

-- Returns the lesser of `h` and `least` if `h` is greater than `g`, otherwise `least`. Here `None` counts as greater
-- than every general.
abbrev pub nearer : ℕ → ℕ → Option ℕ → Option ℕ
nearer g h least = cond (nat_lt g h) (Some (lesser h least)) least

-- Returns the least of these names that is greater than `g`, or `None` if there is none.
abbrev pub least_above : ℕ → List ℕ → Option ℕ
least_above g [] = None
least_above g (h ∷ names) = nearer g h (least_above g names)

-- Returns how the next order goes on from the name `g`. If the names after `g` can change, `g` stays. Otherwise another
-- name takes its place. Returns `None` if neither is possible.
abbrev pub turned_at : ℕ → Option (List ℕ) → Option ℕ → Option (List ℕ)
turned_at g (Some names) other = Some (g ∷ names)
turned_at g None (Some h) = Some (h ∷ [])
turned_at g None None = None

-- Returns how the next order of a round's accesses begins, or `None` if this is the last one.
abbrev pub next_names : List ℕ → Option (List ℕ)
next_names [] = None
next_names (g ∷ names) = turned_at g (next_names names) (least_above g names)

-- Returns how the next order goes on from this round. If a later round can change, this round's names stay. Otherwise
-- this round changes. Returns `None` if neither is possible.
abbrev pub turned_in : List ℕ → Option (List (List ℕ)) → Option (List ℕ) → Option (List (List ℕ))
turned_in names (Some order) other = Some (names ∷ order)
turned_in names None (Some other) = Some (other ∷ [])
turned_in names None None = None

-- Returns for each round how the next order of accesses begins, or `None` if this is the last order.
abbrev pub next_order : List (List ℕ) → Option (List (List ℕ))
next_order [] = None
next_order (names ∷ order) = turned_in names (next_order order) (next_names names)
