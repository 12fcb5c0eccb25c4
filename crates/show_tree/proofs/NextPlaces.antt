-- A place in the table for a label with one general more.
use Rattle.std.proofs.Common.{ℕ, ◌+◌, ◌<◌, ◌≤◌, ◌≡◌, ◌≢◌, true, false, List, [], ◌∷◌, ◌++◌, length, length-append, subst, sym}
use Rattle.label.specs.Labels.{on}
use Rattle.book.specs.Grammar.{is_place}
use Rattle.book.specs.Table.{MessageTable}
use Rattle.show_tree.proofs.PlaceLemmas.{place_next}

pub next_fits : (t : MessageTable) (w v : List ℕ) (j p : ℕ) → is_place t w p ≡ true → length w ≤ t.bound → j < t.generals → on w j ≡ false → j ≢ p → v ≡ w ++ j ∷ []
    → (is_place t v p ≡ true) × (length v ≡ length w + 1)
next_fits t w v j p place room below fresh apart same =
    subst (λ (u : List ℕ). (is_place t u p ≡ true) × (length u ≡ length w + 1)) (sym same) (place_next t w j p place room below fresh apart, length-append w (j ∷ []))
