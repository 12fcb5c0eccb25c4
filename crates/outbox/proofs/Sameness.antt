-- Rows with the same orders.
use Rattle.std.proofs.Common.{ℕ, suc, ◌<◌, ◌≤◌, ◌≡◌, List, [], ◌∷◌, map, length, get_or, refl, sym, ap, ◌∙◌, arith}
use Rattle.std.proofs.lemmas.List.{length-map}
use Rattle.outbox.specs.Rows.{RowOrders, orders_in}
use Rattle.outbox.proofs.Looks.{get_orders}
use Rattle.outbox.proofs.Single.{same_default}

-- Lists with the same element at each index are the same.
pub same_lists : {A : Type 0} (d : A) (a b : List A) → length a ≡ length b → ((k : ℕ) → k < length a → get_or a k d ≡ get_or b k d) → a ≡ b
same_lists d [] [] l h = refl
same_lists d [] (y ∷ b) l h = cc
same_lists d (x ∷ a) [] l h = cc
same_lists d (x ∷ a) (y ∷ b) l h =
    let first : x ≡ y = h 0 (omega arith) in
    let rest : a ≡ b = same_lists d a b (cc) (λ k less. h (suc k) (omega arith)) in
    cc

-- Rows whose orders agree one by one have the same orders.
pub all_alike : (rows others : List RowOrders) (count : ℕ) → length rows ≡ length others → length rows ≤ count → ((k : ℕ) → k < count → get_or (map orders_in rows) k [] ≡ get_or (map orders_in others) k []) → map orders_in rows ≡ map orders_in others
all_alike rows others count same all h =
    let long : length (map orders_in rows) ≡ length rows = length-map rows orders_in in
    let long_other : length (map orders_in others) ≡ length others = length-map others orders_in in
    let as_long : length (map orders_in rows) ≡ length (map orders_in others) = omega arith in
    same_lists [] (map orders_in rows) (map orders_in others) as_long (λ k less. h k (omega arith))

-- The orders of the row at a rank.
pub row_at : (rows : List RowOrders) (rank : ℕ) (row : RowOrders) → rank < length rows → row ≡ get_or rows rank row → get_or (map orders_in rows) rank [] ≡ orders_in row
row_at rows rank row less is = get_orders rows rank ∙ ap orders_in (same_default rows rank [] row less ∙ sym is)
