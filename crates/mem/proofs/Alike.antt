-- Lists that have the same item at each index.
use Rattle.std.proofs.Common.{ℕ, suc, ◌<◌, ◌≡◌, List, [], ◌∷◌, length, get_or, refl, arith}

pub same_lists : {A : Type 0} (d : A) (a b : List A) → length a ≡ length b → ((k : ℕ) → k < length a → get_or a k d ≡ get_or b k d) → a ≡ b
same_lists d [] [] l h = refl
same_lists d [] (y ∷ b) l h = cc
same_lists d (x ∷ a) [] l h = cc
same_lists d (x ∷ a) (y ∷ b) l h =
    let first : x ≡ y = h 0 (omega arith) in
    let rest : a ≡ b = same_lists d a b (cc) (λ k less. h (suc k) (omega arith)) in
    cc
