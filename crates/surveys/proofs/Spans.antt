-- Ranges of seeds, cut into pieces.
use Rattle.std.proofs.Common.{ℕ, zero, suc, ◌+◌, ◌-◌, ◌≤◌, ◌≡◌, List, ◌∷◌, ◌++◌, sym, ap, subst, ◌∙◌, arith}
use Rattle.std.specs.List.{AllZip, range_with_len}
use Rattle.rayon.proofs.ListFacts.{AllZip-append}

-- A range of numbers is its first part followed by its second.
pub range_both : (a n m : ℕ) → range_with_len a (n + m) ≡ range_with_len a n ++ range_with_len (a + n) m
range_both a zero m = (let e : a ≡ a + 0 = omega arith in let f : 0 + m ≡ m = omega arith in λ i. range_with_len (e i) (f i))
range_both a (suc n) m =
    let e : suc n + m ≡ suc (n + m) = omega arith in
    let f : a + 1 + n ≡ a + suc n = omega arith in
    ap (range_with_len a) e ∙ (ap (λ (l : List ℕ). a ∷ l) (range_both (a + 1) n m) ∙ (λ i. a ∷ (range_with_len (a + 1) n ++ range_with_len (f i) m)))

pub zip_both : {B : Type 0} (R : ℕ → B → Type 0) (a b c : ℕ) (xs ys : List B) → a ≤ b → b ≤ c → AllZip R (range_with_len a (b - a)) xs → AllZip R (range_with_len b (c - b)) ys → AllZip R (range_with_len a (c - a)) (xs ++ ys)
zip_both R a b c xs ys low high h k =
    let whole : c - a ≡ (b - a) + (c - b) = omega arith in
    let middle : a + (b - a) ≡ b = omega arith in
    let cut : range_with_len a (c - a) ≡ range_with_len a (b - a) ++ range_with_len b (c - b) = ap (range_with_len a) whole ∙ (range_both a (b - a) (c - b) ∙ (λ i. range_with_len a (b - a) ++ range_with_len (middle i) (c - b))) in
    subst (λ (l : List ℕ). AllZip R l (xs ++ ys)) (sym cut) (AllZip-append R (range_with_len a (b - a)) (range_with_len b (c - b)) xs ys h k)
