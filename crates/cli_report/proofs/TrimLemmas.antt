-- Lines without the white space at their ends.
use Rattle.std.proofs.Common.{◌≡◌, ◌∙◌, ℕ, zero, suc, ◌<◌, ◌≤◌, List, [], ◌∷◌, Bool, true, false, ap, arith, cond, get_or, length, length-take, refl, sym, take}
use Rattle.text.specs.declared.stop.Stop.{Stop}
use Rattle.text.specs.Parts.{before, until}
use Rattle.cli_report.specs.Lines.{is_white, kept, trimmed}

-- White space at the end of a line is removed.
trimmed-white : (xs : List ℕ) (n : ℕ) → n < length xs → is_white (get_or xs n 0) ≡ true → trimmed (take (suc n) xs) ≡ trimmed (take n xs)
trimmed-white [] n lt white = absurd (omega arith)
trimmed-white (x ∷ xs) zero lt white = rw white refl
trimmed-white (x ∷ xs) (suc n) lt white = ap (kept x) (trimmed-white xs n (omega arith) white)

-- A line that ends with another character is unchanged.
trimmed-solid : (xs : List ℕ) (n : ℕ) → n < length xs → is_white (get_or xs n 0) ≡ false → trimmed (take (suc n) xs) ≡ take (suc n) xs
trimmed-solid [] n lt solid = absurd (omega arith)
trimmed-solid (x ∷ xs) zero lt solid = rw solid refl
trimmed-solid (x ∷ []) (suc n) lt solid = absurd (omega arith)
trimmed-solid (x ∷ y ∷ ys) (suc n) lt solid =
    let h : trimmed (take (suc n) (y ∷ ys)) ≡ y ∷ take n ys = trimmed-solid (y ∷ ys) n (omega arith) solid in
    ap (kept x) h

-- ---- the loop from the end of the line

pub ends-solid : (xs : List ℕ) (size k : ℕ) → size ≡ suc k → k < length xs → is_white (get_or xs k 0) ≡ false → trimmed (take size xs) ≡ trimmed xs → take size xs ≡ trimmed xs
ends-solid xs size k e lt solid so = rw e (sym (trimmed-solid xs k lt solid) ∙ (rw e at so))

pub ends-white : (xs : List ℕ) (size k : ℕ) → size ≡ suc k → k < length xs → is_white (get_or xs k 0) ≡ true → trimmed (take size xs) ≡ trimmed xs → trimmed (take k xs) ≡ trimmed xs
ends-white xs size k e lt white so = sym (trimmed-white xs k lt white) ∙ (rw e at so)

-- ---- the length of the line without white space

one_kept : (b : Bool) (c : ℕ) → length (cond b [] (c ∷ [])) ≤ 1
one_kept true c = omega arith
one_kept false c = omega arith

length-kept : (c : ℕ) (t : List ℕ) → length (kept c t) ≤ suc (length t)
length-kept c [] = one_kept (is_white c) c
length-kept c (d ∷ ds) = omega arith

pub length-trimmed : (xs : List ℕ) → length (trimmed xs) ≤ length xs
length-trimmed [] = omega arith
length-trimmed (c ∷ cs) = omega (arith, length-kept c (trimmed cs), length-trimmed cs)

pub length-before : (stop : Stop) (xs : List ℕ) → length (before stop xs) ≤ length xs
length-before stop xs = omega (arith, length-take (until stop xs) xs)
