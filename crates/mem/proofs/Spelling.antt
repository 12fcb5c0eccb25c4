-- The bytes of several numbers, and zeros after them.
use Rattle.std.proofs.Common.{◌≡◌, ℕ, zero, suc, ◌-◌, ◌*◌, ◌≤◌, List, [], ◌∷◌, ◌++◌, length, take, flat_map, refl, sym, ap, ◌∙◌, arith, length-append}
use Rattle.std.specs.Prelude.{replicate}
use Rattle.std.proofs.lemmas.Grind.{flat_map-append}
use Rattle.word.specs.Bytes.{little_bytes}
use Rattle.label.specs.declared.shape.Shape.{Shape}
use Rattle.mem.specs.ContextLayout.{context_bytes}

-- The eight numbers at the beginning of a context.
abbrev pub header_numbers : Shape → ℕ → ℕ → List ℕ
header_numbers shape bound count =
    shape.generals ∷ bound ∷ shape.general ∷ shape.commander ∷ shape.round ∷ count ∷ (shape.generals - shape.round) ∷ 0 ∷ []

spelled-long : (numbers : List ℕ) → length (flat_map (little_bytes 4) numbers) ≡ 4 * length numbers
spelled-long [] = refl
spelled-long (n ∷ numbers) = (let e = spelled-long numbers in omega arith)

-- Appending more zeros and cutting off at a length is appending zeros up to this length.
padded : (n m : ℕ) (xs : List ℕ) → length xs ≤ n → n ≤ m → xs ++ replicate (n - length xs) 0 ≡ take n (xs ++ replicate m 0)
padded n m [] l h = let e : n - 0 ≡ n = omega arith in rw e (sym (zeros n m h))
  where
    zeros : (n m : ℕ) → n ≤ m → take n (replicate {A = ℕ} m 0) ≡ replicate n 0
    zeros zero m h = refl
    zeros (suc n) zero h = absurd (omega arith)
    zeros (suc n) (suc m) h = ap (λ xs. 0 ∷ xs) (zeros n m (omega arith))
padded zero m (x ∷ xs) l h = absurd (omega arith)
padded (suc n) m (x ∷ xs) l h = let e : suc n - suc (length xs) ≡ n - length xs = omega arith in rw e (ap (λ ys. x ∷ ys) (padded n m xs (omega arith) (omega arith)))

pub padded_is : (numbers bytes : List ℕ) → length numbers ≤ 1024 → bytes ≡ flat_map (little_bytes 4) numbers → bytes ++ replicate (4096 - length bytes) 0 ≡ context_bytes numbers
unfolding context_bytes
padded_is numbers bytes l e =
    rw e (padded 4096 4096 (flat_map (little_bytes 4) numbers) (let k = spelled-long numbers in omega arith) (omega arith))

whole : (n : ℕ) (xs : List ℕ) → length xs ≤ n → take n xs ≡ xs
whole zero [] l = refl
whole (suc n) [] l = refl
whole zero (x ∷ xs) l = absurd (omega arith)
whole (suc n) (x ∷ xs) l = ap (λ ys. x ∷ ys) (whole n xs (omega arith))

-- Eight numbers, then orders, then zeros.
pub context_done : (header coded orders z a b c : List ℕ) (n : ℕ) → length header ≡ 8 → length orders ≤ 1000 → coded ≡ header → z ≡ [] → a ≡ z ++ flat_map (little_bytes 4) coded → b ≡ a ++ flat_map (little_bytes 4) orders → n ≡ length b → c ≡ take 4096 b ++ replicate (4096 - n) 0 → c ≡ context_bytes (header ++ orders)
context_done header coded orders z a b c n eight few eh ez ea eb en ec =
    let all : b ≡ flat_map (little_bytes 4) (header ++ orders) = eb ∙ (ap (λ xs. xs ++ flat_map (little_bytes 4) orders) (ea ∙ (λ i. ez i ++ flat_map (little_bytes 4) (eh i))) ∙ sym (flat_map-append (little_bytes 4) header orders)) in
    let short : length (header ++ orders) ≤ 1024 = rw length-append (omega arith) in
    let long : length b ≤ 4096 = rw all (let k = spelled-long (header ++ orders) in omega arith) in
    ec ∙ (ap (λ xs. xs ++ replicate (4096 - n) 0) (whole 4096 b long) ∙ (ap (λ (k : ℕ). b ++ replicate (4096 - k) 0) en ∙ padded_is (header ++ orders) b short all))
