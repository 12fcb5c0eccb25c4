-- Proves that a number that is printed in digits is read back.
use Rattle.std.proofs.Common.{◌≡◌, ℕ, ◌+◌, ◌*◌, ◌/◌, ◌%◌, ◌^◌, ◌<◌, ◌≤◌, List, [], ◌∷◌, ◌++◌, Option, Some, None, refl, ◌∙◌, arith}
use Rattle.std.specs.Prelude.{decimal}
use Rattle.std.proofs.lemmas.Fmt.{decimal_by_steps}
use Rattle.text.specs.Options.{◌>>=◌}
use Rattle.text.specs.Number.{digits_on, digit_in, capped}

goes : (base n m : ℕ) (o : Option ℕ) (ds es : List ℕ) → ((k : ℕ) → digits_on base k ds ≡ Some m → digits_on base k (ds ++ es) ≡ digits_on base m es)
    → (o >>= λ x. digits_on base (capped (n * base + x)) ds) ≡ Some m → (o >>= λ x. digits_on base (capped (n * base + x)) (ds ++ es)) ≡ digits_on base m es
goes base n m None ds es ih h = absurd cc
goes base n m (Some x) ds es ih h = ih (capped (n * base + x)) h

pub digits-append : (base m : ℕ) (ds es : List ℕ) (n : ℕ) → digits_on base n ds ≡ Some m → digits_on base n (ds ++ es) ≡ digits_on base m es
digits-append base m [] es n h = let same : n ≡ m = cc in rw same refl
digits-append base m (d ∷ ds) es n h = goes base n m (digit_in base d) ds es (λ k. digits-append base m ds es k) h

digit_is : (n : ℕ) → n < 10 → digit_in 10 (48 + n) ≡ Some n
digit_is n lt = grind arith

capped_is : (n : ℕ) → n < 2 ^ 64 → capped n ≡ n
capped_is n lt = omega arith

last_digit : (n k : ℕ) → n < 2 ^ 64 → k * 10 + n % 10 ≡ n → digits_on 10 k ((48 + n % 10) ∷ []) ≡ Some n
last_digit n k lt e = rw (digit_is (n % 10) (omega arith), e, capped_is n lt) refl

Again : ℕ → List ℕ → Type 0
Again n ds = n < 2 ^ 64 → digits_on 10 0 ds ≡ Some n

one : (n : ℕ) → n < 10 → Again n ((48 + n) ∷ [])
unfolding Again
one n lt small = let e : 0 * 10 + n ≡ n = omega arith in rw (digit_is n lt, e, capped_is n small) refl

more : (n : ℕ) (ds : List ℕ) → 10 ≤ n → Again (n / 10) ds → Again n (ds ++ ((48 + n % 10) ∷ []))
unfolding Again
more n ds le ih small = digits-append 10 (n / 10) ds ((48 + n % 10) ∷ []) 0 (ih (omega arith)) ∙ last_digit n (n / 10) small (omega arith)

pub decimal_again : (n : ℕ) → n < 2 ^ 64 → digits_on 10 0 (decimal n) ≡ Some n
unfolding Again
decimal_again n lt = decimal_by_steps Again one more n lt lt
