-- The first value that a function has, in a loop that tries the numbers in order.
use Rattle.std.proofs.Common.{◌≡◌, ℕ, zero, suc, ◌+◌, ◌-◌, ◌<◌, refl, sym, ap, ◌∙◌, add-one, arith}
use Rattle.std.specs.Prelude.{Option, Some, None}
use Rattle.object.specs.First.{first_some, or_else}

-- Before the first turn, no value is found.
pub nothing_yet : {A : Type 0} (f : ℕ → Option A) → first_some f 0 ≡ None
unfolding first_some
nothing_yet f = refl

first_some-suc : {A : Type 0} (f : ℕ → Option A) (i : ℕ) → first_some f (suc i) ≡ or_else (first_some f i) (f i)
unfolding first_some
first_some-suc {A = A} f i = refl

-- If there is no first value, the second one is the result.
pub or_else_other : {A : Type 0} (a b r : Option A) → None ≡ a → r ≡ b → r ≡ or_else a b
or_else_other {A = A} a b r none same = same ∙ ap (λ (x : Option A). or_else x b) none

-- If there is a first value, it is the result.
pub or_else_first : {A : Type 0} (x : A) (a b : Option A) → Some x ≡ a → Some x ≡ or_else a b
or_else_first {A = A} x a b same = ap (λ (y : Option A). or_else y b) same

-- No value is found at this number either.
pub nothing_more : {A : Type 0} (f : ℕ → Option A) (i : ℕ) → first_some f i ≡ None → None ≡ f i → first_some f (i + 1) ≡ None
nothing_more {A = A} f i before here =
    ap (first_some f) (add-one i) ∙ (first_some-suc f i ∙ (ap (λ (x : Option A). or_else x (f i)) before ∙ sym here))

found_suc : {A : Type 0} (f : ℕ → Option A) (i : ℕ) (x : A) → first_some f i ≡ None → Some x ≡ f i → Some x ≡ first_some f (suc i)
found_suc {A = A} f i x before here = here ∙ sym (first_some-suc f i ∙ ap (λ (y : Option A). or_else y (f i)) before)

found_on : {A : Type 0} (f : ℕ → Option A) (i : ℕ) (x : A) (more : ℕ) → first_some f i ≡ None → Some x ≡ f i → Some x ≡ first_some f (suc (more + i))
found_on {A = A} f i x zero before here = found_suc f i x before here ∙ ap (λ (n : ℕ). first_some f (suc n)) (omega arith)
found_on {A = A} f i x (suc more) before here =
    or_else_first x (first_some f (suc (more + i))) (f (suc (more + i))) (found_on f i x more before here)
    ∙ (sym (first_some-suc f (suc (more + i))) ∙ ap (λ (n : ℕ). first_some f (suc n)) (omega arith))

-- The value that is found at this number is the first.
pub found_first : {A : Type 0} (f : ℕ → Option A) (n i : ℕ) (x : A) → i < n → first_some f i ≡ None → Some x ≡ f i → Some x ≡ first_some f n
found_first {A = A} f n i x within before here =
    found_on f i x (n - suc i) before here ∙ ap (first_some f) (omega arith)

-- After the last number, no value is found.
pub nothing_left : {A : Type 0} (f : ℕ → Option A) (n i : ℕ) → i ≡ n → first_some f i ≡ None → None ≡ first_some f n
nothing_left {A = A} f n i end before = sym before ∙ ap (first_some f) end
