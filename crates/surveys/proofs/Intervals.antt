-- Wilson's interval.
use Rattle.std.proofs.Common.{ℕ, zero, suc, ◌+◌, ◌-◌, ◌*◌, ◌≤◌, ◌<◌, ◌≡◌, ◌≢◌, Bool, true, false, cond, refl, sym, ap, ◌∙◌, arith, add-one, ◌⊎◌, inl, inr, ⊎_elim, subst}
use Rattle.std.specs.Prelude.{◌==◌, nat_le, nat_lt}
use Rattle.std.proofs.lemmas.Bool.Decides.{nat_tests}
use Rattle.surveys.specs.Wilson.{IsLower, greatest, is_below, lower}

pub none_greatest : (p : ℕ → Bool) → 0 ≡ greatest p 0
unfolding greatest
none_greatest p = refl

greatest_suc : (p : ℕ → Bool) (n : ℕ) → greatest p (suc n) ≡ cond (p n) n (greatest p n)
unfolding greatest
greatest_suc p n = refl

-- The greatest number below a limit that passes a test, if the limit is 1 greater.
pub greatest_more : (p : ℕ → Bool) (n : ℕ) → greatest p (n + 1) ≡ cond (p n) n (greatest p n)
greatest_more p n = ap (greatest p) (add-one n) ∙ greatest_suc p n

-- q passes the test, and no greater number below the limit does.
record IsGreatest (p : ℕ → Bool) (limit q : ℕ) : Type 0 where
  passes : p q ≡ true
  within : q < limit
  most : (n : ℕ) → n < limit → p n ≡ true → n ≤ q

last_or_before : (n k : ℕ) → n < suc k → (n ≡ k) ⊎ (n < k)
last_or_before n k h = grind arith

no_more : {A : Type 0} (b : Bool) → b ≡ true → b ≡ false → A
no_more b holds fails = absurd (let z : true ≡ false = sym holds ∙ fails in cc)

one_more : (p : ℕ → Bool) (k q : ℕ) (b : Bool) → p k ≡ b → IsGreatest p k q → IsGreatest p (suc k) (cond b k q)
one_more p k q true is h = record {
  passes = is;
  within = omega arith;
  most = λ n less holds. omega (arith, less);
}
one_more p k q false is h =
    let within = h.within in
    record {
      passes = h.passes;
      within = omega (arith, within);
      most = λ n less holds. ⊎_elim (λ (same : n ≡ k). no_more (p n) holds (ap p same ∙ is)) (λ (low : n < k). h.most n low holds) (last_or_before n k less);
    }

greatest_is : (p : ℕ → Bool) (limit : ℕ) → p 0 ≡ true → IsGreatest p (suc limit) (greatest p (suc limit))
greatest_is p zero h =
    let first : IsGreatest p 1 0 = record { passes = h; within = omega arith; most = λ n less holds. omega (arith, less) } in
    subst (λ (q : ℕ). IsGreatest p 1 q) (sym (greatest_suc p 0 ∙ ap (λ (b : Bool). cond b 0 (greatest p 0)) h)) first
greatest_is p (suc limit) h =
    subst (λ (q : ℕ). IsGreatest p (suc (suc limit)) q) (sym (greatest_suc p (suc limit))) (one_more p (suc limit) (greatest p (suc limit)) (p (suc limit)) refl (greatest_is p limit h))

none_below : (n k : ℕ) → is_below n k 0 ≡ true
none_below n k = refl

-- Whether a share is at most the lower end of the interval, case by case.
pub at_zero : (n k q : ℕ) → q ≡ 0 → is_below n k q ≡ true
at_zero n k q none = ap (is_below n k) none ∙ none_below n k

no_zero : (q : ℕ) → q ≢ 0 → q == 0 ≡ false
no_zero q some = grind (arith, nat_tests)

no_less : (a b : ℕ) → b ≤ a → nat_lt a b ≡ false
no_less a b le = grind (arith, nat_tests)

is_less : (a b : ℕ) → a < b → nat_lt a b ≡ true
is_less a b less = grind (arith, nat_tests)

pub not_below : (n k q : ℕ) → q ≢ 0 → k * 10000 ≤ n * q → is_below n k q ≡ false
not_below n k q some le = rw (no_zero q some, no_less (n * q) (k * 10000) le) refl

pub as_below : (n k q : ℕ) → q ≢ 0 → n * q < k * 10000 → is_below n k q ≡ nat_le (2401 * n * (q * (10000 - q))) (25 * (k * 10000 - n * q) * (25 * (k * 10000 - n * q)))
as_below n k q some less = rw (no_zero q some, is_less (n * q) (k * 10000) less) refl

-- The lower end of the interval, as the greatest share that is at most this end.
pub lower_same : (n k end q : ℕ) → end ≡ 10001 → q ≡ greatest (is_below n k) end → q ≡ lower n k
unfolding lower
lower_same n k end q e h = h ∙ ap (greatest (is_below n k)) e

pub lower_is : (n k end q : ℕ) → end ≡ 10001 → q ≡ greatest (is_below n k) end → IsLower n k q
lower_is n k end q e h =
    let whole : end ≡ suc (end - 1) = omega arith in
    let own : IsGreatest (is_below n k) end (greatest (is_below n k) end) =
    subst (λ (m : ℕ). IsGreatest (is_below n k) m (greatest (is_below n k) m)) (sym whole) (greatest_is (is_below n k) (end - 1) (none_below n k)) in
    let here : IsGreatest (is_below n k) end q = subst (λ (x : ℕ). IsGreatest (is_below n k) end x) (sym h) own in
    let within = here.within in
    record {
      below = here.passes;
      most = omega (arith, within);
      limit = λ p less holds. here.most p (omega (arith, less)) holds;
    }
