-- Pieces that are written several times, and numbers that are written digit by digit.
use Rattle.std.proofs.Common.{ℕ, zero, suc, ◌+◌, ◌/◌, ◌%◌, ◌<◌, ◌≤◌, ◌^◌, ◌≡◌, List, [], ◌∷◌, ◌++◌, Option, map, refl, sym, ap, ◌∙◌, append_assoc, append-nil, replicate, arith}
use Rattle.std.specs.Prelude.{decimal}
use Rattle.std.proofs.lemmas.Fmt.{decimal_digit, decimal_step}
use Rattle.trace.specs.Text.{further, place}
use Rattle.trace.specs.Lines.{repeated}

-- A piece is written once more.
behind : (n : ℕ) (p : List ℕ) → repeated n p ++ p ≡ repeated (suc n) p
behind zero p = sym (append-nil p)
behind (suc n) p = append_assoc p (repeated n p) p ∙ ap (λ t. p ++ t) (behind n p)

pub once_more : (n : ℕ) (p front old new : List ℕ) → old ≡ front ++ repeated n p → new ≡ old ++ p → new ≡ front ++ repeated (n + 1) p
once_more n p front old new so is =
    let e : n + 1 ≡ suc n = omega arith in
    is ∙ (ap (λ t. t ++ p) so ∙ (append_assoc front (repeated n p) p ∙ ap (λ t. front ++ t) (behind n p ∙ ap (λ (k : ℕ). repeated k p) (sym e))))

-- The same order for all receivers is written.
pub told_alike : (n : ℕ) (o : Option ℕ) (front new : List ℕ) → new ≡ front ++ repeated n (32 ∷ place o) → new ≡ front ++ further (map place (replicate n o))
told_alike n o front new is = is ∙ ap (λ t. front ++ t) (each n o)
  where
    each : (n : ℕ) (o : Option ℕ) → repeated n (32 ∷ place o) ≡ further (map place (replicate n o))
    each zero o = refl
    each (suc n) o = ap (λ t. (32 ∷ place o) ++ t) (each n o)

-- One more digit is written.
pub one_digit_more : (n : ℕ) (front old new : List ℕ) → 10 ≤ n → n < 2 ^ 64 → old ≡ front ++ 32 ∷ decimal (n / 10) → new ≡ old ++ (48 + n % 10) ∷ [] → new ≡ front ++ 32 ∷ decimal n
one_digit_more n front old new more fits so is =
    is ∙ (ap (λ t. t ++ (48 + n % 10) ∷ []) so ∙ (append_assoc front (32 ∷ decimal (n / 10)) ((48 + n % 10) ∷ []) ∙ ap (λ t. front ++ 32 ∷ t) (sym (decimal_step n more fits))))

pub one_digit : (n : ℕ) (front new : List ℕ) → n < 10 → new ≡ front ++ 32 ∷ (48 + n) ∷ [] → new ≡ front ++ 32 ∷ decimal n
one_digit n front new few is = is ∙ ap (λ t. front ++ 32 ∷ t) (sym (decimal_digit n few))
