-- A word is a general's number exactly if it spells this number in decimal.
use Rattle.std.proofs.Common.{◌≡◌, ◌≢◌, ℕ, zero, suc, ◌+◌, ◌*◌, ◌^◌, ◌<◌, ◌≤◌, Bool, true, false, List, [], ◌∷◌, Option, Some, None, refl, sym, ap, ◌∙◌, arith}
use Rattle.std.specs.Prelude.{decimal, filter, bytes_eq, min, nat_le, ◌==◌, ◌&&◌, if◌then◌else◌}
use Rattle.std.specs.Fmt.{digits}
use Rattle.std.specs.List.{range_with_len}
use Rattle.std.proofs.lemmas.Slice.Eq.{bytes_eq-Decides}
use Rattle.std.proofs.lemmas.Fmt.{decimal_digit}
use Rattle.std.proofs.lemmas.Bool.Decides.{nat_tests}
use Rattle.text.specs.Options.{◌>>=◌}
use Rattle.text.specs.Number.{digit_in, digits_on, capped, decimal_of}
use Rattle.text.proofs.DecimalLemmas.{decimal_of-decimal}
use Rattle.trace.specs.Schedules.{number_within}
use Rattle.trace.specs.Names.{general_of}
use Rattle.trace.proofs.Naming.{general_told}

-- A digit of base 10.
digit_inverse : (c d : ℕ) → digit_in 10 c ≡ Some d → (c ≡ 48 + d) × (d < 10)
digit_inverse c d h = grind (arith, nat_tests)

-- Further digits only make a number greater.
grown : (k n : ℕ) (o : Option ℕ) (cs : List ℕ) → ((j : ℕ) → j ≤ 2 ^ 64 → digits_on 10 j cs ≡ Some n → j ≤ n)
    → (o >>= λ d. digits_on 10 (capped (k * 10 + d)) cs) ≡ Some n → min (k * 10) (2 ^ 64) ≤ n
grown k n None cs ih h = absurd cc
grown k n (Some d) cs ih h = let e = ih (capped (k * 10 + d)) (omega arith) h in omega arith

grows : (n : ℕ) (cs : List ℕ) (k : ℕ) → k ≤ 2 ^ 64 → digits_on 10 k cs ≡ Some n → k ≤ n
grows n [] k le h = let same : k ≡ n = cc in omega arith
grows n (c ∷ cs) k le h = let e = grown k n (digit_in 10 c) cs (grows n cs) h in omega arith

-- A number of one digit.
one_digit : (c n : ℕ) (o : Option ℕ) → digit_in 10 c ≡ o → (o >>= λ d. digits_on 10 (capped (0 * 10 + d)) []) ≡ Some n → c ∷ [] ≡ decimal n
one_digit c n None e h = absurd cc
one_digit c n (Some d) e h =
    let i = digit_inverse c d e in
    let small : capped (0 * 10 + d) ≡ d = (let lt = i.1 in omega arith) in
    let same : d ≡ n = cc in
    ap (λ x. x ∷ []) i.0 ∙ sym (decimal_digit d i.1) ∙ ap decimal same

-- A number from 10 to 12.
teens : (y : ℕ) → y ≤ 2 → 49 ∷ (48 + y) ∷ [] ≡ decimal (10 + y)
unfolding digits
teens zero h = refl
teens (suc zero) h = refl
teens (suc (suc zero)) h = refl
teens (suc (suc (suc y))) h = absurd (omega arith)

-- Which two digits a number up to 12 can have, and that no other digit follows.
two_digits : (c d n x y : ℕ) (cs : List ℕ) → digit_in 10 c ≡ Some x → digit_in 10 d ≡ Some y → c ≢ 48 → n ≤ 12 → digits_on 10 (capped (capped (0 * 10 + x) * 10 + y)) cs ≡ Some n → c ∷ d ∷ cs ≡ decimal n
two_digits c d n x y [] ex ey some le h =
    let i = digit_inverse c x ex in
    let j = digit_inverse d y ey in
    let total : capped (capped (0 * 10 + x) * 10 + y) ≡ n = cc in
    let one : x ≡ 1 = (let a = i.0 in let b = i.1 in let f = j.1 in omega arith) in
    let sum : 10 + y ≡ n = (let a = i.0 in let b = i.1 in let f = j.1 in omega arith) in
    let first : c ≡ 49 = (let a = i.0 in omega arith) in
    (λ k. first k ∷ j.0 k ∷ []) ∙ teens y (omega arith) ∙ ap decimal sum
two_digits c d n x y (e ∷ es) ex ey some le h =
    let i = digit_inverse c x ex in
    let j = digit_inverse d y ey in
    let k = capped (capped (0 * 10 + x) * 10 + y) in
    let high = grown k n (digit_in 10 e) es (grows n es) h in
    absurd (let a = i.0 in let b = i.1 in let f = j.1 in omega arith)

more_digits : (c d n : ℕ) (cs : List ℕ) (o p : Option ℕ) → digit_in 10 c ≡ o → digit_in 10 d ≡ p → c ≢ 48 → n ≤ 12
    → (o >>= λ x. p >>= λ y. digits_on 10 (capped (capped (0 * 10 + x) * 10 + y)) cs) ≡ Some n → c ∷ d ∷ cs ≡ decimal n
more_digits c d n cs None p ex ey some le h = absurd cc
more_digits c d n cs (Some x) None ex ey some le h = absurd cc
more_digits c d n cs (Some x) (Some y) ex ey some le h = two_digits c d n x y cs ex ey some le h

without_zero : (c d n : ℕ) (cs : List ℕ) (b : Bool) → (c == 48) ≡ b → n ≤ 12 → (if b then None else digits_on 10 0 (c ∷ d ∷ cs)) ≡ Some n → c ∷ d ∷ cs ≡ decimal n
without_zero c d n cs true e le h = absurd cc
without_zero c d n cs false e le h =
    let some : c ≢ 48 = grind (arith, nat_tests) in
    more_digits c d n cs (digit_in 10 c) (digit_in 10 d) refl refl some le h

-- A number up to 12 is read only from its own decimal digits.
decimal_inverse : (w : List ℕ) (n : ℕ) → n ≤ 12 → decimal_of w ≡ Some n → w ≡ decimal n
unfolding decimal_of
decimal_inverse [] n le h = absurd cc
decimal_inverse (c ∷ []) n le h = one_digit c n (digit_in 10 c) refl h
decimal_inverse (c ∷ d ∷ cs) n le h = without_zero c d n cs (c == 48) refl le h

within_inverse : (w : List ℕ) (n : ℕ) (o : Option ℕ) → decimal_of w ≡ o → (o >>= λ k. if nat_le 0 k && nat_le k 12 then Some k else None) ≡ Some n → w ≡ decimal n × (n ≤ 12)
within_inverse w n None e h = absurd cc
within_inverse w n (Some k) e h = by (nat_le 0 k && nat_le k 12) refl h
  where
    by : (b : Bool) → (nat_le 0 k && nat_le k 12) ≡ b → (if b then Some k else None) ≡ Some n → w ≡ decimal n × (n ≤ 12)
    by true t i = let same : k ≡ n = cc in let le : n ≤ 12 = grind (arith, nat_tests) in (decimal_inverse w n le (e ∙ ap (λ x. Some x) same), le)
    by false t i = absurd cc

-- A general's number names him.
pub general_some : (w : List ℕ) (n : ℕ) → number_within 0 12 w ≡ Some n → n ∷ [] ≡ general_of w
unfolding number_within
general_some w n h = let i = within_inverse w n (decimal_of w) refl h in sym (ap general_of i.0 ∙ general_told n (let le = i.1 in omega arith))

no_one : (t : ℕ → Bool) (n a : ℕ) → ((g : ℕ) → a ≤ g → g < a + n → t g ≡ false) → filter t (range_with_len a n) ≡ []
no_one t zero a h = refl
no_one t (suc n) a h = rw (h a (omega arith) (omega arith)) (no_one t n (a + 1) (λ g le lt. h g (omega arith) (omega arith)))

number_told : (g : ℕ) → g < 13 → number_within 0 12 (decimal g) ≡ Some g
unfolding number_within
number_told g lt =
    let small : nat_le g 12 ≡ true = grind (arith, nat_tests) in
    let least : nat_le 0 g ≡ true = grind (arith, nat_tests) in
    rw (decimal_of-decimal g (omega arith), small, least) refl

-- Any other word names nobody.
pub general_none : (w : List ℕ) → number_within 0 12 w ≡ None → [] ≡ general_of w
general_none w h = sym (no_one (λ g. bytes_eq (decimal g) w) 13 0 (λ g le lt. by g lt (bytes_eq (decimal g) w) refl))
  where
    by : (g : ℕ) → g < 13 → (b : Bool) → bytes_eq (decimal g) w ≡ b → b ≡ false
    by g lt true e = let same : decimal g ≡ w = (bytes_eq-Decides (decimal g) w).0 e in let told = number_told g lt in let read : number_within 0 12 (decimal g) ≡ None = ap (number_within 0 12) same ∙ h in absurd cc
    by g lt false e = refl
