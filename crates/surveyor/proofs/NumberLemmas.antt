-- A word is a range of numbers in at most one way.
use Rattle.std.proofs.Common.{ℕ, ◌+◌, ◌*◌, ◌≤◌, ◌<◌, ◌≡◌, ◌≢◌, inl, inr, List, [], ◌∷◌, ◌++◌, refl, sym, ap, ◌∙◌, arith, Option, None, Some, codes, cond, true, false, Bool, nat_eq, append_assoc, subst}
use Rattle.std.specs.Prelude.{IfNone, IfSome, ◌==◌}
use Rattle.std.proofs.lemmas.Bool.Decides.{nat_tests}
use Rattle.text.specs.Number.{capped, decimal_of, digit_in, digits_on}
use Rattle.text.specs.Options.{◌>>=◌}
use Rattle.surveyor.specs.Numbers.{AreTold, IsNoSpan, IsSpread, IsTold}

-- The text contains no full stop.
abbrev pub Dotless : List ℕ → Type 0
Dotless [] = Unit {0}
Dotless (c ∷ cs) = (c ≢ 46) × Dotless cs

no_digit : (c d : ℕ) → digit_in 10 c ≡ Some d → c ≢ 46
no_digit c d is dot = (let e : None ≡ Some d = sym (ap (λ k. digit_in 10 k) dot) ∙ is in absurd cc)

one_digit : (n v c : ℕ) (cs : List ℕ) (o : Option ℕ) → ((m : ℕ) → digits_on 10 m cs ≡ Some v → Dotless cs) → digit_in 10 c ≡ o → (o >>= λ d. digits_on 10 (capped (n * 10 + d)) cs) ≡ Some v → Dotless (c ∷ cs)
one_digit n v c cs None more digit told = absurd cc
one_digit n v c cs (Some d) more digit told = (no_digit c d digit, more (capped (n * 10 + d)) told)

digits_dotless : (cs : List ℕ) (n v : ℕ) → digits_on 10 n cs ≡ Some v → Dotless cs
digits_dotless [] n v is = tt
digits_dotless (c ∷ cs) n v is = one_digit n v c cs (digit_in 10 c) (λ m. digits_dotless cs m v) refl is

no_zero : (b : Bool) (o : Option ℕ) (v : ℕ) → cond b None o ≡ Some v → o ≡ Some v
no_zero true o v is = absurd cc
no_zero false o v is = is

pub number_dotless : (word : List ℕ) (v : ℕ) → decimal_of word ≡ Some v → Dotless word
unfolding decimal_of
number_dotless [] v is = absurd cc
number_dotless (c ∷ []) v is = digits_dotless (c ∷ []) 0 v is
number_dotless (c ∷ d ∷ cs) v is = digits_dotless (c ∷ d ∷ cs) 0 v (no_zero (nat_eq c 48) (digits_on 10 0 (c ∷ d ∷ cs)) v is)

no_dot : (xs ys : List ℕ) → Dotless (xs ++ 46 ∷ ys) → ⊥
no_dot [] ys (ne, h) = ne refl
no_dot (x ∷ xs) ys (ne, h) = no_dot xs ys h

head_is : (a b : ℕ) (xs ys : List ℕ) → a ∷ xs ≡ b ∷ ys → a ≡ b
head_is a b xs ys e = cc

tail_is : (a b : ℕ) (xs ys : List ℕ) → a ∷ xs ≡ b ∷ ys → xs ≡ ys
tail_is a b xs ys e = cc

-- A text whose two parts have no full stops can be split at `..` in only one way.
pub parts_once : (xs ys lo hi : List ℕ) → Dotless xs → Dotless ys → xs ++ 46 ∷ 46 ∷ ys ≡ lo ++ 46 ∷ 46 ∷ hi → (xs ≡ lo) × (ys ≡ hi)
parts_once [] ys [] hi dx dy e = (refl, tail_is 46 46 ys hi (tail_is 46 46 (46 ∷ ys) (46 ∷ hi) e))
parts_once [] ys (a ∷ []) hi dx dy e = absurd (no_dot [] hi (subst Dotless (tail_is 46 46 ys (46 ∷ hi) (tail_is 46 a (46 ∷ ys) (46 ∷ 46 ∷ hi) e)) dy))
parts_once [] ys (a ∷ b ∷ lo) hi dx dy e = absurd (no_dot lo (46 ∷ hi) (subst Dotless (tail_is 46 b ys (lo ++ 46 ∷ 46 ∷ hi) (tail_is 46 a (46 ∷ ys) (b ∷ lo ++ 46 ∷ 46 ∷ hi) e)) dy))
parts_once (x ∷ xs) ys [] hi (ne, dx) dy e = absurd (ne (head_is x 46 (xs ++ 46 ∷ 46 ∷ ys) (46 ∷ hi) e))
parts_once (x ∷ xs) ys (a ∷ lo) hi (ne, dx) dy e =
    let rest = parts_once xs ys lo hi dx dy (tail_is x a (xs ++ 46 ∷ 46 ∷ ys) (lo ++ 46 ∷ 46 ∷ hi) e) in
    let first = head_is x a (xs ++ 46 ∷ 46 ∷ ys) (lo ++ 46 ∷ 46 ∷ hi) e in
    ((λ i. first i ∷ rest.0 i), rest.1)

both_told : (front back lo hi : List ℕ) (low high : ℕ) → AreTold front back low high → front ++ 46 ∷ 46 ∷ back ≡ lo ++ 46 ∷ 46 ∷ hi → AreTold lo hi low high
both_told front back lo hi low high told e =
    let parts = parts_once front back lo hi (number_dotless front low told.0) (number_dotless back high told.1) e in
    (ap decimal_of (sym parts.0) ∙ told.0, ap decimal_of (sym parts.1) ∙ told.1)

-- A word `LO..HI` is the range with the numbers LO and HI.
pub parted : (word lo hi : List ℕ) (low high : ℕ) → word ≡ lo ++ (codes ".." ++ hi) → IsTold word low high → AreTold lo hi low high
parted word lo hi low high whole (inl told) = absurd (no_dot lo (46 ∷ hi) (subst Dotless whole (number_dotless word low told.0)))
parted word lo hi low high whole (inr told) =
    both_told told.front told.back lo hi low high told.told (sym (append_assoc told.front (codes "..") told.back) ∙ (sym told.whole ∙ whole))

-- A word without `..` is one number.
pub whole : (word : List ℕ) (low high : ℕ) → ((xs ys : List ℕ) → word ≢ xs ++ (codes ".." ++ ys)) → IsTold word low high → AreTold word word low high
whole word low high none (inl told) = told
whole word low high none (inr told) = absurd (none told.front told.back (told.whole ∙ append_assoc told.front (codes "..") told.back))

both_once : (front back : List ℕ) (a b c d : ℕ) → AreTold front back a b → AreTold front back c d → (a ≡ c) × (b ≡ d)
both_once front back a b c d one other =
    let low : Some a ≡ Some c = sym one.0 ∙ other.0 in
    let high : Some b ≡ Some d = sym one.1 ∙ other.1 in
    (cc, cc)

told_once_spread : (word : List ℕ) (a b c d : ℕ) → IsSpread word a b → IsTold word c d → (a ≡ c) × (b ≡ d)
told_once_spread word a b c d one other =
    both_once one.front one.back a b c d one.told (parted word one.front one.back c d (one.whole ∙ append_assoc one.front (codes "..") one.back) other)

pub told_once : (word : List ℕ) (a b c d : ℕ) → IsTold word a b → IsTold word c d → (a ≡ c) × (b ≡ d)
told_once word a b c d (inl one) (inl other) = both_once word word a b c d one other
told_once word a b c d (inl one) (inr other) =
    let same = told_once_spread word c d a b other (inl one) in (sym same.0, sym same.1)
told_once word a b c d (inr one) other = told_once_spread word a b c d one other

-- If the parts of a word do not give a valid range, the word is not a valid range.
pub no_span_parted : (limit : ℕ) (word : List ℕ) (r : Option (ℕ × ℕ)) (lo hi : List ℕ) → word ≡ lo ++ (codes ".." ++ hi) → IfNone r ((a b : ℕ) → AreTold lo hi a b → a ≤ b → b < limit → ⊥) → IfNone r (IsNoSpan limit word)
no_span_parted limit word None lo hi is none = λ a b told ordered inside. none a b (parted word lo hi a b is told) ordered inside
no_span_parted limit word (Some r) lo hi is none = tt

pub no_span_whole : (limit : ℕ) (word : List ℕ) (r : Option (ℕ × ℕ)) → ((xs ys : List ℕ) → word ≢ xs ++ (codes ".." ++ ys)) → IfNone r ((a b : ℕ) → AreTold word word a b → a ≤ b → b < limit → ⊥) → IfNone r (IsNoSpan limit word)
no_span_whole limit word None parts none = λ a b told ordered inside. none a b (whole word a b parts told) ordered inside
no_span_whole limit word (Some r) parts none = tt

pub any_none : {X : Type 0} (r : Option X) (P : Type 0) → P → IfNone r P
any_none None P h = h
any_none (Some x) P h = tt

-- A word that is not a number less than the limit is rejected.
pub none_below : (limit : ℕ) (word : List ℕ) (r : Option ℕ) → IfNone r ((n : ℕ) → decimal_of word ≡ Some n → limit ≤ n) → IfNone r ((n : ℕ) → decimal_of word ≡ Some n → n < limit → ⊥)
none_below limit word None more = λ n is less. (let le = more n is in omega arith)
none_below limit word (Some x) more = tt

-- What holds of the result for a range of orders from 0.
pub record AreOrders (word : List ℕ) (r : Option ℕ) : Type 0 where
  pub told : IfSome r (λ most. IsTold word 0 most)
  pub some : IfSome r (λ most. 1 ≤ most)
  pub none : IfNone r ((most : ℕ) → IsTold word 0 most → 1 ≤ most → most < 256 → ⊥)

is_zero : (a : ℕ) → a == 0 ≡ true → a ≡ 0
is_zero a h = grind (arith, nat_tests)

not_zero : (a : ℕ) → a == 0 ≡ false → 1 ≤ a
not_zero a h = grind (arith, nat_tests)

no_orders : (word : List ℕ) (least most : ℕ) (r : Option ℕ) → r ≡ None → IsTold word least most → (least ≡ 0 → most ≡ 0) → AreOrders word r
no_orders word least most r is told bars = subst (AreOrders word) (sym is) (record {
  told = tt;
  some = tt;
  none = λ other own some less.
      (let same = told_once word least most 0 other told own in
      let last = bars same.0 in
      let equal = same.1 in omega (arith, last, equal, some));
})

some_orders : (word : List ℕ) (b c : Bool) (least most : ℕ) (r : Option ℕ) → least == 0 ≡ b → most == 0 ≡ c → IsTold word least most → r ≡ cond b (cond c None (Some most)) None → AreOrders word r
some_orders word true true least most r zero none told is = no_orders word least most r is told (λ e. is_zero most none)
some_orders word true false least most r zero some told is = subst (AreOrders word) (sym is) (record {
  told = subst (λ (a : ℕ). IsTold word a most) (is_zero least zero) told;
  some = not_zero most some;
  none = tt;
})
some_orders word false c least most r more any told is = no_orders word least most r is told (λ e. (let one = not_zero least more in absurd (omega (arith, one, e))))

pub orders_are : (word : List ℕ) (least most : ℕ) (r : Option ℕ) → IsTold word least most → r ≡ cond (least == 0) (cond (most == 0) None (Some most)) None → AreOrders word r
orders_are word least most r told is = some_orders word (least == 0) (most == 0) least most r refl refl told is
