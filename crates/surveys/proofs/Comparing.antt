-- Comparisons of numbers, case by case.
use Rattle.std.proofs.Common.{ℕ, ◌+◌, ◌-◌, ◌<◌, ◌≤◌, ◌≡◌, Bool, true, false, cond, refl, sym, ap, subst, ◌∙◌, arith, ◌⊎◌, ⊎_elim}
use Rattle.std.specs.Prelude.{◌==◌, nat_le, nat_lt, min, max, ◌&&◌, ◌||◌}
use Rattle.std.proofs.lemmas.Bool.{cases_lt, eq-eqb, eqb-true, eqb-false, le-leb, leb-false, leb-true, lt-leb, lt-ltb, le-ltb, ne_eqb}

pub zero_plus : (t : ℕ) → 0 + t ≡ t
zero_plus t = omega arith

rest : (t : ℕ) → nat_lt 0 t ≡ nat_lt 0 (0 + t)
rest t = ap (nat_lt 0) (sym (zero_plus t))

and_true : (b : Bool) → (b && true) ≡ b
and_true true = refl
and_true false = refl

and_false : (b : Bool) → (b && false) ≡ false
and_false true = refl
and_false false = refl

or_true : (b : Bool) → (b || true) ≡ true
or_true true = refl
or_true false = refl

pub or_false : (b : Bool) → (b || false) ≡ b
or_false true = refl
or_false false = refl

pub apart : (s x : ℕ) → x < s → (s == x) ≡ false
apart s x lt = ne_eqb s x (λ e. omega (arith, e, lt))

above : (s x : ℕ) → s < x → (s == x) ≡ false
above s x lt = ne_eqb s x (λ e. omega (arith, e, lt))

-- No number is from a greater number to a lesser one.
pub empty_has : (x a b : ℕ) → nat_le a b ≡ false → false ≡ (nat_le a x && nat_le x b)
empty_has x a b h = ⊎_elim below beyond (cases_lt x a)
  where
    far : b < a
    far = leb-false a b h

    below : x < a → false ≡ (nat_le a x && nat_le x b)
    below lt = rw (lt-leb a x lt) refl

    beyond : a ≤ x → false ≡ (nat_le a x && nat_le x b)
    beyond le = rw (le-leb a x le, lt-leb x b (omega (arith, le, far))) refl

pub last_gap : (p q : Bool) → (p && q) ≡ (p && (q && true))
last_gap p q = ap (λ (y : Bool). p && y) (sym (and_true q))

-- A number x from `next` to `last` is missing exactly if it is in the gap before the seed s, or is missing after s.
abbrev pub Gap : ℕ → ℕ → ℕ → ℕ → ℕ → Type 0
Gap next s x last t =
    ((nat_lt next s && (nat_le next x && nat_le x (min (s - 1) last))) || (nat_le (max next (s + 1)) x && (nat_le x last && (t == 0))))
    ≡ (nat_le next x && (nat_le x last && ((cond (s == x) 1 0 + t) == 0)))

gap_below : (next s x last t : ℕ) → x < s → t ≡ 0 → Gap next s x last t
gap_below next s x last t lt none = ⊎_elim before (λ le. ⊎_elim (outside le) (inside le) (cases_lt last x)) (cases_lt x next)
  where
    later : nat_le (max next (s + 1)) x ≡ false
    later = lt-leb (max next (s + 1)) x (omega (arith, lt))

    before : x < next → Gap next s x last t
    before l = rw (lt-leb next x l, and_false (nat_lt next s), later) refl

    outside : next ≤ x → last < x → Gap next s x last t
    outside le l = rw (le-leb next x le, lt-ltb next s (omega (arith, le, lt)), lt-leb x (min (s - 1) last) (omega (arith, l)), lt-leb x last l, later) refl

    inside : next ≤ x → x ≤ last → Gap next s x last t
    inside le l = rw (le-leb next x le, lt-ltb next s (omega (arith, le, lt)), le-leb x (min (s - 1) last) (omega (arith, l, lt)), le-leb x last l, apart s x lt, none) refl

gap_at : (next s x last t : ℕ) → x ≡ s → Gap next s x last t
gap_at next s x last t e = ⊎_elim before behind (cases_lt next s)
  where
    later : nat_le (max next (s + 1)) x ≡ false
    later = lt-leb (max next (s + 1)) x (omega (arith, e))

    told : ((cond (s == x) 1 0 + t) == 0) ≡ false
    told = rw (eq-eqb s x (sym e)) (ne_eqb (1 + t) 0 (λ z. omega (arith, z)))

    before : next < s → Gap next s x last t
    before l = rw (told, later, lt-ltb next s l, lt-leb x (min (s - 1) last) (omega (arith, l, e)), and_false (nat_le next x), and_false (nat_le x last)) (sym (and_false (nat_le next x)))

    behind : s ≤ next → Gap next s x last t
    behind l = rw (told, later, le-ltb next s l, and_false (nat_le x last)) (sym (and_false (nat_le next x)))

gap_above : (next s x last t : ℕ) → s < x → Gap next s x last t
gap_above next s x last t lt = ⊎_elim before behind (cases_lt next s)
  where
    told : cond (s == x) 1 0 + t ≡ t
    told = rw (above s x lt) (omega arith)

    same : nat_le (max next (s + 1)) x ≡ nat_le next x
    same = ⊎_elim (λ (l : x < next). rw (lt-leb next x l) (lt-leb (max next (s + 1)) x (omega (arith, l)))) (λ (l : next ≤ x). rw (le-leb next x l) (le-leb (max next (s + 1)) x (omega (arith, l, lt)))) (cases_lt x next)

    before : next < s → Gap next s x last t
    before l = rw (told, same, lt-ltb next s l, lt-leb x (min (s - 1) last) (omega (arith, l, lt)), and_false (nat_le next x)) refl

    behind : s ≤ next → Gap next s x last t
    behind l = rw (told, same, le-ltb next s l) refl

pub gap_step : (next s x last t : ℕ) → (x < s → t ≡ 0) → Gap next s x last t
gap_step next s x last t none =
    ⊎_elim (λ lt. gap_below next s x last t lt (none lt)) (λ ge. ⊎_elim (λ gt. gap_above next s x last t gt) (λ le. gap_at next s x last t (same ge le)) (cases_lt s x)) (cases_lt x s)
  where
    same : s ≤ x → x ≤ s → x ≡ s
    same ge le = omega (arith, ge, le)

-- Which seeds occur twice.
pub twice_one : (a x : ℕ) → false ≡ nat_le 2 (cond (a == x) 1 0 + 0)
twice_one a x = go (a == x)
  where
    go : (c : Bool) → false ≡ nat_le 2 (cond c 1 0 + 0)
    go true = refl
    go false = refl

one_more : (t r : ℕ) (c : Bool) → nat_lt 0 r ≡ nat_le 2 (cond c 1 0 + t) → nat_lt 0 (cond c 1 0 + r) ≡ nat_le 2 (cond c 1 0 + (cond c 1 0 + t))
one_more t r true h = lt-ltb 0 (1 + r) (omega arith) ∙ sym (le-leb 2 (1 + (1 + t)) (omega arith))
one_more t r false h = ap (nat_lt 0) (zero_plus r) ∙ (h ∙ ap (nat_le 2) (sym (zero_plus (0 + t))))

pub twice_same : (a b x t r : ℕ) → a ≡ b → nat_lt 0 r ≡ nat_le 2 (cond (b == x) 1 0 + t) → nat_lt 0 (cond (b == x) 1 0 + r) ≡ nat_le 2 (cond (a == x) 1 0 + (cond (b == x) 1 0 + t))
twice_same a b x t r e h = subst (λ (y : ℕ). nat_lt 0 (cond (b == x) 1 0 + r) ≡ nat_le 2 (cond (y == x) 1 0 + (cond (b == x) 1 0 + t))) (sym e) (one_more t r (b == x) h)

once_more : (u r : ℕ) (c : Bool) → (c ≡ true → u ≡ 0) → nat_lt 0 r ≡ nat_le 2 u → nat_lt 0 r ≡ nat_le 2 (cond c 1 0 + u)
once_more u r true none h = let zero_is = none refl in h ∙ (lt-leb 2 u (omega (arith, zero_is)) ∙ sym (lt-leb 2 (1 + u) (omega (arith, zero_is))))
once_more u r false none h = h ∙ ap (nat_le 2) (sym (zero_plus u))

pub twice_other : (a b x u r : ℕ) → a < b → (x < b → u ≡ 0) → nat_lt 0 r ≡ nat_le 2 u → nat_lt 0 r ≡ nat_le 2 (cond (a == x) 1 0 + u)
twice_other a b x u r lt none h = once_more u r (a == x) (λ e. none (before (eqb-true a x e))) h
  where
    before : a ≡ x → x < b
    before e = omega (arith, e, lt)

pub equal_is : (a b : ℕ) → (a == b) ≡ true → a ≡ b
equal_is a b h = eqb-true a b h

pub less_is : (a b : ℕ) → a ≤ b → (a == b) ≡ false → a < b
less_is a b le h = ⊎_elim (λ lt. lt) (λ ge. absurd (eqb-false a b h (same ge))) (cases_lt a b)
  where
    same : b ≤ a → a ≡ b
    same ge = omega (arith, ge, le)

-- Which seeds are in the ranges.
pub first_stretch : (s x t : ℕ) → ((nat_le s x && nat_le x s) || nat_lt 0 t) ≡ nat_lt 0 (cond (s == x) 1 0 + t)
first_stretch s x t = ⊎_elim before (λ ge. ⊎_elim beyond (λ le. at (same ge le)) (cases_lt s x)) (cases_lt x s)
  where
    same : s ≤ x → x ≤ s → s ≡ x
    same ge le = omega (arith, ge, le)

    before : x < s → ((nat_le s x && nat_le x s) || nat_lt 0 t) ≡ nat_lt 0 (cond (s == x) 1 0 + t)
    before lt = rw (lt-leb s x lt, apart s x lt) (rest t)

    beyond : s < x → ((nat_le s x && nat_le x s) || nat_lt 0 t) ≡ nat_lt 0 (cond (s == x) 1 0 + t)
    beyond lt = rw (le-leb s x (omega (arith, lt)), lt-leb x s lt, above s x lt) (rest t)

    at : s ≡ x → ((nat_le s x && nat_le x s) || nat_lt 0 t) ≡ nat_lt 0 (cond (s == x) 1 0 + t)
    at e = rw (le-leb s x (omega (arith, e)), le-leb x s (omega (arith, e)), eq-eqb s x e) (sym (lt-ltb 0 (1 + t) (omega arith)))

pub longer : (a b s x t : ℕ) → a ≤ b → b ≤ s → nat_le s (b + 1) ≡ true
    → ((nat_le a x && nat_le x (max b s)) || nat_lt 0 t) ≡ ((nat_le a x && nat_le x b) || nat_lt 0 (cond (s == x) 1 0 + t))
longer a b s x t le more near = ⊎_elim early (λ ge. ⊎_elim far (λ l. at (same ge l)) (cases_lt s x)) (cases_lt x s)
  where
    close : s ≤ b + 1
    close = leb-true s (b + 1) near

    same : s ≤ x → x ≤ s → s ≡ x
    same ge l = omega (arith, ge, l)

    early : x < s → ((nat_le a x && nat_le x (max b s)) || nat_lt 0 t) ≡ ((nat_le a x && nat_le x b) || nat_lt 0 (cond (s == x) 1 0 + t))
    early lt = rw (apart s x lt, le-leb x (max b s) (omega (arith, lt)), le-leb x b (omega (arith, lt, close))) (ap (λ (y : Bool). (nat_le a x && true) || y) (rest t))

    far : s < x → ((nat_le a x && nat_le x (max b s)) || nat_lt 0 t) ≡ ((nat_le a x && nat_le x b) || nat_lt 0 (cond (s == x) 1 0 + t))
    far lt = rw (above s x lt, lt-leb x (max b s) (omega (arith, lt, more)), lt-leb x b (omega (arith, lt, more))) (ap (λ (y : Bool). (nat_le a x && false) || y) (rest t))

    at : s ≡ x → ((nat_le a x && nat_le x (max b s)) || nat_lt 0 t) ≡ ((nat_le a x && nat_le x b) || nat_lt 0 (cond (s == x) 1 0 + t))
    at e = rw (eq-eqb s x e, le-leb a x (omega (arith, e, le, more)), le-leb x (max b s) (omega (arith, e)), lt-ltb 0 (1 + t) (omega arith)) (sym (or_true (nat_le x b)))

pub another : (b : Bool) (s x t : ℕ) → (b || ((nat_le s x && nat_le x s) || nat_lt 0 t)) ≡ (b || nat_lt 0 (cond (s == x) 1 0 + t))
another b s x t = ap (λ (y : Bool). b || y) (first_stretch s x t)
