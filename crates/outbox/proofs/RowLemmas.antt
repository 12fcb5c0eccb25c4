-- One row, whose orders are stored by the receivers' numbers.
use Rattle.std.proofs.Common.{ℕ, zero, suc, ◌+◌, ◌<◌, ◌≤◌, ◌≡◌, ◌≢◌, Bool, true, false, not, cond, ◌||◌, List, [], ◌∷◌, length, take, get_or, set, refl, sym, ap, ◌∙◌, arith, inl, inr, Some, None, Option, get_or-set_same, get_or-set_other, min}
use Rattle.std.specs.Prelude.{◌==◌, if◌then◌else◌}
use Rattle.std.proofs.lemmas.Bool.{or_parts, or_cases, and_parts, not-true, eqb-true, false≢true}
use Rattle.std.proofs.lemmas.Bool.Decides.{eqb_tells}
use Rattle.label.specs.Labels.{on, is_distinct, others}
use Rattle.label.specs.Oral.{AllBelow}
use Rattle.label.proofs.Bounds.{others_length_more, on-get_or}
use Rattle.outbox.specs.Rows.{RowOrders, receivers_in, row_of, put_in_row, filled, order_in}

-- The receivers of a row.
pub names_in : (os : List (Option ℕ)) (ns : List ℕ) → receivers_in (row_of os ns) ≡ ns
names_in os [] = refl
names_in os (n ∷ ns) = ap (λ xs. n ∷ xs) (names_in os ns)

pub on-below : (m : ℕ) (ns : List ℕ) (r : ℕ) → AllBelow m ns → on ns r ≡ true → r < m
on-below m [] r b h = absurd (false≢true h)
on-below m (n ∷ ns) r b h =
    elim (or_cases (n == r) (on ns r) h) [
      | inl here ↦ let e : n ≡ r = eqb-true n r here in let l : n < m = b.0 in omega arith
      | inr there ↦ on-below m ns r b.1 there
    ]

-- An order is put in place of an earlier one.
put_at : (os : List (Option ℕ)) (n r v : ℕ) → r < length os → get_or (set os r (Some v)) n None ≡ (if n == r then Some v else get_or os n None)
put_at os n r v l =
    elim (eqb_tells n r) [
      | inl same ↦ rw (same.0, same.1) (get_or-set_same os r (Some v) None l)
      | inr apart ↦ rw apart.0 (get_or-set_other os r n (Some v) None apart.1)
    ]

pub row_put : (os : List (Option ℕ)) (ns : List ℕ) (r v : ℕ) → r < length os → row_of (set os r (Some v)) ns ≡ put_in_row r v (row_of os ns)
row_put os [] r v l = refl
row_put os (n ∷ ns) r v l =
    let here : get_or (set os r (Some v)) n None ≡ (if n == r then Some v else get_or os n None) = put_at os n r v l in
    let rest : row_of (set os r (Some v)) ns ≡ put_in_row r v (row_of os ns) = row_put os ns r v l in
    rw (here, rest) refl

pub row_kept : (row : RowOrders) (r v : ℕ) → on (receivers_in row) r ≡ false → row ≡ put_in_row r v row
row_kept [] r v a = refl
row_kept (p ∷ row) r v a =
    let parts = or_parts (p.0 == r) (on (receivers_in row) r) a in
    let here : (if p.0 == r then Some v else p.1) ≡ p.1 = rw parts.0 refl in
    let rest : row ≡ put_in_row r v row = row_kept row r v parts.1 in
    rw (here, ← rest) refl

-- The order for one receiver.
pub order_there : (os : List (Option ℕ)) (ns : List ℕ) (r : ℕ) → on ns r ≡ true → get_or os r None ≡ order_in r (row_of os ns)
order_there os [] r h = absurd (false≢true h)
order_there os (n ∷ ns) r h =
    elim (eqb_tells n r) [
      | inl same ↦ rw (same.0, same.1) refl
      | inr apart ↦ rw apart.0 (order_there os ns r (sym (ap (λ t. t || on ns r) apart.0) ∙ h))
    ]

pub order_absent : (row : RowOrders) (r : ℕ) → on (receivers_in row) r ≡ false → None ≡ order_in r row
order_absent [] r a = refl
order_absent (p ∷ row) r a =
    let parts = or_parts (p.0 == r) (on (receivers_in row) r) a in
    rw parts.0 (order_absent row r parts.1)

-- Orders are put for the first receivers, one more at a time.
set_absent : (os : List (Option ℕ)) (ns : List ℕ) (m : ℕ) (x : Option ℕ) → on ns m ≡ false → row_of (set os m x) ns ≡ row_of os ns
set_absent os [] m x a = refl
set_absent os (n ∷ ns) m x a =
    let parts = or_parts (n == m) (on ns m) a in
    elim (eqb_tells n m) [
      | inl same ↦ absurd (false≢true (sym parts.0 ∙ same.0))
      | inr apart ↦ rw (get_or-set_other os m n x None apart.1, set_absent os ns m x parts.1) refl
    ]

row_set : (os : List (Option ℕ)) (ns : List ℕ) (i : ℕ) (x : Option ℕ) → is_distinct ns ≡ true → AllBelow (length os) ns → i < length ns → row_of (set os (get_or ns i 0) x) ns ≡ set (row_of os ns) i (get_or ns i 0, x)
row_set os [] i x d b l = absurd (omega arith)
row_set os (n ∷ ns) zero x d b l =
    let both = and_parts (not (on ns n)) (is_distinct ns) d in
    rw (get_or-set_same os n x None b.0, set_absent os ns n x (not-true (on ns n) both.0)) refl
row_set os (n ∷ ns) (suc i) x d b l =
    let both = and_parts (not (on ns n)) (is_distinct ns) d in
    let there : on ns (get_or ns i 0) ≡ true = on-get_or ns i (omega arith) in
    let ne : n ≢ get_or ns i 0 = λ e. false≢true (sym (not-true (on ns n) both.0) ∙ (ap (on ns) e ∙ there)) in
    rw (get_or-set_other os (get_or ns i 0) n x None ne, row_set os ns i x both.1 b.1 (omega arith)) refl

filled_more : (vs : List ℕ) (row : RowOrders) (i m : ℕ) → i < length vs → i < length row → m ≡ get_or (receivers_in row) i 0 → set (filled (take i vs) row) i (m, Some (get_or vs i 0)) ≡ filled (take (suc i) vs) row
filled_more [] row i m l k e = absurd (omega arith)
filled_more (v ∷ vs) [] i m l k e = absurd (omega arith)
filled_more (v ∷ vs) (p ∷ row) zero m l k e = rw e refl
filled_more (v ∷ vs) (p ∷ row) (suc i) m l k e = ap (λ xs. (p.0, Some v) ∷ xs) (filled_more vs row i m (omega arith) (omega arith) e)

pub fill_step : (os₀ os : List (Option ℕ)) (ns vs : List ℕ) (i : ℕ) → is_distinct ns ≡ true → AllBelow 13 ns → length os ≡ 13 → i < length ns → i < length vs → row_of os ns ≡ filled (take i vs) (row_of os₀ ns)
    → row_of (set os (get_or ns i 0) (Some (get_or vs i 0))) ns ≡ filled (take (i + 1) vs) (row_of os₀ ns)
fill_step os₀ os ns vs i d b long l k e =
    let below : AllBelow (length os) ns = rw long b in
    let more : i + 1 ≡ suc i = omega arith in
    let size : length (row_of os₀ ns) ≡ length ns = long_as os₀ ns in
    rw (row_set os ns i (Some (get_or vs i 0)) d below l, e, more) (filled_more vs (row_of os₀ ns) i (get_or ns i 0) k (omega arith) (ap (λ xs. get_or xs i 0) (sym (names_in os₀ ns))))
  where
    long_as : (os : List (Option ℕ)) (ns : List ℕ) → length (row_of os ns) ≡ length ns
    long_as os [] = refl
    long_as os (n ∷ ns) = ap suc (long_as os ns)

pub row_long : (os : List (Option ℕ)) (ns : List ℕ) → length (row_of os ns) ≡ length ns
row_long os [] = refl
row_long os (n ∷ ns) = ap suc (row_long os ns)

pub filled_all : (vs : List ℕ) (row : RowOrders) (m : ℕ) → m ≡ min (length row) (length vs) → filled (take m vs) row ≡ filled vs row
filled_all [] row zero e = refl
filled_all [] row (suc m) e = absurd (omega arith)
filled_all (v ∷ vs) [] zero e = refl
filled_all (v ∷ vs) [] (suc m) e = absurd (omega arith)
filled_all (v ∷ vs) (p ∷ row) zero e = absurd (omega arith)
filled_all (v ∷ vs) (p ∷ row) (suc m) e = ap (λ xs. (p.0, Some v) ∷ xs) (filled_all vs row m (omega arith))

-- The receivers are few, and their numbers are below a bound.
pub others-few : (n : ℕ) (w : List ℕ) → length (others n w) ≤ n
others-few zero w = omega arith
others-few (suc n) w =
    let few : length (others n w) ≤ n = others-few n w in
    let more : length (others (n + 1) w) ≡ length (others n w) + cond (on w n) 0 1 = others_length_more w n in
    let e : n + 1 ≡ suc n = omega arith in
    let more' : length (others (suc n) w) ≡ length (others n w) + cond (on w n) 0 1 = rw e at more in
    let bit : cond {A = ℕ} (on w n) 0 1 ≤ 1 = at_most (on w n) in
    omega arith
  where
    at_most : (b : Bool) → cond {A = ℕ} b 0 1 ≤ 1
    at_most true = omega arith
    at_most false = omega arith

pub all_below : (m : ℕ) (xs : List ℕ) → ((j : ℕ) → on xs j ≡ true → j < m) → AllBelow m xs
all_below m [] h = tt
all_below m (x ∷ xs) h = (h x (first x), all_below m xs (λ j i. h j (later x j i)))
  where
    first : (x : ℕ) → on (x ∷ xs) x ≡ true
    first x = elim (eqb_tells x x) [ inl same ↦ rw same.0 refl | inr apart ↦ absurd (apart.1 refl) ]

    later : (x j : ℕ) → on xs j ≡ true → on (x ∷ xs) j ≡ true
    later x j i = elim (x == j) as (λ t. (t || on xs j) ≡ true) [ true ↦ refl | false ↦ i ]
