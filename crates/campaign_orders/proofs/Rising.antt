-- Ascending numbers, and those of them that are greater than one.
use Rattle.std.proofs.Common.{◌≡◌, ℕ, zero, suc, ◌+◌, ◌<◌, ◌≤◌, List, [], ◌∷◌, length, Bool, true, false, cond, refl, sym, ap, subst, ◌∙◌, ◌⊎◌, inl, inr, ⊎_elim, Option, Some, None, arith}
use Rattle.std.specs.Prelude.{slice_get, filter, nat_lt}
use Rattle.std.specs.List.{range_with_len}
use Rattle.std.proofs.lemmas.Bool.{lt-ltb, le-ltb, ltb-true, ltb-false, cases_lt}
use Rattle.world.specs.Kind.{World}
use Rattle.campaign_orders.specs.Orders.{will_ask}
use Rattle.campaign_orders.specs.Listing.{Has, askers}
use Rattle.campaign_orders.specs.Succession.{lesser, least_above}
use Rattle.campaign_orders.proofs.Listed.{passes_of}

-- The least number that is greater than another.
pub least_none : (g : ℕ) (names : List ℕ) → least_above g names ≡ None → (k : ℕ) → Has names k → k ≤ g
least_none g [] e k h = absurd h
least_none g (x ∷ names) e k h = by (λ f m. least_none g names f k m) (nat_lt g x) refl e
  where
    by : (least_above g names ≡ None → Has names k → k ≤ g) → (b : Bool) → nat_lt g x ≡ b → cond b (Some (lesser x (least_above g names))) (least_above g names) ≡ None → k ≤ g
    by again true t f = absurd (let c : Some (lesser x (least_above g names)) ≡ None = f in cc)
    by again false t f = ⊎_elim (λ (q : x ≡ k). (let l = ltb-false g x t in omega arith)) (λ m. again f m) h

pub record IsLeast (g : ℕ) (names : List ℕ) (h : ℕ) : Type 0 where
  pub has : Has names h
  pub above : g < h
  pub least : (k : ℕ) → Has names k → g < k → h ≤ k

pub least_some : (g : ℕ) (names : List ℕ) (h : ℕ) → least_above g names ≡ Some h → IsLeast g names h
least_some g [] h e = absurd (let c : None ≡ Some h = e in cc)
least_some g (x ∷ names) h e = by (nat_lt g x) refl (least_above g names) refl (λ f. least_some g names h f) (λ k f. least_some g names k f) e
  where
    other : (j : ℕ) → IsLeast g names j → x ≤ g → IsLeast g (x ∷ names) j
    other j l le = record { has = inr l.has; above = l.above; least = λ k m lt. ⊎_elim (λ (q : x ≡ k). absurd (omega arith)) (λ n. l.least k n lt) m }

    by : (b : Bool) → nat_lt g x ≡ b → (o : Option ℕ) → least_above g names ≡ o → (o ≡ Some h → IsLeast g names h) → ((k : ℕ) → o ≡ Some k → IsLeast g names k) → cond b (Some (lesser x o)) o ≡ Some h → IsLeast g (x ∷ names) h
    by false t o l again any f = other h (again f) (ltb-false g x t)
    by true t None l again any f =
        let c : x ≡ h = (let d : Some x ≡ Some h = f in cc) in
        let lt = ltb-true g x t in
        record { has = inl c; above = omega arith; least = λ k m less. ⊎_elim (λ (q : x ≡ k). omega arith) (λ n. absurd (let le = least_none g names l k n in omega arith)) m }
    by true t (Some j) l again any f =
        let c : lesser x (Some j) ≡ h = (let d : Some (lesser x (Some j)) ≡ Some h = f in cc) in
        let lt = ltb-true g x t in
        let later = any j refl in
        let far = later.above in
        record {
          has = ⊎_elim (λ (q : x < j). inl (omega arith)) (λ (q : j ≤ x). inr (let d : j ≡ h = omega arith in (let A : ℕ → Type 0 = λ i. Has names i in subst A d later.has))) (cases_lt x j);
          above = omega arith;
          least = λ k m less. ⊎_elim (λ (q : x ≡ k). omega arith) (λ n. (let le = later.least k n less in omega arith)) m;
        }

-- States that each number is less than those after it.
abbrev pub IsRising : List ℕ → Type 0
IsRising [] = Unit {0}
IsRising (x ∷ xs) = ((y : ℕ) → Has xs y → x < y) × IsRising xs

abbrev pub beyond : ℕ → List ℕ → List ℕ
beyond g xs = filter (λ h. nat_lt g h) xs

over_all : (g : ℕ) (xs : List ℕ) → ((y : ℕ) → Has xs y → g < y) → beyond g xs ≡ xs
over_all g [] h = refl
over_all g (x ∷ xs) h = rw (lt-ltb g x (h x (inl refl))) (ap (λ l. x ∷ l) (over_all g xs (λ y k. h y (inr k))))

pub none_over : (g : ℕ) (xs : List ℕ) → ((y : ℕ) → Has xs y → y ≤ g) → beyond g xs ≡ []
none_over g [] h = refl
none_over g (x ∷ xs) h = rw (le-ltb g x (h x (inl refl))) (none_over g xs (λ y k. h y (inr k)))

-- The first number, and the ones that are greater.
pub first_over : (g : ℕ) (xs : List ℕ) → IsRising xs → Has xs g → ((y : ℕ) → Has xs y → g ≤ y) → xs ≡ g ∷ beyond g xs
first_over g [] r h l = absurd h
first_over g (x ∷ xs) r h l = ⊎_elim (λ (e : x ≡ g). here e) (λ k. absurd (let a = r.0 g k in let b = l x (inl refl) in omega arith)) h
  where
    here : x ≡ g → x ∷ xs ≡ g ∷ beyond g (x ∷ xs)
    here e =
        let p : beyond g (x ∷ xs) ≡ xs = rw (le-ltb g x (omega arith)) (over_all g xs (λ y k. (let m = r.0 y k in omega arith))) in
        λ i. e i ∷ sym p i

-- The next greater number, and the ones that are greater than this.
pub next_over : (g h : ℕ) (xs : List ℕ) → IsRising xs → Has xs h → g < h → ((y : ℕ) → Has xs y → g < y → h ≤ y) → beyond g xs ≡ h ∷ beyond h xs
next_over g h [] r has lt l = absurd has
next_over g h (x ∷ xs) r has lt l = by (λ k. next_over g h xs r.1 k lt (λ y m. l y (inr m))) (cases_lt g x)
  where
    by : (Has xs h → beyond g xs ≡ h ∷ beyond h xs) → (g < x) ⊎ (x ≤ g) → beyond g (x ∷ xs) ≡ h ∷ beyond h (x ∷ xs)
    by again (inl less) =
        let le = l x (inl refl) less in
        let e : x ≡ h = ⊎_elim (λ (q : x ≡ h). q) (λ k. absurd (let a = r.0 h k in omega arith)) has in
        let p : beyond g (x ∷ xs) ≡ x ∷ xs = rw (lt-ltb g x less) (ap (λ l. x ∷ l) (over_all g xs (λ y k. (let m = r.0 y k in omega arith)))) in
        let q : beyond h (x ∷ xs) ≡ xs = rw (le-ltb h x (omega arith)) (over_all h xs (λ y k. (let m = r.0 y k in omega arith))) in
        p ∙ (λ i. e i ∷ sym q i)
    by again (inr le) =
        let k : Has xs h = ⊎_elim (λ (q : x ≡ h). absurd (omega arith)) (λ m. m) has in
        let p : beyond g (x ∷ xs) ≡ beyond g xs = rw (le-ltb g x le) refl in
        let q : beyond h (x ∷ xs) ≡ beyond h xs = rw (le-ltb h x (omega arith)) refl in
        p ∙ (again k ∙ (λ i. h ∷ sym q i))

filter_rising : (p : ℕ → Bool) (a n : ℕ) → IsRising (filter p (range_with_len a n))
filter_rising p a zero = tt
filter_rising p a (suc n) = by (p a) (filter_rising p (a + 1) n) (λ y h. (let k = (passes_of p (a + 1) n y h).from in omega arith))
  where
    by : (b : Bool) → IsRising (filter p (range_with_len (a + 1) n)) → ((y : ℕ) → Has (filter p (range_with_len (a + 1) n)) y → a < y) →
        IsRising (cond b (a ∷ filter p (range_with_len (a + 1) n)) (filter p (range_with_len (a + 1) n)))
    by true r l = (l, r)
    by false r l = r

pub askers_rising : (w : World) → IsRising (askers w)
askers_rising w = filter_rising (λ h. will_ask (slice_get w.parts h)) 0 (length w.parts)
