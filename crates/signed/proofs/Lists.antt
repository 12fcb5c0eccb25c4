-- Lists of chains, and lists of generals.
use Rattle.std.proofs.Common.{◌≡◌, ℕ, Bool, true, false, cond, ◌||◌, List, [], ◌∷◌, ◌++◌, map, refl, ap, inl, inr}
use Rattle.std.specs.Prelude.{filter, flat_map, ◌==◌, ◌⊎◌}
use Rattle.std.proofs.lemmas.Bool.{cases_Bool, or_left, or_right, or_cases, or_parts, or_from, eq-eqb, eqb-true}
use Rattle.label.specs.Labels.{on}
use Rattle.signed.specs.Chains.{Chain, Among, orders, signed_also}
use Rattle.signed.specs.Accepted.{firsts}

filter_out_more : (t : Chain → Bool) (x : Chain) (xs : List Chain) (ch : Chain) → (Among ch (filter t xs) → Among ch xs × (t ch ≡ true)) → (b : Bool) → t x ≡ b → Among ch (cond b (x ∷ filter t xs) (filter t xs)) → Among ch (x ∷ xs) × (t ch ≡ true)
filter_out_more t x xs ch ih true e k = elim k [ inl q ↦ (inl q, rw q at e) | inr m ↦ (inr (ih m).0, (ih m).1) ]
filter_out_more t x xs ch ih false e k = (inr (ih k).0, (ih k).1)

pub filter_out : (t : Chain → Bool) (xs : List Chain) (ch : Chain) → Among ch (filter t xs) → Among ch xs × (t ch ≡ true)
filter_out t [] ch h = absurd h
filter_out t (x ∷ xs) ch h = filter_out_more t x xs ch (filter_out t xs ch) (t x) refl h

filter_in_more : (t : Chain → Bool) (x : Chain) (xs : List Chain) (ch : Chain) → t ch ≡ true → (Among ch xs → Among ch (filter t xs)) → (b : Bool) → t x ≡ b → Among ch (x ∷ xs) → Among ch (cond b (x ∷ filter t xs) (filter t xs))
filter_in_more t x xs ch h ih true e k = elim k [ inl q ↦ inl q | inr m ↦ inr (ih m) ]
filter_in_more t x xs ch h ih false e k = elim k [ inl q ↦ absurd (let f : t ch ≡ false = rw q at e in cc) | inr m ↦ ih m ]

pub filter_in : (t : Chain → Bool) (xs : List Chain) (ch : Chain) → Among ch xs → t ch ≡ true → Among ch (filter t xs)
filter_in t [] ch h k = absurd h
filter_in t (x ∷ xs) ch h k = filter_in_more t x xs ch k (λ m. filter_in t xs ch m k) (t x) refl h

pub append_left : (xs ys : List Chain) (ch : Chain) → Among ch xs → Among ch (xs ++ ys)
append_left [] ys ch h = absurd h
append_left (x ∷ xs) ys ch h = elim h [ inl q ↦ inl q | inr m ↦ inr (append_left xs ys ch m) ]

pub append_right : (xs ys : List Chain) (ch : Chain) → Among ch ys → Among ch (xs ++ ys)
append_right [] ys ch h = h
append_right (x ∷ xs) ys ch h = inr (append_right xs ys ch h)

pub append_out : (xs ys : List Chain) (ch : Chain) → Among ch (xs ++ ys) → Among ch xs ⊎ Among ch ys
append_out [] ys ch h = inr h
append_out (x ∷ xs) ys ch h = elim h [ inl q ↦ inl (inl q) | inr m ↦ elim (append_out xs ys ch m) [ inl a ↦ inl (inr a) | inr b ↦ inr b ] ]

pub flat_in : (f : ℕ → List Chain) (gs : List ℕ) (g : ℕ) (ch : Chain) → on gs g ≡ true → Among ch (f g) → Among ch (flat_map f gs)
flat_in f [] g ch o h = cc
flat_in f (x ∷ gs) g ch o h = elim (or_cases (x == g) (on gs g) o) [
  | inl here ↦ append_left (f x) (flat_map f gs) ch (let e : x ≡ g = eqb-true x g here in rw e h)
  | inr there ↦ append_right (f x) (flat_map f gs) ch (flat_in f gs g ch there h)
]

pub flat_out : (f : ℕ → List Chain) (gs : List ℕ) (ch : Chain) → Among ch (flat_map f gs) → (g : ℕ) × ((on gs g ≡ true) × Among ch (f g))
flat_out f [] ch h = absurd h
flat_out f (x ∷ gs) ch h = elim (append_out (f x) (flat_map f gs) ch h) [
  | inl here ↦ (x, (or_left (x == x) (on gs x) (eq-eqb x x refl), here))
  | inr there ↦ let r = flat_out f gs ch there in (r.0, (or_right (x == r.0) (on gs r.0) r.1.0, r.1.1))
]

pub also_out : (g : ℕ) (xs : List Chain) (ch : Chain) → Among ch (map (λ x. signed_also x g) xs) → (k : Chain) × (Among k xs × (signed_also k g ≡ ch))
also_out g [] ch h = absurd h
also_out g (x ∷ xs) ch h = elim h [ inl q ↦ (x, (inl refl, q)) | inr m ↦ let r = also_out g xs ch m in (r.0, (inr r.1.0, r.1.1)) ]

pub also_in : (g : ℕ) (xs : List Chain) (k : Chain) → Among k xs → Among (signed_also k g) (map (λ x. signed_also x g) xs)
also_in g [] k h = absurd h
also_in g (x ∷ xs) k h = elim h [ inl q ↦ inl (ap (λ y. signed_also y g) q) | inr m ↦ inr (also_in g xs k m) ]

pub on_append : (xs ys : List ℕ) (v : ℕ) → on (xs ++ ys) v ≡ (on xs v || on ys v)
on_append [] ys v = refl
on_append (x ∷ xs) ys v = elim (x == v) as (λ b. (b || on (xs ++ ys) v) ≡ ((b || on xs v) || on ys v)) [ true ↦ refl | false ↦ on_append xs ys v ]

pub orders_in : (xs : List Chain) (ch : Chain) → Among ch xs → on (orders xs) ch.order ≡ true
orders_in [] ch h = absurd h
orders_in (x ∷ xs) ch h = elim h [ inl q ↦ or_left (x.order == ch.order) (on (orders xs) ch.order) (eq-eqb x.order ch.order (ap (λ y. y.order) q)) | inr m ↦ or_right (x.order == ch.order) (on (orders xs) ch.order) (orders_in xs ch m) ]

pub orders_out : (xs : List Chain) (v : ℕ) → on (orders xs) v ≡ true → (ch : Chain) × (Among ch xs × (ch.order ≡ v))
orders_out [] v h = cc
orders_out (x ∷ xs) v h = elim (or_cases (x.order == v) (on (orders xs) v) h) [
  | inl here ↦ (x, (inl refl, eqb-true x.order v here))
  | inr there ↦ let r = orders_out xs v there in (r.0, (inr r.1.0, r.1.1))
]

firsts_out_more : (seen : List ℕ) (x : Chain) (xs : List Chain) (ch : Chain) → (Among ch (firsts seen xs) → Among ch xs × (on seen ch.order ≡ false)) → (Among ch (firsts (x.order ∷ seen) xs) → Among ch xs × (on (x.order ∷ seen) ch.order ≡ false)) → (b : Bool) → on seen x.order ≡ b
    → Among ch (cond b (firsts seen xs) (x ∷ firsts (x.order ∷ seen) xs)) → Among ch (x ∷ xs) × (on seen ch.order ≡ false)
firsts_out_more seen x xs ch ih ih2 true e h = (inr (ih h).0, (ih h).1)
firsts_out_more seen x xs ch ih ih2 false e h = elim h [ inl q ↦ (inl q, rw q at e) | inr m ↦ (inr (ih2 m).0, (or_parts (x.order == ch.order) (on seen ch.order) (ih2 m).1).1) ]

-- A first chain is one of the chains, and its order was not known.
pub firsts_out : (seen : List ℕ) (xs : List Chain) (ch : Chain) → Among ch (firsts seen xs) → Among ch xs × (on seen ch.order ≡ false)
firsts_out seen [] ch h = absurd h
firsts_out seen (x ∷ xs) ch h = firsts_out_more seen x xs ch (firsts_out seen xs ch) (firsts_out (x.order ∷ seen) xs ch) (on seen x.order) refl h

firsts_in_more : (seen : List ℕ) (x : Chain) (xs : List Chain) (v : ℕ) → on seen v ≡ false → (on (orders xs) v ≡ true → on (orders (firsts seen xs)) v ≡ true) → (on (orders xs) v ≡ true → on (x.order ∷ seen) v ≡ false → on (orders (firsts (x.order ∷ seen) xs)) v ≡ true)
    → (b : Bool) → on seen x.order ≡ b → on (orders (x ∷ xs)) v ≡ true → on (orders (cond b (firsts seen xs) (x ∷ firsts (x.order ∷ seen) xs))) v ≡ true
firsts_in_more seen x xs v s ih ih2 true e h = elim (or_cases (x.order == v) (on (orders xs) v) h) [
  | inl here ↦ absurd (let q : x.order ≡ v = eqb-true x.order v here in let f : on seen v ≡ true = rw q at e in cc)
  | inr there ↦ ih there
]
firsts_in_more seen x xs v s ih ih2 false e h = elim (cases_Bool (x.order == v)) [
  | inl here ↦ or_left (x.order == v) (on (orders (firsts (x.order ∷ seen) xs)) v) here
  | inr apart ↦ or_right (x.order == v) (on (orders (firsts (x.order ∷ seen) xs)) v) (ih2 (elim (or_cases (x.order == v) (on (orders xs) v) h) [ inl here ↦ absurd cc | inr there ↦ there ]) (or_from (x.order == v) (on seen v) apart s))
]

-- An order that was not known has a first chain.
pub firsts_in : (seen : List ℕ) (xs : List Chain) (v : ℕ) → on (orders xs) v ≡ true → on seen v ≡ false → on (orders (firsts seen xs)) v ≡ true
firsts_in seen [] v h s = h
firsts_in seen (x ∷ xs) v h s = firsts_in_more seen x xs v s (λ k. firsts_in seen xs v k s) (λ k s2. firsts_in (x.order ∷ seen) xs v k s2) (on seen x.order) refl h

-- A list is split at a general who is in it.
pub stands : (xs : List ℕ) (h : ℕ) → on xs h ≡ true → (u : List ℕ) × ((w : List ℕ) × (xs ≡ u ++ h ∷ w))
stands [] h o = cc
stands (x ∷ xs) h o = elim (or_cases (x == h) (on xs h) o) [
  | inl here ↦ ([], (xs, let e : x ≡ h = eqb-true x h here in rw e refl))
  | inr there ↦ let r = stands xs h there in (x ∷ r.0, (r.1.0, ap (λ ys. x ∷ ys) r.1.1))
]

pub no_cons : (u : List ℕ) (h : ℕ) (w : List ℕ) → u ++ h ∷ w ≡ [] → ⊥
no_cons [] h w e = cc
no_cons (x ∷ u) h w e = cc

-- A beginning of a list with one more element is the whole list, or a beginning of the list without it.
pub snoc_split : (u : List ℕ) (h : ℕ) (w xs : List ℕ) (g : ℕ) → u ++ h ∷ w ≡ xs ++ g ∷ [] → ((u ≡ xs) × (h ≡ g)) ⊎ ((v : List ℕ) × (xs ≡ u ++ h ∷ v))
snoc_split [] h w [] g e = inl (refl, cc)
snoc_split [] h w (x ∷ xs) g e = inr (xs, let q : h ≡ x = cc in rw q refl)
snoc_split (y ∷ u) h w [] g e = absurd (no_cons u h w cc)
snoc_split (y ∷ u) h w (x ∷ xs) g e =
    let q : y ≡ x = cc in
    let t : u ++ h ∷ w ≡ xs ++ g ∷ [] = cc in
    elim (snoc_split u h w xs g t) [
      | inl same ↦ inl (let s : u ≡ xs = same.0 in rw (q, s) refl, same.1)
      | inr more ↦ inr (more.0, let s : xs ≡ u ++ h ∷ more.0 = more.1 in rw (q, s) refl)
    ]
