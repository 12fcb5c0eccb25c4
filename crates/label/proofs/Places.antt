-- Which label has which index in the list of labels.
use Rattle.std.proofs.Common.{ℕ, zero, suc, ◌+◌, ◌-◌, ◌*◌, ◌<◌, ◌≡◌, ◌≢◌, true, false, not, ◌||◌, List, [], ◌∷◌, ◌++◌, map, length, refl, sym, ap, ◌∙◌, arith, inl, inr, Some, None, Option, length-append, subst}
use Rattle.std.specs.Prelude.{◌==◌, flat_map, slice_get, option_map}
use Rattle.std.specs.List.{AllByRecursion}
use Rattle.std.proofs.lemmas.List.{length-map, same_from_push}
use Rattle.std.proofs.lemmas.Option.{slice_get_within, slice_get-map}
use Rattle.std.proofs.lemmas.Bool.{cond-true, and_from, or_parts, or_from, or_left, or_right, eq-eqb, ne_eqb, not_from_false, eqb-false, cases_lt}
use Rattle.label.specs.Labels.{on, is_distinct, others, lacks, labels}
use Rattle.label.specs.Oral.{IsLabel}
use Rattle.label.specs.Laws.{ChildrenStand}
use Rattle.label.proofs.Counting.{on-push, others-on}
use Rattle.label.proofs.Pushes.{IsLabel-push}
use Rattle.label.proofs.Ranks.{children, labels-next, pieces-get, pieces-length, others-place, others-count, get_left, get_right}

-- States that w is a label of k + 1 generals that p is not on.
pub record IsOneOf (n c p k : ℕ) (w : List ℕ) : Type 0 where
  pub label : IsLabel n c w
  pub without : on w p ≡ false
  pub long : length w ≡ suc k

pub all-append : {A : Type 0} (P : A → Type 0) (xs ys : List A) → AllByRecursion P xs → AllByRecursion P ys → AllByRecursion P (xs ++ ys)
all-append P [] ys a b = b
all-append P (x ∷ xs) ys a b = (a.0, all-append P xs ys a.1 b)

all-flat_map : {A B : Type 0} (Q : A → Type 0) (P : B → Type 0) (f : A → List B) → ((x : A) → Q x → AllByRecursion P (f x)) → (xs : List A) → AllByRecursion Q xs → AllByRecursion P (flat_map f xs)
all-flat_map Q P f h [] a = tt
all-flat_map Q P f h (x ∷ xs) a = all-append P (f x) (flat_map f xs) (h x a.0) (all-flat_map Q P f h xs a.1)

all-map_on : {B : Type 0} (P : B → Type 0) (f : ℕ → B) (xs : List ℕ) → ((j : ℕ) → on xs j ≡ true → P (f j)) → AllByRecursion P (map f xs)
all-map_on P f [] h = tt
all-map_on P f (x ∷ xs) h = (h x (or_left (x == x) (on xs x) (eq-eqb x x refl)), all-map_on P f xs (λ j i. h j (or_right (x == j) (on xs j) i)))

-- Proves that what holds for all elements holds for each of them.
pub all-at : {A : Type 0} (P : A → Type 0) (xs : List A) (i : ℕ) (x : A) → AllByRecursion P xs → slice_get xs i ≡ Some x → P x
all-at P [] i x a e = cc
all-at P (y ∷ ys) zero x a e = let h : y ≡ x = cc in subst P h a.0
all-at P (y ∷ ys) (suc i) x a e = all-at P ys i x a.1 e

child : (n c p k : ℕ) (w : List ℕ) (j : ℕ) → IsOneOf n c p k w → j < n → on (p ∷ w) j ≡ false → IsOneOf n c p (suc k) (w ++ j ∷ [])
child n c p k w j a l o =
    let parts = or_parts (p == j) (on w j) o in
    record {
      label = IsLabel-push a.label j l parts.1;
      without = on-push w j p ∙ or_from (on w p) (j == p) a.without (eqb_flip p j parts.0);
      long = let h = a.long in omega (arith, length-append w (j ∷ []));
    }
  where
    eqb_flip : (x y : ℕ) → (x == y) ≡ false → (y == x) ≡ false
    eqb_flip x y e = ne_eqb y x (λ h. eqb-false x y e (sym h))

-- Proves that the label of only the commander is the only one of length 1.
pub first_label : (n c p : ℕ) → p ≢ c → labels n c p 1 ≡ (c ∷ []) ∷ []
unfolding labels
first_label n c p ne = cond-true (lacks p (c ∷ [])) ((c ∷ []) ∷ []) [] (not_from_false (c == p || false) (or_from (c == p) false (ne_eqb c p (λ e. ne (sym e))) refl))

-- Proves that the list contains only labels.
pub labels-are : (n c p k : ℕ) → c < n → p ≢ c → AllByRecursion (IsOneOf n c p k) (labels n c p (suc k))
labels-are n c p zero inside ne =
    rw (first_label n c p ne) (record { label = record { first = refl; below = (inside, tt); distinct = refl }; without = or_from (c == p) false (ne_eqb c p (λ e. ne (sym e))) refl; long = refl }, tt)
labels-are n c p (suc k) inside ne =
    rw (labels-next n c p k) (all-flat_map (IsOneOf n c p k) (IsOneOf n c p (suc k)) (children n p)
    (λ w a. all-map_on (IsOneOf n c p (suc k)) (λ j. w ++ j ∷ []) (others n (p ∷ w)) (λ j i. let at = others-on n (p ∷ w) j i in child n c p k w j a at.0 at.1))
    (labels n c p (suc k)) (labels-are n c p k inside ne))

-- Proves how many children each label has.
pub few_children : (n c p k : ℕ) (w : List ℕ) → p < n → IsOneOf n c p k w → length (children n p w) ≡ n - 2 - k
few_children n c p k w within a =
    let count : length (others n (p ∷ w)) + length (p ∷ w) ≡ n = others-count n (p ∷ w) (and_from (not (on w p)) (is_distinct w) (not_from_false (on w p) a.without) a.label.distinct) (within, a.label.below) in
    let long : length w ≡ suc k = a.long in
    let n_is : length (children n p w) ≡ length (others n (p ∷ w)) = length-map (others n (p ∷ w)) (λ j. w ++ j ∷ []) in
    omega arith

same_size : (n c p k : ℕ) → c < n → p < n → p ≢ c → (i : ℕ) (w : List ℕ) → slice_get (labels n c p (suc k)) i ≡ Some w → length (children n p w) ≡ n - 2 - k
same_size n c p k inside within ne i w e = few_children n c p k w within (all-at (IsOneOf n c p k) (labels n c p (suc k)) i w (labels-are n c p k inside ne) e)

-- Proves that children are next to each other.
pub children_stand : ChildrenStand
children_stand n c p k r t j w inside within ne e o =
    let size : length (children n p w) ≡ n - 2 - k = same_size n c p k inside within ne r w e in
    let l : t < length (others n (p ∷ w)) = slice_get_within (others n (p ∷ w)) t j o in
    let n_is : length (children n p w) ≡ length (others n (p ∷ w)) = length-map (others n (p ∷ w)) (λ i. w ++ i ∷ []) in
    ap (λ xs. slice_get xs (r * (n - 2 - k) + t)) (labels-next n c p k)
    ∙ (pieces-get (children n p) (n - 2 - k) (labels n c p (suc k)) (same_size n c p k inside within ne) r t w e (omega arith)
    ∙ (slice_get-map (λ i. w ++ i ∷ []) (others n (p ∷ w)) t ∙ ap (option_map (λ i. w ++ i ∷ [])) o))

-- Proves that the number of labels is the product.
pub count_is_product : (n c p k : ℕ) → c < n → p < n → p ≢ c → length (labels n c p (suc (suc k))) ≡ length (labels n c p (suc k)) * (n - 2 - k)
count_is_product n c p k inside within ne = ap length (labels-next n c p k) ∙ pieces-length (children n p) (n - 2 - k) (labels n c p (suc k)) (same_size n c p k inside within ne)

-- From which piece an element of a list of pieces comes, and from which index in it.
pub record Piece {A B : Type 0} (f : A → List B) (s : ℕ) (xs : List A) (i : ℕ) (y : B) : Type 0 where
  pub q : ℕ
  pub t : ℕ
  pub x : A
  pub place : i ≡ q * s + t
  pub small : t < s
  pub parent : slice_get xs q ≡ Some x
  pub here : slice_get (f x) t ≡ Some y

-- Proves from which piece an element comes.
pub piece-of : {A B : Type 0} (f : A → List B) (s : ℕ) (xs : List A) → ((k : ℕ) (x : A) → slice_get xs k ≡ Some x → length (f x) ≡ s) → (i : ℕ) (y : B) → slice_get (flat_map f xs) i ≡ Some y → Piece f s xs i y
piece-of f s [] same i y e = cc
piece-of f s (x ∷ xs) same i y e =
    let long : length (f x) ≡ s = same 0 x refl in
    elim (cases_lt i s) [
      | inl l ↦ record { q = 0; t = i; x = x; place = omega arith; small = l; parent = refl; here = sym (get_left (f x) (flat_map f xs) i (omega arith)) ∙ e }
      | inr l ↦
          let rest : Piece f s xs (i - s) y = piece-of f s xs (λ k v h. same (suc k) v h) (i - s) y (sym (get_right (f x) (flat_map f xs) i (i - s) (omega arith)) ∙ e) in
          record { q = suc rest.q; t = rest.t; x = rest.x; place = (let h = rest.place in omega arith); small = rest.small; parent = rest.parent; here = rest.here }
    ]

mapped : (f : ℕ → List ℕ) (o : Option ℕ) (y : List ℕ) → option_map f o ≡ Some y → (j : ℕ) × (o ≡ Some j) × (f j ≡ y)
mapped f None y e = cc
mapped f (Some j) y e = (j, refl, cc)

one_only : (x : List ℕ) (i : ℕ) (w : List ℕ) → slice_get (x ∷ []) i ≡ Some w → i ≡ 0
one_only x zero w e = refl
one_only x (suc i) w e = cc

-- A label of k + 2 generals and the label of which it is a child.
pub record Born (n c p k i : ℕ) (w : List ℕ) : Type 0 where
  pub q : ℕ
  pub parent : List ℕ
  pub j : ℕ
  pub stands : slice_get (labels n c p (suc k)) q ≡ Some parent
  pub place : i ≡ q * (n - 2 - k) + length (others j (p ∷ parent))
  pub small : length (others j (p ∷ parent)) < n - 2 - k
  pub is : parent ++ j ∷ [] ≡ w

-- Proves of which label a longer label is a child.
pub born : (n c p k : ℕ) → c < n → p < n → p ≢ c → (i : ℕ) (w : List ℕ) → slice_get (labels n c p (suc (suc k))) i ≡ Some w → Born n c p k i w
born n c p k inside within ne i w e =
    let cut : Piece (children n p) (n - 2 - k) (labels n c p (suc k)) i w = piece-of (children n p) (n - 2 - k) (labels n c p (suc k)) (same_size n c p k inside within ne) i w (sym (ap (λ xs. slice_get xs i) (labels-next n c p k)) ∙ e) in
    let last = mapped (λ j. cut.x ++ j ∷ []) (slice_get (others n (p ∷ cut.x)) cut.t) w (sym (slice_get-map (λ j. cut.x ++ j ∷ []) (others n (p ∷ cut.x)) cut.t) ∙ cut.here) in
    record { q = cut.q; parent = cut.x; j = last.0; stands = cut.parent; place = cut.place ∙ ap (λ t. cut.q * (n - 2 - k) + t) {y = length (others last.0 (p ∷ cut.x))} (others-place n (p ∷ cut.x) cut.t last.0 last.1); small = (let h = others-place n (p ∷ cut.x) cut.t last.0 last.1 in let l = cut.small in omega arith); is = last.2 }

-- Proves that no label occurs twice.
pub places_differ : (n c p k : ℕ) → c < n → p < n → p ≢ c → (i i' : ℕ) (w : List ℕ) → slice_get (labels n c p (suc k)) i ≡ Some w → slice_get (labels n c p (suc k)) i' ≡ Some w → i ≡ i'
places_differ n c p zero inside within ne i i' w e e' =
    one_only (c ∷ []) i w (sym (ap (λ xs. slice_get xs i) (first_label n c p ne)) ∙ e) ∙ sym (one_only (c ∷ []) i' w (sym (ap (λ xs. slice_get xs i') (first_label n c p ne)) ∙ e'))
places_differ n c p (suc k) inside within ne i i' w e e' =
    let a : Born n c p k i w = born n c p k inside within ne i w e in
    let b : Born n c p k i' w = born n c p k inside within ne i' w e' in
    let same = same_from_push a.parent b.parent a.j b.j (a.is ∙ sym b.is) in
    let qs : a.q ≡ b.q = places_differ n c p k inside within ne a.q b.q a.parent a.stands (b.stands ∙ ap Some (sym same.0)) in
    a.place ∙ (ap (λ q. q * (n - 2 - k) + length (others a.j (p ∷ a.parent))) qs
    ∙ (ap (λ j. b.q * (n - 2 - k) + length (others j (p ∷ a.parent))) same.1
    ∙ (ap (λ v. b.q * (n - 2 - k) + length (others b.j (p ∷ v))) same.0 ∙ sym b.place)))
