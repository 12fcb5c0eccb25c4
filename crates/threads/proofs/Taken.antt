-- Letters are removed from a list, one at a time.
use Rattle.std.proofs.Common.{◌≡◌, ◌≢◌, ℕ, zero, suc, ◌+◌, ◌<◌, ◌≤◌, Bool, true, false, cond, List, [], ◌∷◌, ◌++◌, length, take, refl, sym, ap, subst, ◌∙◌, ⊎_elim, Option, None, Some, arith, length-append}
use Rattle.std.specs.Prelude.{◌==◌, slice_get, option_to_list}
use Rattle.std.specs.List.{find, remove}
use Rattle.std.proofs.Math.Numerals.{add-one}
use Rattle.std.proofs.lemmas.Bool.Decides.{eqb_tells}
use Rattle.round.specs.Letters.{Letter}
use Rattle.world.specs.World.{each}
use Rattle.world.specs.Accounted.{letter_by, letters_by}
use Rattle.threads.specs.Taking.{without, left_by, left_by_all, left_rounds}
use Rattle.world.proofs.Holding.{each-same}
use Rattle.world.proofs.Arranged.{by_false, is_by}

-- An element that passes, with none before it, is the first that passes.
found_by : (p : Letter → Bool) (y x : Letter) (ys : List Letter) (i : ℕ) (b : Bool) → (find p (take i ys) ≡ None → (find p ys ≡ slice_get ys i) × (without p ys ≡ remove ys i))
    → cond b (Some y) (find p (take i ys)) ≡ None → (cond b (Some y) (find p ys) ≡ slice_get ys i) × (cond b ys (y ∷ without p ys) ≡ remove (y ∷ ys) (suc i))
found_by p y x ys i true again h = cc
found_by p y x ys i false again h = (let r = again h in (r.0, ap (λ zs. y ∷ zs) r.1))

pub found_at : (p : Letter → Bool) (xs : List Letter) (i : ℕ) (x : Letter) → find p (take i xs) ≡ None → slice_get xs i ≡ Some x → p x ≡ true → (find p xs ≡ slice_get xs i) × (without p xs ≡ remove xs i)
found_at p [] i x none at does = cc
found_at p (y ∷ ys) zero x none at does =
    let same : y ≡ x = cc in
    let is : p y ≡ true = ap p same ∙ does in (rw is refl, rw is refl)
found_at p (y ∷ ys) (suc i) x none at does = found_by p y x ys i (p y) (λ h. found_at p ys i x h at does) none

none_by : (p : Letter → Bool) (y : Letter) (ys : List Letter) (i : ℕ) (b : Bool) → (find p (take i ys) ≡ None → find p (take (suc i) ys) ≡ None) → cond b (Some y) (find p (take i ys)) ≡ None → cond b (Some y) (find p (take (suc i) ys)) ≡ None
none_by p y ys i true again e = cc
none_by p y ys i false again e = again e

none_next : (p : Letter → Bool) (x : Letter) → p x ≡ false → (xs : List Letter) (i : ℕ) → find p (take i xs) ≡ None → slice_get xs i ≡ Some x → find p (take (suc i) xs) ≡ None
none_next p x isnt [] i h at = cc
none_next p x isnt (y ∷ ys) zero h at =
    let same : y ≡ x = cc in
    let is : p y ≡ false = ap p same ∙ isnt in rw is refl
none_next p x isnt (y ∷ ys) (suc i) h at = none_by p y ys i (p y) (λ e. none_next p x isnt ys i e at) h

pub none_more : (p : Letter → Bool) (xs : List Letter) (i : ℕ) (x : Letter) → find p (take i xs) ≡ None → slice_get xs i ≡ Some x → p x ≡ false → find p (take (i + 1) xs) ≡ None
none_more p xs i x none at isnt = (let A : ℕ → Type 0 = λ n. find p (take n xs) ≡ None in subst A (sym (add-one i)) (none_next p x isnt xs i none at))

-- If the first element that passes one test is removed, another test that excludes the first still finds the same
-- element.
found_left : (p q : Letter → Bool) → ((x : Letter) → p x ≡ true → q x ≡ false) → (xs : List Letter) → find q (without p xs) ≡ find q xs
found_left p q apart [] = refl
found_left p q apart (x ∷ xs) = by (p x) refl (found_left p q apart xs)
  where
    by : (b : Bool) → p x ≡ b → find q (without p xs) ≡ find q xs → find q (cond b xs (x ∷ without p xs)) ≡ cond (q x) (Some x) (find q xs)
    by true e again = rw (apart x e) refl
    by false e again = ap (λ r. cond (q x) (Some x) r) again

left_other : (g round h r : ℕ) → (h ≡ g → r ≡ round → ⊥) → (xs : List Letter) → letter_by h r (left_by g round xs) ≡ letter_by h r xs
left_other g round h r apart xs = found_left (is_by g round) (is_by h r) (λ x does. by_false h r x (λ a b. fits x does (λ c d. apart (sym a ∙ c) (sym b ∙ d)))) xs
  where
    fits : (x : Letter) → is_by g round x ≡ true → (x.general ≡ g → x.round ≡ round → ⊥) → ⊥
    fits x does not = (let e = sym does ∙ by_false g round x not in cc)

row_others : (g round h r : ℕ) → ((k : ℕ) → k < g → h ≡ k → r ≡ round → ⊥) → (xs : List Letter) → letter_by h r (left_by_all g round xs) ≡ letter_by h r xs
row_others zero round h r apart xs = refl
row_others (suc g) round h r apart xs = left_other g round h r (apart g (omega arith)) (left_by_all g round xs) ∙ row_others g round h r (λ k lt. apart k (omega arith)) xs

pub row_same : (g round : ℕ) (xs : List Letter) → letter_by g round (left_by_all g round xs) ≡ letter_by g round xs
row_same g round xs = row_others g round g round (λ k lt e f. omega arith) xs

rounds_others : (n r h t : ℕ) → r ≤ t → (xs : List Letter) → letter_by h (suc t) (left_rounds n r xs) ≡ letter_by h (suc t) xs
rounds_others n zero h t le xs = refl
rounds_others n (suc r) h t le xs = row_others n (suc r) h (suc t) (λ k lt e f. omega arith) (left_rounds n r xs) ∙ rounds_others n r h t (omega arith) xs

pub rounds_same : (n r : ℕ) (xs : List Letter) → letters_by n (suc r) (left_rounds n r xs) ≡ letters_by n (suc r) xs
rounds_same n r xs = each-same n (λ g. option_to_list (letter_by g (suc r) (left_rounds n r xs))) (λ g. option_to_list (letter_by g (suc r) xs)) (λ g. ap option_to_list (rounds_others n r g r (omega arith) xs))

alone_few : (o : Option Letter) → length (option_to_list o) ≤ 1
alone_few None = omega arith
alone_few (Some x) = omega arith

row_few : (n round : ℕ) (xs : List Letter) → length (letters_by n round xs) ≤ n
row_few zero round xs = omega arith
row_few (suc n) round xs = (let l = row_few n round xs in let m = alone_few (letter_by n round xs) in omega (arith, length-append (letters_by n round xs) (option_to_list (letter_by n round xs))))

-- If a general has no letter of the round, the row of the round's letters is too short.
pub row_short : (n g round : ℕ) (xs : List Letter) → g < n → letter_by g round xs ≡ None → length (letters_by n round xs) < n
row_short zero g round xs lt none = omega arith
row_short (suc n) g round xs lt none = ⊎_elim
    (λ (x : (g == n ≡ true) × (g ≡ n)).
    let e : length (option_to_list (letter_by n round xs)) ≡ 0 = ap (λ o. length (option_to_list o)) ((let A : ℕ → Type 0 = λ k. letter_by k round xs ≡ None in subst A x.1 none)) in
    let l = row_few n round xs in omega (arith, length-append (letters_by n round xs) (option_to_list (letter_by n round xs))))
    (λ (x : (g == n ≡ false) × (g ≢ n)).
    let l = row_short n g round xs (let ne = x.1 in omega arith) none in
    let m = alone_few (letter_by n round xs) in omega (arith, length-append (letters_by n round xs) (option_to_list (letter_by n round xs))))
    (eqb_tells g n)

pub record Row (n round : ℕ) (xs left row : List Letter) : Type 0 where
  pub left_is : left ≡ left_by_all n round xs
  pub row_is : row ≡ letters_by n round xs

-- One more letter of the round is removed.
pub row_more : (g round : ℕ) (xs left row left' row' : List Letter) (l : Letter) → left ≡ left_by_all g round xs → row ≡ letters_by g round xs → Some l ≡ letter_by g round left → left' ≡ left_by g round left → row' ≡ row ++ l ∷ []
    → Row (g + 1) round xs left' row'
row_more g round xs left row left' row' l a b found c d =
    let A : ℕ → Type 0 = λ n. Row n round xs left' row' in
    let one : Some l ≡ letter_by g round xs = found ∙ (ap (letter_by g round) a ∙ row_same g round xs) in
    subst A (sym (add-one g)) (record { left_is = c ∙ ap (left_by g round) a; row_is = d ∙ (λ i. b i ++ option_to_list (one i)) })

pub record Rows (n r : ℕ) (xs left : List Letter) (rows : List (List Letter)) : Type 0 where
  pub left_is : left ≡ left_rounds n r xs
  pub rows_are : rows ≡ each r (λ k. letters_by n (suc k) xs ∷ [])

-- The letters of one more round are removed.
pub rows_more : (n r : ℕ) (xs left left' row : List Letter) (rows rows' : List (List Letter)) → left ≡ left_rounds n r xs → rows ≡ each r (λ k. letters_by n (suc k) xs ∷ []) → row ≡ letters_by n (r + 1) left → left' ≡ left_by_all n (r + 1) left → rows' ≡ rows ++ row ∷ []
    → Rows n (r + 1) xs left' rows'
rows_more n r xs left left' row rows rows' a b c d e =
    let A : ℕ → Type 0 = λ m. Rows n m xs left' rows' in
    let c' : row ≡ letters_by n (suc r) xs = c ∙ (ap (λ m. letters_by n m left) (add-one r) ∙ (ap (letters_by n (suc r)) a ∙ rounds_same n r xs)) in
    subst A (sym (add-one r)) (record { left_is = d ∙ (ap (λ m. left_by_all n m left) (add-one r) ∙ ap (left_by_all n (suc r)) a); rows_are = e ∙ (λ i. b i ++ c' i ∷ []) })

-- The letters of a round that are removed are as many as those of the round in the whole list.
pub row_long : (n r : ℕ) (xs left : List Letter) → left ≡ left_rounds n r xs → length (letters_by n (r + 1) left) ≡ length (letters_by n (suc r) xs)
row_long n r xs left a = ap length (ap (λ m. letters_by n m left) (add-one r) ∙ (ap (letters_by n (suc r)) a ∙ rounds_same n r xs))
