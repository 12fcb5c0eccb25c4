-- Lists by index.
use Rattle.std.proofs.Common.{◌≡◌, ℕ, zero, suc, ◌+◌, ◌<◌, ◌≤◌, List, [], ◌∷◌, map, length, get_or, refl, ap, ◌∙◌, arith, inl, inr, None, Some}
use Rattle.std.specs.Prelude.{slice_get}
use Rattle.std.specs.List.{range_with_len}
use Rattle.std.proofs.lemmas.List.{length-map}
use Rattle.std.proofs.lemmas.List.FromFn.{length-range_with_len}
use Rattle.label.specs.Labels.{generals}
use Rattle.signed.specs.Chains.{Chain, Among}

get_range : {X : Type 0} (f : ℕ → X) (a n i j : ℕ) → a + i ≡ j → i < n → slice_get (map f (range_with_len a n)) i ≡ Some (f j)
get_range f a zero i j e l = absurd (omega arith)
get_range f a (suc n) zero j e l = ap (λ x. Some (f x)) (let q : a ≡ j = omega arith in q)
get_range f a (suc n) (suc i) j e l = get_range f (a + 1) n i j (omega arith) (omega arith)

-- The element for a general in a list of all generals.
pub row_at : {X : Type 0} (f : ℕ → X) (n g : ℕ) → g < n → slice_get (map f (generals n)) g ≡ Some (f g)
row_at f n g l = get_range f 0 n g g (omega arith) l

pub row_length : {X : Type 0} (f : ℕ → X) (n : ℕ) → length (map f (generals n)) ≡ n
row_length f n = length-map (generals n) f ∙ length-range_with_len 0 n

-- Past its end a list has the default.
pub get_or_past : {X : Type 0} (xs : List X) (i : ℕ) (d : X) → length xs ≤ i → get_or xs i d ≡ d
get_or_past [] i d l = refl
get_or_past (x ∷ xs) zero d l = absurd (omega arith)
get_or_past (x ∷ xs) (suc i) d l = get_or_past xs i d (omega arith)

pub row_past : {X : Type 0} (f : ℕ → X) (n g : ℕ) (d : X) → n ≤ g → get_or (map f (generals n)) g d ≡ d
row_past f n g d l = get_or_past (map f (generals n)) g d (let e : length (map f (generals n)) ≡ n = row_length f n in omega arith)

-- The element at an index is read.
pub get_or_at : {X : Type 0} (xs : List X) (i : ℕ) (x d : X) → slice_get xs i ≡ Some x → get_or xs i d ≡ x
get_or_at [] i x d h = absurd (let f : None ≡ Some x = h in cc)
get_or_at (y ∷ xs) zero x d h = (let f : Some y ≡ Some x = h in cc)
get_or_at (y ∷ xs) (suc i) x d h = get_or_at xs i x d h

-- The element at an index is in the list.
pub get_among : (xs : List Chain) (i : ℕ) (ch : Chain) → slice_get xs i ≡ Some ch → Among ch xs
get_among [] i ch h = absurd (let f : None ≡ Some ch = h in cc)
get_among (x ∷ xs) zero ch h = inl (let q : Some x ≡ Some ch = h in cc)
get_among (x ∷ xs) (suc i) ch h = inr (get_among xs i ch h)
