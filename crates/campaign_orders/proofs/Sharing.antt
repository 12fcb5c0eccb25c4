-- Lists that are copied, shared or compared element by element, as contracts see them.
use Rattle.std.proofs.Common.{◌≡◌, ℕ, ◌+◌, ◌<◌, ◌≤◌, List, [], ◌∷◌, ◌++◌, length, map, take, get_or, set, zero, suc, refl, sym, ap, ◌∙◌, Some, None, arith}
use Rattle.std.specs.Prelude.{slice_get}
use Rattle.std.proofs.lemmas.List.{map-append, map-set, set_past, take_all, take_more}

-- One more element is copied.
pub copied_more : {A B : Type 0} → (f : A → B) → (copies new : List A) (x : A) (ys : List B) (i : ℕ) (y : B) → i < length ys → y ≡ get_or ys i y → new ≡ copies ++ x ∷ [] → f x ≡ y → map f copies ≡ take i ys → map f new ≡ take (i + 1) ys
copied_more {A} {B} f copies new x ys i y lt at is same h =
    ap (map f) is ∙ (map-append f copies (x ∷ []) ∙ ((λ j. h j ++ same j ∷ []) ∙ (ap (λ (z : B). take i ys ++ z ∷ []) at ∙ sym (take_more ys i y lt))))

more_of : {A B : Type 0} → (f : A → B) → (ys : List A) (i : ℕ) (y : A) → i < length ys → y ≡ get_or ys i y → map f (take (i + 1) ys) ≡ map f (take i ys) ++ f y ∷ []
more_of {A} {B} f ys i y lt at = ap (map f) (take_more ys i y lt) ∙ (map-append f (take i ys) (get_or ys i y ∷ []) ∙ ap (λ (z : A). map f (take i ys) ++ f z ∷ []) (sym at))

-- One more element is shared.
pub shared_more : {A B : Type 0} → (f : A → B) → (copies new : List A) (x : A) (ys : List A) (i : ℕ) (y : A) → i < length ys → y ≡ get_or ys i y → new ≡ copies ++ x ∷ [] → f x ≡ f y → map f copies ≡ map f (take i ys) → map f new ≡ map f (take (i + 1) ys)
shared_more {A} {B} f copies new x ys i y lt at is same h =
    ap (map f) is ∙ (map-append f copies (x ∷ []) ∙ ((λ j. h j ++ same j ∷ []) ∙ sym (more_of f ys i y lt at)))

pub shared_all : {A B : Type 0} → (f : A → B) → (copies ys : List A) (i : ℕ) → length ys ≤ i → map f copies ≡ map f (take i ys) → map f copies ≡ map f ys
shared_all {A} {B} f copies ys i le h = h ∙ ap (map f) (take_all i ys le)

-- One more element is the same.
pub same_more : {A B : Type 0} → (f : A → B) → (xs ys : List A) (i : ℕ) (x y : A) → i < length xs → i < length ys → x ≡ get_or xs i x → y ≡ get_or ys i y → f x ≡ f y → map f (take i xs) ≡ map f (take i ys) → map f (take (i + 1) xs) ≡ map f (take (i + 1) ys)
same_more {A} {B} f xs ys i x y lx ly ax ay same h = more_of f xs i x lx ax ∙ ((λ j. h j ++ same j ∷ []) ∙ sym (more_of f ys i y ly ay))

pub same_all : {A B : Type 0} → (f : A → B) → (xs ys : List A) (i : ℕ) → length xs ≤ i → length ys ≤ i → map f (take i xs) ≡ map f (take i ys) → map f xs ≡ map f ys
same_all {A} {B} f xs ys i lx ly h = sym (ap (map f) (take_all i xs lx)) ∙ (h ∙ ap (map f) (take_all i ys ly))

-- One element is replaced.
pub replaced_here : {A B : Type 0} → (f : A → B) → (copies new ys : List A) (i : ℕ) (x : A) (y : B) → new ≡ set copies i x → f x ≡ y → map f copies ≡ map f ys → map f new ≡ set (map f ys) i y
replaced_here {A} {B} f copies new ys i x y is same h = ap (map f) is ∙ (map-set f copies i x ∙ (λ j. set (h j) i (same j)))

-- The element at an index.
pub get_map : {A B : Type 0} → (f : A → B) → (xs : List A) (i : ℕ) (x : A) → slice_get xs i ≡ Some x → slice_get (map f xs) i ≡ Some (f x)
get_map {A} {B} f [] i x e = absurd (let g : None ≡ Some x = e in cc)
get_map {A} {B} f (y ∷ ys) zero x e = ap (λ (z : A). Some (f z)) (let g : Some y ≡ Some x = e in let h : y ≡ x = cc in h)
get_map {A} {B} f (y ∷ ys) (suc i) x e = get_map f ys i x e

pub get_none : {A B : Type 0} → (f : A → B) → (xs : List A) (i : ℕ) → slice_get xs i ≡ None → slice_get (map f xs) i ≡ None
get_none {A} {B} f [] i e = refl
get_none {A} {B} f (y ∷ ys) zero e = absurd (let g : Some y ≡ None = e in cc)
get_none {A} {B} f (y ∷ ys) (suc i) e = get_none f ys i e

length_map : {A B : Type 0} → (f : A → B) → (xs : List A) → length (map f xs) ≡ length xs
length_map {A} {B} f [] = refl
length_map {A} {B} f (x ∷ xs) = ap suc (length_map f xs)

pub replaced_nowhere : {A B : Type 0} → (f : A → B) → (copies ys : List A) (i : ℕ) (y : B) → length copies ≤ i → map f copies ≡ map f ys → map f copies ≡ set (map f ys) i y
replaced_nowhere {A} {B} f copies ys i y le h =
    h ∙ sym (set_past (map f ys) i y (let a = length_map f copies in let b = ap length h in omega arith))
