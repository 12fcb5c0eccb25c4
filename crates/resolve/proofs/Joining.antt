-- Two halves of a list, and lists with one element more.
use Rattle.std.proofs.Common.{ℕ, zero, suc, ◌+◌, ◌<◌, ◌≡◌, List, [], ◌∷◌, ◌++◌, length, get_or, take, drop, refl, sym, ap, ◌∙◌}
use Rattle.std.specs.List.{AllZip}
use Rattle.std.proofs.lemmas.List.{take_more}
use Rattle.std.proofs.lemmas.Slice.Zip.{all_zipped_more}

zip_append : {A B : Type 0} (R : A → B → Type 0) (xs xs' : List A) (ys ys' : List B) → AllZip R xs ys → AllZip R xs' ys' → AllZip R (xs ++ xs') (ys ++ ys')
zip_append R [] xs' [] ys' h h' = h'
zip_append R [] xs' (y ∷ ys) ys' h h' = absurd h
zip_append R (x ∷ xs) xs' [] ys' h h' = absurd h
zip_append R (x ∷ xs) xs' (y ∷ ys) ys' h h' = (h.0, zip_append R xs xs' ys ys' h.1 h')

halved : {A : Type 0} (n : ℕ) (xs : List A) → take n xs ++ drop n xs ≡ xs
halved zero xs = refl
halved (suc n) [] = refl
halved (suc n) (x ∷ xs) = ap (λ ys. x ∷ ys) (halved n xs)

-- Proves that what holds for both halves holds for the whole list.
pub halves_join : {A B : Type 0} (R : A → B → Type 0) (n : ℕ) (xs front back : List A) (ys zs all : List B) → front ≡ take n xs → back ≡ drop n xs → AllZip R front ys → AllZip R back zs → all ≡ ys ++ zs → AllZip R xs all
halves_join R n xs front back ys zs all ef eb f b e =
    let whole : xs ≡ front ++ back = sym (halved n xs) ∙ (ap (λ us. us ++ drop n xs) (sym ef) ∙ ap (λ us. front ++ us) (sym eb)) in
    rw (e, whole) (zip_append R front back ys zs f b)

-- Proves that the claim holds after one more tree.
pub zipped_on : {A B : Type 0} (R : A → B → Type 0) (xs : List A) (i : ℕ) (x : A) (ys longer : List B) (y : B) → i < length xs → x ≡ get_or xs i x → AllZip R (take i xs) ys → R x y → longer ≡ ys ++ y ∷ [] → AllZip R (take (i + 1) xs) longer
zipped_on R xs i x ys longer y l ex h r e =
    let more : take (i + 1) xs ≡ take i xs ++ x ∷ [] = take_more xs i x l ∙ ap (λ z. take i xs ++ z ∷ []) (sym ex) in
    rw (more, e) (all_zipped_more R (take i xs) ys x y h r)
