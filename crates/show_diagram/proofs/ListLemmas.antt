-- The lists of what a lieutenant received, built message by message.
use Rattle.std.proofs.Common.{ℕ, ◌+◌, ◌<◌, ◌≤◌, ◌≡◌, not, List, [], ◌∷◌, ◌++◌, length, get_or, suc, refl, sym, ap, ◌∙◌, append_assoc, arith}
use Rattle.std.proofs.lemmas.List.{length-take, take_all, take_more}
use Rattle.std.specs.Prelude.{take, filter}
use Rattle.show_diagram.specs.declared.stroke.Stroke.{Stroke}
use Rattle.show_diagram.specs.declared.told_order.Telling.{Telling}
use Rattle.show_diagram.specs.Lists.{is_in, is_lie, is_same, labels_of, list_behind, stroke_of, strokes_from, teller}
use Rattle.show_diagram.specs.Order.{arranged, firsts, is_by_one, lies_first, repeats}
use Rattle.show_diagram.proofs.OrderLemmas.{parted_whole}

-- Proves that the first lie of each sender, the other lies and the honest messages make up the sorted list.
pub parted_all : (list xs rows others honest two three : List Telling) (i : ℕ) → length xs ≤ i → xs ≡ filter is_lie list → rows ≡ firsts (is_by_one teller) [] (take i xs) → others ≡ repeats (is_by_one teller) [] (take i xs)
    → honest ≡ filter (λ x. not (is_lie x)) list → two ≡ rows ++ others → three ≡ two ++ honest → three ≡ lies_first is_lie teller list
parted_all list xs rows others honest two three i past all first other rest one last =
    let whole : take i xs ≡ filter is_lie list = take_all i xs past ∙ all in
    parted_whole is_lie teller list list rows others honest two three refl (first ∙ ap (firsts (is_by_one teller) []) whole) (other ∙ ap (repeats (is_by_one teller) []) whole) rest one last

-- ---- rows

pub strokes_push : (p : ℕ) (labels : Telling → ℕ) (row : ℕ) (xs : List Telling) (x : Telling) → strokes_from p labels row (xs ++ x ∷ []) ≡ strokes_from p labels row xs ++ stroke_of p x (labels x) (row + length xs) ∷ []
unfolding strokes_from
strokes_push p labels row [] x = ap (λ (k : ℕ). stroke_of p x (labels x) k ∷ []) (let e : row ≡ row + 0 = omega arith in e)
strokes_push p labels row (y ∷ ys) x =
    ap (λ zs. stroke_of p y (labels y) row ∷ zs)
    (strokes_push p labels (row + 1) ys x ∙ ap (λ (k : ℕ). strokes_from p labels (row + 1) ys ++ stroke_of p x (labels x) k ∷ []) (let e : row + 1 + length ys ≡ row + suc (length ys) = omega arith in e))

pub rows_more : (p : ℕ) (labels : Telling → ℕ) (xs : List Telling) (i : ℕ) (x d : Telling) (start old new : List Stroke) → i < length xs → x ≡ get_or xs i d
    → old ≡ start ++ strokes_from p labels 0 (take i xs) → new ≡ old ++ stroke_of p x (labels x) i ∷ [] → new ≡ start ++ strokes_from p labels 0 (take (i + 1) xs)
rows_more p labels xs i x d start old new within is so next =
    let front : take (i + 1) xs ≡ take i xs ++ x ∷ [] = take_more xs i d within ∙ ap (λ y. take i xs ++ y ∷ []) (sym is) in
    next
    ∙ (ap (λ ys. ys ++ stroke_of p x (labels x) i ∷ []) so
    ∙ (append_assoc start (strokes_from p labels 0 (take i xs)) (stroke_of p x (labels x) i ∷ [])
    ∙ ap (λ ys. start ++ ys)
    (ap (λ (k : ℕ). strokes_from p labels 0 (take i xs) ++ stroke_of p x (labels x) k ∷ []) (let e : i ≡ 0 + length (take i xs) = omega (arith, length-take i xs) in e)
    ∙ sym (ap (strokes_from p labels 0) front ∙ strokes_push p labels 0 (take i xs) x))))

pub rows_all : (p : ℕ) (labels : Telling → ℕ) (xs : List Telling) (i : ℕ) (start new : List Stroke) → length xs ≤ i → new ≡ start ++ strokes_from p labels 0 (take i xs) → new ≡ start ++ strokes_from p labels 0 xs
rows_all p labels xs i start new past so = so ∙ ap (λ ys. start ++ strokes_from p labels 0 ys) (take_all i xs past)

-- Proves that equal numbers of labels give equal strokes.
pub labels_alike : (p : ℕ) (one other : Telling → ℕ) (row : ℕ) (xs : List Telling) → ((q : Telling) → one q ≡ other q) → strokes_from p one row xs ≡ strokes_from p other row xs
unfolding strokes_from
labels_alike p one other row [] alike = refl
labels_alike p one other row (x ∷ xs) alike =
    ap (λ (k : ℕ). stroke_of p x k row ∷ strokes_from p one (row + 1) xs) (alike x) ∙ ap (λ ys. stroke_of p x (other x) row ∷ ys) (labels_alike p one other (row + 1) xs alike)

-- Proves that the strokes of a round's list come from its messages without repetitions and their counts.
pub list_is : (p round before : ℕ) (T things : List Telling) (counts : Telling → ℕ) (old new : List Stroke) → things ≡ firsts is_same [] T → round ≡ before + 1 → ((q : Telling) → counts q ≡ labels_of T q)
    → new ≡ old ++ strokes_from p counts 0 (arranged is_lie teller (filter (is_in round) things)) → new ≡ old ++ list_behind p T before
list_is p round before T things counts old new once at alike next =
    next
    ∙ ap (λ ys. old ++ ys)
    (ap (λ xs. strokes_from p counts 0 (arranged is_lie teller (filter (is_in round) xs))) once
    ∙ (ap (λ (k : ℕ). strokes_from p counts 0 (arranged is_lie teller (filter (is_in k) (firsts is_same [] T)))) at
    ∙ labels_alike p counts (labels_of T) 0 (arranged is_lie teller (filter (is_in (before + 1)) (firsts is_same [] T))) alike))
