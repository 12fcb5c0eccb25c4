-- From the decisions about the children of labels to the decisions about the labels.
use Rattle.std.proofs.Common.{ℕ, zero, suc, ◌+◌, ◌-◌, ◌*◌, ◌<◌, ◌≤◌, ◌≡◌, false, List, [], ◌∷◌, ◌++◌, map, length, get_or, take, drop, refl, sym, ap, ◌∙◌, arith, Some}
use Rattle.std.specs.Prelude.{insert, slice_get, slice_range}
use Rattle.std.specs.List.{range_with_len}
use Rattle.rayon.specs.Numbers.{nat_range}
use Rattle.std.proofs.lemmas.List.{drop_more}
use Rattle.std.proofs.lemmas.List.FromFn.{length-map-range_with_len}
use Rattle.std.proofs.lemmas.Option.{slice_get_within, get_or_from_slice_get, slice_get-map}
use Rattle.label.specs.Labels.{on, others, labels}
use Rattle.label.specs.Oral.{Messages, om, taken, order_of}
use Rattle.label.proofs.Parts.{by_place, wide}
use Rattle.label.proofs.Own.{om-level}
use Rattle.label.proofs.Places.{first_label, children_stand}
use Rattle.tree.specs.LieutenantTree.{LieutenantTree, IsCampaign, IsFilled, level_told}
use Rattle.resolve.specs.Decided.{order_at_rank}
use Rattle.resolve.specs.Upward.{label_at, lower_off_at, children_of, upward, decisions_at}
use Rattle.resolve.proofs.Decisions.{order-told}
use Rattle.resolve.proofs.Places.{lacking}

-- Proves the decision for one rank.
pub upward-is : (f : List ℕ → ℕ) (t : LieutenantTree) (below : List ℕ) (size rank width lower_off own : ℕ) (children orders : List ℕ) → width ≡ t.generals - 1 - size → children ≡ slice_range below (rank * width) (rank * width + width) → lower_off ≡ lower_off_at t size rank → own ≡ order_at_rank t size rank → orders ≡ insert children lower_off own → f orders ≡ upward f t below size rank
unfolding upward
upward-is f t below size rank width lower_off own children orders ew ec ep eo e = rw (e, ec, ep, eo, ew) refl

-- Proves that a part of a list is known from its elements.
part_is : {A : Type 0} (xs : List ℕ) (G : A → ℕ) (js : List A) (a : ℕ) → ((i : ℕ) (j : A) → slice_get js i ≡ Some j → slice_get xs (a + i) ≡ Some (G j)) → take (length js) (drop a xs) ≡ map G js
part_is xs G [] a same = refl
part_is xs G (j ∷ js) a same =
    let z : a + 0 ≡ a = omega arith in
    let here : slice_get xs a ≡ Some (G j) = rw z at (same 0 j refl) in
    let more : drop a xs ≡ get_or xs a 0 ∷ drop (a + 1) xs = drop_more xs a 0 (slice_get_within xs a (G j) here) in
    let read : get_or xs a 0 ≡ G j = get_or_from_slice_get xs a (G j) 0 here in
    let rest : take (length js) (drop (a + 1) xs) ≡ map G js = part_is xs G js (a + 1) (λ i x e. let y : (a + 1) + i ≡ a + suc i = omega arith in rw y (same (suc i) x e)) in
    rw (more, read, rest) refl

-- Proves that the part for a rank contains the decisions about the label's children.
pub upward-om : (f : List ℕ → ℕ) (t : LieutenantTree) (M : Messages) (k size rank : ℕ) (below : List ℕ) (w : List ℕ) → IsCampaign t → IsFilled t M → 0 < size → size + suc k ≤ t.bound + 1 → slice_get (labels t.generals t.commander t.general size) rank ≡ Some w → below ≡ decisions_at f t M k (size + 1) → upward f t below size rank ≡ om f t.generals M (suc k) w t.general
unfolding upward lower_off_at decisions_at
upward-om f t M k zero rank below w is full some short at e = absurd (omega arith)
upward-om f t M k (suc s) rank below w is full some short at e =
    let width : t.generals - 2 - s ≡ t.generals - 1 - suc s = omega arith in
    let next : suc s + 1 ≡ suc (suc s) = omega arith in
    let without : on w t.general ≡ false = lacking t (suc s) rank w is at in
    let many : length (others t.generals (t.general ∷ w)) ≡ t.generals - 1 - suc s = wide t.generals t.commander t.general s rank w is.commander is.general is.lieutenant at in
    let read : label_at t (suc s) rank ≡ w = get_or_from_slice_get (labels t.generals t.commander t.general (suc s)) rank w [] at in
    let size_of : (rank * (t.generals - 1 - suc s) + (t.generals - 1 - suc s)) - rank * (t.generals - 1 - suc s) ≡ length (others t.generals (t.general ∷ w)) = omega arith in
    let part : children_of t below (suc s) rank ≡ map (λ j. om f t.generals M k (w ++ j ∷ []) t.general) (others t.generals (t.general ∷ w)) =
    ap (λ (l : ℕ). take l (drop (rank * (t.generals - 1 - suc s)) below)) size_of
    ∙ part_is below (λ j. om f t.generals M k (w ++ j ∷ []) t.general) (others t.generals (t.general ∷ w)) (rank * (t.generals - 1 - suc s))
    (λ i j h. ap (λ xs. slice_get xs (rank * (t.generals - 1 - suc s) + i)) e
    ∙ (slice_get-map (λ v. om f t.generals M k v t.general) (labels t.generals t.commander t.general (suc s + 1)) (rank * (t.generals - 1 - suc s) + i)
    ∙ rw (next, rw width at (children_stand t.generals t.commander t.general s rank i j w is.commander is.general is.lieutenant at h)) refl))
    in
    ap f (ap (λ xs. insert xs (length (others t.general (label_at t (suc s) rank))) (order_at_rank t (suc s) rank)) part
    ∙ (ap (λ (v : List ℕ). insert (map (λ j. om f t.generals M k (w ++ j ∷ []) t.general) (others t.generals (t.general ∷ w))) (length (others t.general v)) (order_at_rank t (suc s) rank)) read
    ∙ ap (insert (map (λ j. om f t.generals M k (w ++ j ∷ []) t.general) (others t.generals (t.general ∷ w))) (length (others t.general w))) (order-told t M (suc s) rank w full (omega arith) (omega arith) at)))
    ∙ sym (om-level f t.generals M k w t.general is.general without)

-- Proves that a level contains the decisions about its labels.
pub level-om : (f : List ℕ → ℕ) (t : LieutenantTree) (M : Messages) (k size : ℕ) (below level : List ℕ) → IsCampaign t → IsFilled t M → 0 < size → size + suc k ≤ t.bound + 1 → below ≡ decisions_at f t M k (size + 1) → level ≡ map (upward f t below size) (nat_range 0 (length (labels t.generals t.commander t.general size))) → level ≡ decisions_at f t M (suc k) size
unfolding decisions_at
level-om f t M k size below level is full some short e el =
    let z : length (labels t.generals t.commander t.general size) - 0 ≡ length (labels t.generals t.commander t.general size) = omega arith in
    el ∙ (ap (λ (l : ℕ). map (upward f t below size) (range_with_len 0 l)) z
    ∙ by_place (upward f t below size) (λ w. om f t.generals M (suc k) w t.general) 0 (labels t.generals t.commander t.general size) (λ i w at. let y : 0 + i ≡ i = omega arith in rw y (upward-om f t M k size i below w is full some short at e)))

pub level-long : (f : List ℕ → ℕ) (t : LieutenantTree) (size : ℕ) (below level : List ℕ) → level ≡ map (upward f t below size) (nat_range 0 (length (labels t.generals t.commander t.general size))) → length level ≡ length (labels t.generals t.commander t.general size)
level-long f t size below level e =
    let z : length (labels t.generals t.commander t.general size) - 0 ≡ length (labels t.generals t.commander t.general size) = omega arith in
    ap length e ∙ (length-map-range_with_len (upward f t below size) 0 (length (labels t.generals t.commander t.general size) - 0) ∙ z)

-- Proves the claim for the longest labels.
pub longest-om : (f : List ℕ → ℕ) (t : LieutenantTree) (M : Messages) (size : ℕ) (orders : List ℕ) → orders ≡ map order_of (level_told t.generals t.commander t.general M size) → orders ≡ decisions_at f t M 0 size
unfolding decisions_at om
longest-om f t M size orders e = e ∙ twice (labels t.generals t.commander t.general size)
  where
    twice : (ws : List (List ℕ)) → map order_of (map (λ w. M w t.general) ws) ≡ map (λ w. taken M w t.general) ws
    twice [] = refl
    twice (w ∷ ws) = ap (λ xs. taken M w t.general ∷ xs) (twice ws)

-- Proves that the first decision of the shortest level is the lieutenant's decision.
pub first-om : (f : List ℕ → ℕ) (t : LieutenantTree) (M : Messages) (k order : ℕ) (decisions : List ℕ) → IsCampaign t → decisions ≡ decisions_at f t M k 1 → order ≡ get_or decisions 0 order → order ≡ om f t.generals M k (t.commander ∷ []) t.general
unfolding decisions_at
first-om f t M k order decisions is e eo =
    let first : labels t.generals t.commander t.general 1 ≡ (t.commander ∷ []) ∷ [] = first_label t.generals t.commander t.general is.lieutenant in
    let whole : decisions ≡ om f t.generals M k (t.commander ∷ []) t.general ∷ [] = rw first at e in
    rw whole at eo

-- Proves that the list so far is not too long.
pub ap-short : (i : ℕ) (orders xs : List ℕ) → orders ≡ take i xs → length orders ≤ i
ap-short i orders xs e = let h : length orders ≡ length (take i xs) = ap length e in omega (arith, short i xs)
  where
    short : (i : ℕ) (xs : List ℕ) → length (take i xs) ≤ i
    short zero xs = omega arith
    short (suc i) [] = omega arith
    short (suc i) (x ∷ xs) = omega (arith, short i xs)
