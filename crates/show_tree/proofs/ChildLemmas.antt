-- The orders for the labels that extend one label are next to each other in a tree.
use Rattle.std.proofs.Common.{ℕ, suc, zero, ◌+◌, ◌-◌, ◌*◌, ◌<◌, ◌≤◌, ◌≡◌, true, false, List, [], ◌∷◌, ◌++◌, map, length, length-append, get_or, take, drop, refl, sym, ap, ◌∙◌, arith, None, Some, Option, subst}
use Rattle.std.specs.Prelude.{slice_get, slice_range, option_map, unwrap_or}
use Rattle.std.proofs.lemmas.List.{drop_more, length-map}
use Rattle.std.proofs.lemmas.Option.{slice_get_within, get_or_from_slice_get, slice_get-map}
use Rattle.label.specs.Labels.{labels, on, others}
use Rattle.label.specs.Oral.{Messages, order_of}
use Rattle.label.specs.Space.{HasRank, IsWithinLimits, begins_with}
use Rattle.label.specs.declared.space.Space.{Space}
use Rattle.label.proofs.Parts.{part-within, wide}
use Rattle.label.proofs.Places.{children_stand}
use Rattle.label.proofs.Ranks.{others-at, others-more_no, others-more_yes}
use Rattle.label.proofs.Same.{label_stands}
use Rattle.tree.specs.LieutenantTree.{IsCampaign, LieutenantTree, level_of, level_told}
use Rattle.tree.proofs.Levels.{levels-at, told-at}
use Rattle.book.specs.Grammar.{is_place}
use Rattle.book.specs.Table.{MessageTable, told}
use Rattle.book.specs.Trees.{tree_of}
use Rattle.book.proofs.TreeLemmas.{place_of_tree}
use Rattle.show_tree.proofs.PlaceLemmas.{place_parts}

-- Proves that a part of a list is known from its elements.
part_is : {A B : Type 0} (xs : List B) (G : A → B) (d : B) (js : List A) (a : ℕ) → ((i : ℕ) (j : A) → slice_get js i ≡ Some j → slice_get xs (a + i) ≡ Some (G j)) → take (length js) (drop a xs) ≡ map G js
part_is xs G d [] a same = refl
part_is xs G d (j ∷ js) a same =
    let z : a + 0 ≡ a = omega arith in
    let here : slice_get xs a ≡ Some (G j) = rw z at (same 0 j refl) in
    let more : drop a xs ≡ get_or xs a d ∷ drop (a + 1) xs = drop_more xs a d (slice_get_within xs a (G j) here) in
    let read : get_or xs a d ≡ G j = get_or_from_slice_get xs a (G j) d here in
    let rest : take (length js) (drop (a + 1) xs) ≡ map G js = part_is xs G d js (a + 1) (λ i x e. let y : (a + 1) + i ≡ a + suc i = omega arith in rw y (same (suc i) x e)) in
    rw (more, read, rest) refl

-- Proves what a level of a filled tree contains.
level_is : (n m c p k : ℕ) (M : Messages) → 0 < k → k ≤ m + 1 → level_of (tree_of n m c M p) k ≡ level_told n c p M k
level_is n m c p k M some short =
    let up : 1 + (k - 1) ≡ k = omega arith in
    ap (λ o. unwrap_or o []) (levels-at n c p M 1 (m + 1) (k - 1) (omega arith)) ∙ ap (λ (i : ℕ). level_told n c p M i) up

-- Proves that a label's rank is its index in the list for the tree's numbers.
pub rank_in : (s : Space) (t : LieutenantTree) (w : List ℕ) (r : ℕ) → s.generals ≡ t.generals → s.commander ≡ t.commander → s.general ≡ t.general → HasRank s w r
    → slice_get (labels t.generals t.commander t.general (length w)) r ≡ Some w
rank_in s t w r eg ec ep at =
    sym (ap (λ (n : ℕ). slice_get (labels n s.commander s.general (length w)) r) eg
    ∙ (ap (λ (c : ℕ). slice_get (labels t.generals c s.general (length w)) r) ec ∙ ap (λ (p : ℕ). slice_get (labels t.generals t.commander p (length w)) r) ep)) ∙ at

pub limits : (s : Space) (t : LieutenantTree) → IsCampaign t → s.generals ≡ t.generals → s.commander ≡ t.commander → s.general ≡ t.general → IsWithinLimits s
limits s t is eg ec ep =
    let a = is.few in
    let b = is.commander in
    let c = is.general in
    record { generals = omega arith; commander = omega arith; general = omega arith }

-- Proves that a label of the table has a rank.
pub has_rank : (s : Space) (t : MessageTable) (w : List ℕ) (p : ℕ) → IsWithinLimits s → is_place t w p ≡ true → s.generals ≡ t.generals → s.commander ≡ t.commander → s.general ≡ p
    → ((r : ℕ) → HasRank s w r → ⊥) → ⊥
has_rank s t w p is place eg ec ep away =
    let own = place_of_tree t (told t.messages) w p place in
    let at = label_stands t.generals t.commander p w (let a = is.commander in omega arith) own.1 own.2 own.0.label own.0.without in
    away at.0 (ap (λ (n : ℕ). slice_get (labels n s.commander s.general (length w)) at.0) eg
    ∙ (ap (λ (c : ℕ). slice_get (labels t.generals c s.general (length w)) at.0) ec ∙ (ap (λ (q : ℕ). slice_get (labels t.generals t.commander q (length w)) at.0) ep ∙ at.1)))

-- Proves which part of a level belongs to the labels that extend a label.
part_told : (n m c p s rank : ℕ) (M : Messages) (w : List ℕ) → IsCampaign (tree_of n m c M p) → suc s ≤ m → slice_get (labels n c p (suc s)) rank ≡ Some w
    → slice_range (map order_of (level_of (tree_of n m c M p) (suc s + 1))) (rank * (n - 1 - suc s)) (rank * (n - 1 - suc s) + (n - 1 - suc s)) ≡ map (λ j. order_of (M (w ++ j ∷ []) p)) (others n (p ∷ w))
part_told n m c p s rank M w is short at =
    let width : n - 2 - s ≡ n - 1 - suc s = omega arith in
    let next : suc s + 1 ≡ suc (suc s) = omega arith in
    let many : length (others n (p ∷ w)) ≡ n - 1 - suc s = wide n c p s rank w is.commander is.general is.lieutenant at in
    let size_of : (rank * (n - 1 - suc s) + (n - 1 - suc s)) - rank * (n - 1 - suc s) ≡ length (others n (p ∷ w)) = omega arith in
    let level : List (Option ℕ) = level_of (tree_of n m c M p) (suc s + 1) in
    let first : ℕ = rank * (n - 1 - suc s) in
    ap (λ (l : ℕ). take l (drop first (map order_of level))) size_of
    ∙ part_is (map order_of level) (λ j. order_of (M (w ++ j ∷ []) p)) 0 (others n (p ∷ w)) first
    (λ i j h. slice_get-map order_of level (first + i)
    ∙ ap (option_map order_of) (told-at n c p (suc s + 1) (first + i) M (w ++ j ∷ []) level (level_is n m c p (suc s + 1) M (omega arith) (omega arith))
    (rw (next, ← width) (children_stand n c p s rank i j w is.commander is.general is.lieutenant at h))))

pub children_told : (t : MessageTable) (tree : LieutenantTree) (w : List ℕ) (p size width rank : ℕ) (part level : List ℕ) → tree ≡ tree_of t.generals t.bound t.commander (told t.messages) p
    → IsCampaign tree → 0 < length w → length w ≤ t.bound → size ≡ length w → width ≡ tree.generals - 1 - size → slice_get (labels tree.generals tree.commander tree.general (length w)) rank ≡ Some w
    → level ≡ map order_of (level_of tree (size + 1)) → part ≡ slice_range level (rank * width) (rank * width + width)
    → part ≡ map (λ j. order_of (told t.messages (w ++ j ∷ []) p)) (others t.generals (p ∷ w))
children_told t tree w p zero width rank part level is camp some short long ew at el e = absurd (omega arith)
children_told t tree w p (suc s) width rank part level is camp some short long ew at el e =
    let own : LieutenantTree = tree_of t.generals t.bound t.commander (told t.messages) p in
    let at' : slice_get (labels own.generals own.commander own.general (length w)) rank ≡ Some w = subst (λ (u : LieutenantTree). slice_get (labels u.generals u.commander u.general (length w)) rank ≡ Some w) is at in
    e ∙ (ap (λ (l : ℕ). slice_range level (rank * l) (rank * l + l)) ew
    ∙ (ap (λ xs. slice_range xs (rank * (tree.generals - 1 - suc s)) (rank * (tree.generals - 1 - suc s) + (tree.generals - 1 - suc s))) el
    ∙ (ap (λ (u : LieutenantTree). slice_range (map order_of (level_of u (suc s + 1))) (rank * (u.generals - 1 - suc s)) (rank * (u.generals - 1 - suc s) + (u.generals - 1 - suc s))) is
    ∙ part_told t.generals t.bound t.commander p s rank (told t.messages) w (subst IsCampaign is camp) (let l = long in omega arith) (ap (λ (k : ℕ). slice_get (labels own.generals own.commander own.general k) rank) long ∙ at'))))

-- Proves that this part is within the level.
pub children_within : (tree : LieutenantTree) (w : List ℕ) (size width rank : ℕ) (level : List ℕ) → IsCampaign tree → 0 < length w → size ≡ length w → width ≡ tree.generals - 1 - size
    → slice_get (labels tree.generals tree.commander tree.general (length w)) rank ≡ Some w → length level ≡ length (labels tree.generals tree.commander tree.general (size + 1)) → rank * width + width ≤ length level
children_within tree w size width rank level camp some long ew at el =
    let there : rank < length (labels tree.generals tree.commander tree.general (length w)) = slice_get_within (labels tree.generals tree.commander tree.general (length w)) rank w at in
    let here : rank < length (labels tree.generals tree.commander tree.general size) = subst (λ (k : ℕ). rank < length (labels tree.generals tree.commander tree.general k)) (sym long) there in
    let within : rank * width + width ≤ length (labels tree.generals tree.commander tree.general (size + 1)) =
    part-within tree.generals tree.commander tree.general size rank width camp.commander camp.general camp.lieutenant (omega arith) ew here in
    omega arith

-- ---- the extensions so far

pub no_more : (v : List ℕ) (j next : ℕ) → on v j ≡ true → next ≡ length (others j v) → next ≡ length (others (j + 1) v)
no_more v j next there e =
    let one : j + 1 ≡ suc j = omega arith in
    e ∙ ap length (sym (ap (λ (i : ℕ). others i v) one ∙ others-more_no v j there))

pub one_more : (v : List ℕ) (j next : ℕ) → on v j ≡ false → next ≡ length (others j v) → next + 1 ≡ length (others (j + 1) v)
one_more v j next off e =
    let one : j + 1 ≡ suc j = omega arith in
    let long : length (others j v ++ j ∷ []) ≡ length (others j v) + 1 = length-append (others j v) (j ∷ []) in
    let last : length (others (j + 1) v) ≡ length (others j v ++ j ∷ []) = ap length (ap (λ (i : ℕ). others i v) one ∙ others-more_yes v j off) in
    omega arith

pub child_within : (f : ℕ → ℕ) (n j next : ℕ) (v : List ℕ) (children : List ℕ) → children ≡ map f (others n v) → j < n → on v j ≡ false → next ≡ length (others j v) → next < length children
child_within f n j next v children is below off e =
    let within : length (others j v) < length (others n v) = slice_get_within (others n v) (length (others j v)) j (others-at n v j below off) in
    let long : length children ≡ length (others n v) = ap length is ∙ length-map (others n v) f in
    omega arith

-- Proves that a missing order counts as 0.
pub order_is : (told : Option ℕ) → order_of told ≡ unwrap_or told 0
order_is None = refl
order_is (Some order) = refl

pub child_read : (f : ℕ → ℕ) (n j next : ℕ) (v children : List ℕ) (d : ℕ) → children ≡ map f (others n v) → j < n → on v j ≡ false → next ≡ length (others j v)
    → get_or children next d ≡ f j
child_read f n j next v children d is below off e =
    let stands : slice_get children next ≡ Some (f j) =
    ap (λ xs. slice_get xs next) is ∙ (slice_get-map f (others n v) next ∙ ap (option_map f) (ap (slice_get (others n v)) e ∙ others-at n v j below off)) in
    get_or_from_slice_get children next (f j) d stands

-- Proves that the label of a place in the table is not empty.
pub place_some : (t : MessageTable) (w : List ℕ) (p : ℕ) → is_place t w p ≡ true → 0 < length w
place_some t w p place = begun w t.commander (place_parts t w p place).first
  where
    begun : (w : List ℕ) (c : ℕ) → begins_with c w ≡ true → 0 < length w
    begun [] c e = absurd cc
    begun (x ∷ xs) c e = omega arith
