-- One step of the recursion over ranks, and the steps of its loops.
use Rattle.std.proofs.Common.{ℕ, zero, suc, ◌+◌, ◌-◌, ◌*◌, ◌^◌, ◌<◌, ◌≤◌, ◌≡◌, List, [], ◌∷◌, ◌++◌, map, length, get_or, refl, sym, ap, ◌∙◌, arith, Option, None}
use Rattle.std.specs.Prelude.{insert, nat_lt}
use Rattle.std.specs.List.{range_with_len}
use Rattle.std.proofs.lemmas.List.FromFn.{map-range_with_len_more, length-map-range_with_len}
use Rattle.std.proofs.lemmas.List.Edits.{insert_end, insert-append_left, length-insert}
use Rattle.std.proofs.lemmas.Bool.{cond-true, cond-false, lt-ltb, le-ltb}
use Rattle.std.proofs.lemmas.Nat.{mul-le}
use Rattle.label.specs.Labels.{labels}
use Rattle.label.proofs.Bounds.{most, most-fits, labels-few}
use Rattle.label.specs.Oral.{order_of}
use Rattle.tree.specs.LieutenantTree.{LieutenantTree, IsCampaign, level_of}
use Rattle.resolve.specs.Decided.{decided, child, order_at_rank}

get-order : (told : List (Option ℕ)) (i : ℕ) → get_or (map order_of told) i 0 ≡ order_of (get_or told i None)
get-order [] i = refl
get-order (o ∷ told) zero = refl
get-order (o ∷ told) (suc i) = get-order told i

-- Proves which order is read at a rank.
pub order-read : (t : LieutenantTree) (size rank : ℕ) (level : List ℕ) → level ≡ map order_of (level_of t size) → get_or level rank 0 ≡ order_at_rank t size rank
order-read t size rank level e = ap (λ (orders : List ℕ). get_or orders rank 0) e ∙ get-order (level_of t size) rank

pub step-last : (f : List ℕ → ℕ) (t : LieutenantTree) (k size rank lower_off own : ℕ) → k ≡ 0 → own ≡ order_at_rank t size rank → own ≡ decided f t k size rank lower_off
unfolding decided
step-last f t k size rank lower_off own z e = rw z e

pub step-more : (f : List ℕ → ℕ) (t : LieutenantTree) (k size rank lower_off own : ℕ) (orders : List ℕ) → 0 < k → own ≡ order_at_rank t size rank → orders ≡ insert (map (child f t (k - 1) size rank lower_off) (range_with_len 0 (t.generals - 1 - size))) lower_off own → f orders ≡ decided f t k size rank lower_off
unfolding decided child
step-more f t zero size rank lower_off own orders some e eo = absurd (omega arith)
step-more f t (suc k) size rank lower_off own orders some e eo =
    let less : suc k - 1 ≡ k = omega arith in
    ap f (rw less at eo ∙ ap (insert (map (child f t k size rank lower_off) (range_with_len 0 (t.generals - 1 - size))) lower_off) e)

child_before : (f : List ℕ → ℕ) (t : LieutenantTree) (k size rank lower_off i : ℕ) → i < lower_off → decided f t k (suc size) (rank * (t.generals - 1 - size) + i) (lower_off - 1) ≡ child f t k size rank lower_off i
unfolding child
child_before f t k size rank lower_off i l = ap (decided f t k (suc size) (rank * (t.generals - 1 - size) + i)) (sym (cond-true (nat_lt i lower_off) (lower_off - 1) lower_off (lt-ltb i lower_off l)))

child_behind : (f : List ℕ → ℕ) (t : LieutenantTree) (k size rank lower_off i : ℕ) → lower_off ≤ i → decided f t k (suc size) (rank * (t.generals - 1 - size) + i) lower_off ≡ child f t k size rank lower_off i
unfolding child
child_behind f t k size rank lower_off i l = ap (decided f t k (suc size) (rank * (t.generals - 1 - size) + i)) (sym (cond-false (nat_lt i lower_off) (lower_off - 1) lower_off (le-ltb i lower_off l)))

-- Proves that one more decision comes before the own order.
pub more-before : (f : List ℕ → ℕ) (t : LieutenantTree) (k size rank lower_off width i one : ℕ) (orders longer : List ℕ) → width ≡ t.generals - 1 - size → i < lower_off → orders ≡ map (child f t k size rank lower_off) (range_with_len 0 i) → one ≡ decided f t k (size + 1) (rank * width + i) (lower_off - 1) → longer ≡ orders ++ one ∷ []
    → longer ≡ map (child f t k size rank lower_off) (range_with_len 0 (i + 1))
more-before f t k size rank lower_off width i one orders longer ew l eo e1 el =
    let next : size + 1 ≡ suc size = omega arith in
    rw (el, eo, e1, ew, next, child_before f t k size rank lower_off i l) (sym (map-range_with_len_more (child f t k size rank lower_off) 0 i i (omega arith)))

-- Proves that the own order comes after these decisions.
pub own-put : (F : ℕ → ℕ) (lower_off i own : ℕ) (orders longer : List ℕ) → i ≡ lower_off → orders ≡ map F (range_with_len 0 i) → longer ≡ orders ++ own ∷ [] → longer ≡ insert (map F (range_with_len 0 lower_off)) lower_off own
own-put F lower_off i own orders longer ei eo el =
    rw (el, eo, ei) (sym (ap (λ (n : ℕ). insert (map F (range_with_len 0 lower_off)) n own) (sym (length-map-range_with_len F 0 lower_off)) ∙ insert_end (map F (range_with_len 0 lower_off)) own))

-- Proves that one more decision comes after the own order.
pub more-behind : (f : List ℕ → ℕ) (t : LieutenantTree) (k size rank lower_off width i one own : ℕ) (orders longer : List ℕ) → width ≡ t.generals - 1 - size → lower_off ≤ i → orders ≡ insert (map (child f t k size rank lower_off) (range_with_len 0 i)) lower_off own → one ≡ decided f t k (size + 1) (rank * width + i) lower_off → longer ≡ orders ++ one ∷ []
    → longer ≡ insert (map (child f t k size rank lower_off) (range_with_len 0 (i + 1))) lower_off own
more-behind f t k size rank lower_off width i one own orders longer ew l eo e1 el =
    let next : size + 1 ≡ suc size = omega arith in
    let F = child f t k size rank lower_off in
    rw (el, eo, e1, ew, next, child_behind f t k size rank lower_off i l)
    (sym (ap (λ xs. insert xs lower_off own) (map-range_with_len_more (child f t k size rank lower_off) 0 i i (omega arith)) ∙ insert-append_left (map (child f t k size rank lower_off) (range_with_len 0 i)) (child f t k size rank lower_off i ∷ []) lower_off own (let h : length (map (child f t k size rank lower_off) (range_with_len 0 i)) ≡ i = length-map-range_with_len (child f t k size rank lower_off) 0 i in omega arith)))

pub few-before : (F : ℕ → ℕ) (i : ℕ) (orders : List ℕ) → orders ≡ map F (range_with_len 0 i) → length orders ≡ i
few-before F i orders e = ap length e ∙ length-map-range_with_len F 0 i

pub few-behind : (F : ℕ → ℕ) (i lower_off own : ℕ) (orders : List ℕ) → lower_off ≤ i → orders ≡ insert (map F (range_with_len 0 i)) lower_off own → length orders ≡ i + 1
few-behind F i lower_off own orders l e =
    let h : length (map F (range_with_len 0 i)) ≡ i = length-map-range_with_len F 0 i in
    ap length e ∙ (length-insert (map F (range_with_len 0 i)) lower_off own (omega arith) ∙ ap (λ (n : ℕ). n + 1) h)

-- Proves that ranks have 32 bits.
pub rank-small : (t : LieutenantTree) (size rank : ℕ) → IsCampaign t → 0 < size → size < 14 → rank < length (labels t.generals t.commander t.general size) → rank < 2 ^ 32
rank-small t zero rank is some short r = absurd (omega arith)
rank-small t (suc k) rank is some short r =
    let few : length (labels t.generals t.commander t.general (suc k)) ≤ most k = labels-few t.generals t.commander t.general k is.few is.commander is.general is.lieutenant in
    let fits : most k < 2 ^ 32 = most-fits k (omega arith) in
    omega arith

pub first-fits : (rank width : ℕ) → rank < 2 ^ 32 → width ≤ 13 → rank * width < 2 ^ 36
first-fits rank width r w = let h : rank * width ≤ rank * 13 = mul-le rank width rank 13 (omega arith) w in omega arith
