-- The decisions just above the longest labels: a part of their level instead of recursion.
use Rattle.std.proofs.Common.{ℕ, zero, suc, ◌+◌, ◌-◌, ◌*◌, ◌≤◌, ◌≡◌, List, ◌∷◌, map, length, get_or, take, drop, refl, sym, ap, ◌∙◌, arith, Option, None}
use Rattle.std.specs.Prelude.{insert, slice_range, slice_index_or}
use Rattle.std.specs.List.{range_with_len}
use Rattle.std.proofs.lemmas.List.{drop_more, drop-map, take-map}
use Rattle.label.specs.Oral.{order_of}
use Rattle.tree.specs.LieutenantTree.{LieutenantTree, level_of}
use Rattle.resolve.specs.Decided.{decided, order_at_rank}

-- Proves that a part of a level is known index by index.
part : (xs : List (Option ℕ)) (a b n : ℕ) → a + b + n ≤ length xs → map (λ i. order_of (slice_index_or xs (a + i) None)) (range_with_len b n) ≡ map order_of (take n (drop (a + b) xs))
part xs a b zero l = refl
part xs a b (suc n) l =
    let more : drop (a + b) xs ≡ get_or xs (a + b) None ∷ drop ((a + b) + 1) xs = drop_more xs (a + b) None (omega arith) in
    let next : a + (b + 1) ≡ (a + b) + 1 = omega arith in
    rw (more, part xs a (b + 1) n (omega arith), next) refl

-- Proves the claim if one more general can extend the label.
pub step-one : (f : List ℕ → ℕ) (t : LieutenantTree) (k size rank lower_off width own : ℕ) (children : List ℕ) → k ≡ 1 → own ≡ order_at_rank t size rank → width ≡ t.generals - 1 - size → rank * width + width ≤ length (level_of t (size + 1)) → children ≡ slice_range (map order_of (level_of t (size + 1))) (rank * width) (rank * width + width) → f (insert children lower_off own) ≡ decided f t k size rank lower_off
unfolding decided
step-one f t k size rank lower_off width own children one eo ew l ec =
    let next : size + 1 ≡ suc size = omega arith in
    let add : rank * width + 0 ≡ rank * width = omega arith in
    let wide : (rank * width + width) - rank * width ≡ width = omega arith in
    let below : map (λ i. order_of (slice_index_or (level_of t (size + 1)) (rank * width + i) None)) (range_with_len 0 width) ≡ map order_of (take width (drop (rank * width + 0) (level_of t (size + 1)))) = part (level_of t (size + 1)) (rank * width) 0 width (omega arith) in
    let level : List (Option ℕ) = level_of t (size + 1) in
    let part_of : children ≡ map order_of (take width (drop (rank * width + 0) level)) =
    ec ∙ (ap (λ (n : ℕ). take n (drop (rank * width) (map order_of level))) wide
    ∙ (ap (λ (n : ℕ). take width (drop n (map order_of level))) (sym add)
    ∙ (ap (take width) (drop-map order_of (rank * width + 0) level) ∙ take-map order_of width (drop (rank * width + 0) level)))) in
    rw (one, eo, part_of, ← below, next, ew) refl
