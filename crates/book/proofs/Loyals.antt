-- If all generals send one order, each lieutenant decides on it.
use Rattle.std.proofs.Common.{ℕ, zero, suc, ◌<◌, ◌≡◌, Bool, true, false, cond, List, [], ◌∷◌, ◌++◌, map, length, refl, sym, ap, ◌∙◌, arith, Some}
use Rattle.std.specs.Prelude.{◌==◌, count_by}
use Rattle.std.proofs.lemmas.Bool.{or_from, eq-eqb, true≢false}
use Rattle.std.proofs.lemmas.List.{length-map}
use Rattle.std.proofs.lemmas.List.Sums.{sum_by-cons}
use Rattle.combine.specs.Rule.{combined_by, IsMajorityRule}
use Rattle.combine.specs.Laws.{chosen_is_rule}
use Rattle.combine.specs.declared.campaign_rule.Rule.TheVariants.{Majority}
use Rattle.label.specs.Labels.{on, others}
use Rattle.label.specs.Oral.{Messages, om}
use Rattle.label.proofs.Counting.{map_agree, on-push}
use Rattle.label.proofs.Counts.{among}
use Rattle.book.specs.WrittenLaws.{LoyalTablesDecide}
use Rattle.book.proofs.Reread.{proved_tables_are_read, apart_first}

-- All items are this order.
all_alike : (v : ℕ) (xs : List ℕ) → count_by (λ x. x == v) (map (λ _. v) xs) ≡ length xs
all_alike v [] = refl
all_alike v (x ∷ xs) = rw (sum_by-cons (λ y. cond (y == v) 1 0) v (map (λ _. v) xs), eq-eqb v v refl, all_alike v xs) (omega arith)

some_there : (xs : List ℕ) (p : ℕ) → on xs p ≡ true → 0 < length xs
some_there [] p i = absurd (true≢false (sym i))
some_there (x ∷ xs) p i = omega arith

-- A majority rule gives this order for a list of only this order.
one_order : (f : List ℕ → ℕ) → IsMajorityRule f → (v : ℕ) (xs : List ℕ) → 0 < length xs → f (map (λ _. v) xs) ≡ v
one_order f rule v xs some =
    let count = all_alike v xs in
    let long = length-map xs (λ (_ : ℕ). v) in
    rule (map (λ _. v) xs) v (omega arith)

-- Everyone sends this order.
abbrev pub always : ℕ → Messages
always v w p = Some v

entry : (b : Bool) (v y : ℕ) → (b ≡ false → y ≡ v) → cond b v y ≡ v
entry true v y h = refl
entry false v y h = h refl

pub decided_alike : (f : List ℕ → ℕ) → IsMajorityRule f → (n v p : ℕ) → p < n → (k : ℕ) (w : List ℕ) → on w p ≡ false → om f n (always v) k w p ≡ v
unfolding om
decided_alike f rule n v p l zero w off = refl
decided_alike f rule n v p l (suc k) w off =
    ap f (map_agree (λ j. cond (j == p) v (om f n (always v) k (w ++ j ∷ []) p)) (λ _. v) (others n w)
    (λ j i. entry (j == p) v (om f n (always v) k (w ++ j ∷ []) p) (λ apart. decided_alike f rule n v p l k (w ++ j ∷ []) (on-push w j p ∙ or_from (on w p) (j == p) off apart))))
    ∙ one_order f rule v (others n w) (some_there (others n w) p (among n w p l off))

-- The law, as specs/WrittenLaws states it.
pub proved_loyal_tables_decide : LoyalTablesDecide
proved_loyal_tables_decide v bits n m c inside =
    let read = proved_tables_are_read (always v) (λ w p order e. let same : v ≡ order = cc in omega arith) n m c Majority inside in
    (read.0, read.1, λ p lp ne. read.2.decides p lp ne ∙ decided_alike (combined_by Majority) (chosen_is_rule Majority) n v p lp m (c ∷ []) (apart_first c p ne))
