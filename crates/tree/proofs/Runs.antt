-- Lemmas about receiving several orders for consecutive labels: only the entries of these labels change.
use Rattle.std.proofs.Common.{ℕ, zero, suc, ◌+◌, ◌-◌, ◌<◌, ◌≤◌, ◌≡◌, List, [], ◌∷◌, ◌++◌, map, length, drop, get_or, refl, sym, ap, subst, ◌∙◌, arith, Some, None, Option}
use Rattle.std.proofs.Math.ListN.{set}
use Rattle.std.proofs.Math.Seq.{drop-cons}
use Rattle.std.specs.Prelude.{slice_get}
use Rattle.std.proofs.lemmas.Option.{slice_get-get_or, get_or_from_slice_get}
use Rattle.std.proofs.lemmas.List.{length-set, map-set, set-get_or}
use Rattle.label.specs.Labels.{labels}
use Rattle.label.specs.Oral.{Messages}
use Rattle.label.specs.Space.{IsSpace, labels_of}
use Rattle.label.specs.declared.space.Space.{Space}
use Rattle.label.proofs.Listing.{proved_labels_are_exact, proved_labels_differ}
use Rattle.tree.specs.LieutenantTree.{AreAnswers, IsFilled, level_told, levels_from, run_written, told_also, told_run}
use Rattle.tree.specs.Fields.{kept, IsFilledBySome}
use Rattle.tree.proofs.Also.{also-once, levels-set}
use Rattle.tree.proofs.Levels.{levels-at, row-told}

-- The level keeps its length.
pub run-long : {A : Type 0} (first : ℕ) (vs row : List A) → length (run_written first vs row) ≡ length row
unfolding run_written
run-long first [] row = refl
run-long first (v ∷ vs) row = run-long (suc first) vs (set row first v) ∙ length-set row first v

pub run-none : {A : Type 0} (first : ℕ) (row : List A) → row ≡ run_written first [] row
unfolding run_written
run-none first row = refl

-- Writing one more value.
pub run-more : {A : Type 0} (first n : ℕ) (vs row : List A) (v : A) → length vs ≡ n → run_written first (vs ++ v ∷ []) row ≡ set (run_written first vs row) (first + n) v
unfolding run_written
run-more first n [] row v e = (let same : first ≡ first + n = omega arith in ap (λ (i : ℕ). set row i v) same)
run-more first zero (u ∷ vs) row v e = absurd (omega arith)
run-more first (suc n) (u ∷ vs) row v e =
    let next : suc first + n ≡ first + suc n = omega arith in
    run-more (suc first) n vs (set row first u) v (omega arith) ∙ ap (λ (i : ℕ). set (run_written (suc first) vs (set row first u)) i v) next

-- Applying a function to the values and then writing them is the same as writing them first.
pub run-map : {A B : Type 0} (f : A → B) (first : ℕ) (vs row : List A) → run_written first (map f vs) (map f row) ≡ map f (run_written first vs row)
unfolding run_written
run-map f first [] row = refl
run-map f first (v ∷ vs) row = ap (run_written (suc first) (map f vs)) (sym (map-set f row first v)) ∙ run-map f (suc first) vs (set row first v)

-- One more answer.
pub answers-none : (P : ℕ → Option ℕ → Type 0) → AreAnswers P 0 []
answers-none P = record { long = refl; each = λ place v at. absurd (none at) }
  where
    none : {v : Option ℕ} → None ≡ Some v → ⊥
    none e = cc

pub answers-more : (P : ℕ → Option ℕ → Type 0) (n : ℕ) (vs : List (Option ℕ)) (v : Option ℕ) → AreAnswers P n vs → P n v → AreAnswers P (n + 1) (vs ++ v ∷ [])
answers-more P n vs v a p = record { long = longer n vs v a.long; each = more P n vs v a.long a.each p }
  where
    longer : (n : ℕ) (vs : List (Option ℕ)) (v : Option ℕ) → length vs ≡ n → length (vs ++ v ∷ []) ≡ n + 1
    longer n [] v e = omega arith
    longer zero (u ∷ vs) v e = absurd (omega arith)
    longer (suc n) (u ∷ vs) v e = (let h = longer n vs v (omega arith) in omega arith)

    more : (P : ℕ → Option ℕ → Type 0) (n : ℕ) (vs : List (Option ℕ)) (v : Option ℕ) → length vs ≡ n → ((place : ℕ) (u : Option ℕ) → slice_get vs place ≡ Some u → P place u) → P n v →
        (place : ℕ) (u : Option ℕ) → slice_get (vs ++ v ∷ []) place ≡ Some u → P place u
    more P zero [] v long each p zero u at = (let e : v ≡ u = cc in subst (λ x. P 0 x) e p)
    more P zero [] v long each p (suc place) u at = cc
    more P (suc n) [] v long each p place u at = absurd (omega arith)
    more P zero (x ∷ vs) v long each p place u at = absurd (omega arith)
    more P (suc n) (x ∷ vs) v long each p zero u at = each 0 u at
    more P (suc n) (x ∷ vs) v long each p (suc place) u at = more (λ i y. P (suc i) y) n vs v (omega arith) (λ i y e. each (suc i) y e) p place u at

set-twice : {A : Type 0} (xs : List A) (i : ℕ) (a b : A) → set (set xs i a) i b ≡ set xs i b
set-twice [] i a b = refl
set-twice (x ∷ xs) zero a b = refl
set-twice (x ∷ xs) (suc i) a b = ap (λ ys. x ∷ ys) (set-twice xs i a b)

-- Two labels of one length with the same generals have the same rank.
abbrev AreApart : ℕ → ℕ → ℕ → Type 0
AreApart n c p = (k j r : ℕ) (w : List ℕ) → slice_get (labels n c p k) j ≡ Some w → slice_get (labels n c p k) r ≡ Some w → j ≡ r

-- A label is only in the level for its length.
abbrev AreOfOne : ℕ → ℕ → ℕ → Type 0
AreOfOne n c p = (k j r q : ℕ) (w : List ℕ) → slice_get (labels n c p k) r ≡ Some w → slice_get (labels n c p j) q ≡ Some w → j ≡ k

pub labels-apart : (s : Space) → IsSpace s → AreApart s.generals s.commander s.general
labels-apart s is k j r w there at = proved_labels_differ s.generals s.commander s.general k j r w is.commander is.general is.lieutenant there at

pub labels-of_one : (s : Space) → IsSpace s → AreOfOne s.generals s.commander s.general
labels-of_one s is k j r q w there at =
    sym (proved_labels_are_exact.only s.generals s.commander s.general j q w is.commander is.general is.lieutenant at).2
    ∙ (proved_labels_are_exact.only s.generals s.commander s.general k r w is.commander is.general is.lieutenant there).2

level-stays : (n c p : ℕ) (M : Messages) (k l i j : ℕ) → i < l → k + i ≡ j → set (levels_from n c p M k l) i (level_told n c p M j) ≡ levels_from n c p M k l
level-stays n c p M k l i j less e =
    let there : slice_get (levels_from n c p M k l) i ≡ Some (level_told n c p M j) = levels-at n c p M k l i less ∙ ap (λ (q : ℕ). Some (level_told n c p M q)) e in
    ap (λ row. set (levels_from n c p M k l) i row) (sym (get_or_from_slice_get (levels_from n c p M k l) i (level_told n c p M j) [] there)) ∙ set-get_or (levels_from n c p M k l) i []

-- The level for this length has the values, each at the rank of its label.
pub levels-run : (n c p : ℕ) (M : Messages) (k l i j first : ℕ) (vs : List (Option ℕ)) → AreApart n c p → AreOfOne n c p → i < l → k + i ≡ j → first + length vs ≤ length (labels n c p j)
    → levels_from n c p (told_run M (drop first (labels n c p j)) vs) k l ≡ set (levels_from n c p M k l) i (run_written first vs (level_told n c p M j))
unfolding run_written told_run
levels-run n c p M k l i j first [] apart one less e fits = sym (level-stays n c p M k l i j less e)
levels-run n c p M k l i j first (v ∷ vs) apart one less e fits =
    let w = get_or (labels n c p j) first [] in
    let here : first < length (labels n c p j) = omega arith in
    let at : slice_get (labels n c p j) first ≡ Some w = slice_get-get_or (labels n c p j) first [] here in
    let N = told_also M w v in
    let head : drop first (labels n c p j) ≡ w ∷ drop (suc first) (labels n c p j) = drop-cons (labels n c p j) first [] here in
    let rest = levels-run n c p N k l i j (suc first) vs apart one less e (omega arith) in
    let level : level_told n c p N j ≡ set (level_told n c p M j) first v = also-once M w v p (labels n c p j) first at (λ q there. apart j q first w there at) in
    let levels : levels_from n c p N k l ≡ set (levels_from n c p M k l) i (set (level_told n c p M j) first v) =
    subst (λ (q : ℕ). levels_from n c p N k l ≡ set (levels_from n c p M k l) i (set (level_told n c p M q) first v)) e
    (levels-set n c p M w v first k l i less (rw e at) (rw e (λ q there. apart j q first w there at)) (rw e (λ q r there. one j q first r w at there))) in
    rw head (rest ∙ (ap (λ rows. set rows i (run_written (suc first) vs (level_told n c p N j))) levels
    ∙ (set-twice (levels_from n c p M k l) i (set (level_told n c p M j) first v) (run_written (suc first) vs (level_told n c p N j))
    ∙ ap (λ row. set (levels_from n c p M k l) i (run_written (suc first) vs row)) level)))

-- The level for this length after the values were written.
pub row-run : (s : Space) (m : ℕ) (ls : List (List (Option ℕ))) (M : Messages) (k first : ℕ) (vs : List (Option ℕ)) (row new : List (Option ℕ)) → IsFilledBySome s m ls → IsFilled (kept s m ls) M → 0 < k → k ≤ m + 1 → row ≡ get_or ls (k - 1) row →
    new ≡ run_written first vs row → first + length vs ≤ length (labels_of s k) → IsFilled (kept s m (set ls (k - 1) new)) (told_run M (drop first (labels_of s k)) vs)
row-run s m ls M k first vs row new i f some short er en fits =
    ap (set ls (k - 1)) (en ∙ ap (run_written first vs) (row-told s m ls M k row i f some short er))
    ∙ (ap (λ ys. set ys (k - 1) (run_written first vs (level_told s.generals s.commander s.general M k))) f
    ∙ sym (levels-run s.generals s.commander s.general M 1 (m + 1) (k - 1) k first vs (labels-apart s i.space) (labels-of_one s i.space) (omega arith) (omega arith) fits))

-- The tree with the changed level has the orders of a message function.
pub whole-run : (s : Space) (m : ℕ) (ls : List (List (Option ℕ))) (k first : ℕ) (vs : List (Option ℕ)) (row new : List (Option ℕ)) → IsFilledBySome s m ls → 0 < k → k ≤ m + 1 → row ≡ get_or ls (k - 1) row →
    new ≡ run_written first vs row → first + length vs ≤ length (labels_of s k) → IsFilledBySome s m (set ls (k - 1) new)
whole-run s m ls k first vs row new i some short er en fits =
    record { space = i.space; small = i.small; M = told_run i.M (drop first (labels_of s k)) vs; filled = row-run s m ls i.M k first vs row new i i.filled some short er en fits }
