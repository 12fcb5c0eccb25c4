-- The list of labels is in ascending order.
use Rattle.std.proofs.Common.{ℕ, zero, suc, ◌+◌, ◌-◌, ◌*◌, ◌<◌, ◌≤◌, ◌≡◌, ◌≢◌, List, [], ◌∷◌, ◌++◌, length, refl, sym, ap, ◌∙◌, arith, Some, ◌⊎◌, inl, inr, subst, cond}
use Rattle.std.specs.Prelude.{slice_get}
use Rattle.std.proofs.lemmas.Bool.{cases_lt, cases_order}
use Rattle.std.proofs.lemmas.Nat.{mul-le}
use Rattle.label.specs.Labels.{on, others, labels}
use Rattle.label.specs.Laws.{LexBelow}
use Rattle.label.proofs.Bounds.{others_length_more}
use Rattle.label.proofs.Places.{born, Born, first_label}

lex-push : (v w : List ℕ) (a b : ℕ) → LexBelow v w → LexBelow (v ++ a ∷ []) (w ++ b ∷ [])
lex-push [] w a b l = absurd l
lex-push (x ∷ xs) [] a b l = absurd l
lex-push (x ∷ xs) (y ∷ ys) a b l = elim l [ inl s ↦ inl s | inr s ↦ inr (s.0, lex-push xs ys a b s.1) ]

lex-last : (v : List ℕ) (a b : ℕ) → a < b → LexBelow (v ++ a ∷ []) (v ++ b ∷ [])
lex-last [] a b l = inl l
lex-last (x ∷ xs) a b l = inr (refl, lex-last xs a b l)

others-grow : (v : List ℕ) (a d : ℕ) → length (others a v) ≤ length (others (a + d) v)
others-grow v a zero = let e : a + 0 ≡ a = omega arith in rw e (omega arith)
others-grow v a (suc d) =
    let e : a + suc d ≡ (a + d) + 1 = omega arith in
    let ih : length (others a v) ≤ length (others (a + d) v) = others-grow v a d in
    let more : length (others ((a + d) + 1) v) ≡ length (others (a + d) v) + cond (on v (a + d)) 0 1 = others_length_more v (a + d) in
    rw e (omega arith)

fewer_before : (v : List ℕ) (a b : ℕ) → length (others a v) < length (others b v) → a < b
fewer_before v a b l =
    elim (cases_lt a b) [
      | inl s ↦ s
      | inr s ↦
          let e : b + (a - b) ≡ a = omega arith in
          let g : length (others b v) ≤ length (others a v) = subst (λ (x : ℕ). length (others b v) ≤ length (others x v)) e (others-grow v b (a - b)) in
          absurd (omega arith)
    ]

row_order : (q q' s t t' : ℕ) → t < s → t' < s → q * s + t < q' * s + t' → (q < q') ⊎ ((q ≡ q') × (t < t'))
row_order q q' s t t' a b l =
    elim (cases_order q q') [
      | inl same ↦ inr (same, (let e : q * s ≡ q' * s = ap (λ x. x * s) same in omega arith))
      | inr o ↦ elim o [
        | inl less ↦ inl less
        | inr more ↦ absurd (let m : (q' + 1) * s ≤ q * s = mul-le (q' + 1) s q s (omega arith) (omega arith) in omega arith)
      ]
    ]

one_place : (x : List ℕ) (i j : ℕ) (v w : List ℕ) → i < j → slice_get (x ∷ []) j ≡ Some w → ⊥
one_place x i zero v w l e = omega arith
one_place x i (suc j) v w l e = cc

-- Proves that the list of labels is in ascending order.
pub labels_ascend : (n c p k i j : ℕ) (v w : List ℕ) → c < n → p < n → p ≢ c → i < j → slice_get (labels n c p (suc k)) i ≡ Some v → slice_get (labels n c p (suc k)) j ≡ Some w → LexBelow v w
labels_ascend n c p zero i j v w inside within ne l e e' = absurd (one_place (c ∷ []) i j v w l (sym (ap (λ xs. slice_get xs j) (first_label n c p ne)) ∙ e'))
labels_ascend n c p (suc k) i j v w inside within ne l e e' =
    let a : Born n c p k i v = born n c p k inside within ne i v e in
    let b : Born n c p k j w = born n c p k inside within ne j w e' in
    let ordered : a.q * (n - 2 - k) + length (others a.j (p ∷ a.parent)) < b.q * (n - 2 - k) + length (others b.j (p ∷ b.parent)) = let x = a.place in let y = b.place in omega arith in
    let P : List ℕ → Type 0 = λ u. LexBelow u w in
    let Q : List ℕ → Type 0 = λ u. LexBelow (a.parent ++ a.j ∷ []) u in
    subst P a.is (subst Q b.is
    (elim (row_order a.q b.q (n - 2 - k) (length (others a.j (p ∷ a.parent))) (length (others b.j (p ∷ b.parent))) a.small b.small ordered) [
      | inl less ↦ lex-push a.parent b.parent a.j b.j (labels_ascend n c p k a.q b.q a.parent b.parent inside within ne less a.stands b.stands)
      | inr same ↦
          let parents : a.parent ≡ b.parent = same_parent (labels n c p (suc k)) a.q b.q a.parent b.parent same.0 a.stands b.stands in
          let R : List ℕ → Type 0 = λ u. LexBelow (a.parent ++ a.j ∷ []) (u ++ b.j ∷ []) in
          let less : length (others a.j (p ∷ a.parent)) < length (others b.j (p ∷ a.parent)) = subst (λ (u : List ℕ). length (others a.j (p ∷ a.parent)) < length (others b.j (p ∷ u))) (sym parents) same.1 in
          subst R parents (lex-last a.parent a.j b.j (fewer_before (p ∷ a.parent) a.j b.j less))
    ]))
  where
    same_parent : (xs : List (List ℕ)) (q q' : ℕ) (v w : List ℕ) → q ≡ q' → slice_get xs q ≡ Some v → slice_get xs q' ≡ Some w → v ≡ w
    same_parent xs q q' v w e f g = let h : slice_get xs q ≡ slice_get xs q' = ap (slice_get xs) e in cc
