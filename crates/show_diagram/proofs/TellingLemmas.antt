-- The messages for the labels that extend a label.
use Rattle.std.proofs.Common.{ℕ, zero, suc, ◌≡◌, List, [], ◌∷◌, ◌++◌, refl, ap, ◌∙◌, append_assoc, arith}
use Rattle.std.specs.List.{flat_map}
use Rattle.label.specs.Labels.{others}
use Rattle.book.specs.Table.{MessageTable}
use Rattle.show_diagram.specs.declared.told_order.Telling.{Telling}
use Rattle.show_diagram.specs.Facts.{telling_at, tellings_below, tellings_by}

-- Proves that there are none if no general can extend the label.
pub below_last : (t : MessageTable) (r : ℕ) (w : List ℕ) (p : ℕ) → r ≡ 0 → tellings_below t r w p ≡ []
unfolding tellings_below
below_last t zero w p e = refl
below_last t (suc k) w p e = absurd (omega arith)

-- Proves that otherwise they are those of each general who can extend the label.
pub below_more : (t : MessageTable) (r k : ℕ) (w : List ℕ) (p : ℕ) → r ≡ suc k → tellings_below t r w p ≡ flat_map (tellings_by t k w p) (others t.generals (p ∷ w))
unfolding tellings_below
below_more t r k w p e = ap (λ (i : ℕ). tellings_below t i w p) e

-- Proves that the message of j and those for further extensions continue the list.
pub by_same : (t : MessageTable) (k : ℕ) (w : List ℕ) (p j : ℕ) (telling : Telling) (next : List ℕ) (old first all : List Telling)
    → telling ≡ telling_at t w j p → next ≡ w ++ j ∷ [] → first ≡ old ++ telling ∷ [] → all ≡ first ++ tellings_below t k next p → all ≡ old ++ tellings_by t k w p j
by_same t k w p j telling next old first all is same_next pushed below =
    below ∙ (ap (λ xs. xs ++ tellings_below t k next p) (pushed ∙ ap (λ x. old ++ x ∷ []) is)
    ∙ (append_assoc old (telling_at t w j p ∷ []) (tellings_below t k next p) ∙ ap (λ v. old ++ (telling_at t w j p ∷ tellings_below t k v p)) same_next))
