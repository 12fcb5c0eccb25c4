-- The shown labels that extend a label.
use Rattle.std.proofs.Common.{ℕ, zero, suc, ◌≡◌, List, [], ◌∷◌, ◌++◌, refl, ap, ◌∙◌, arith}
use Rattle.std.specs.List.{flat_map}
use Rattle.label.specs.Labels.{others}
use Rattle.book.specs.Table.{MessageTable}
use Rattle.show_tree.specs.declared.node.Trust.{Trust}
use Rattle.show_tree.specs.declared.node.Node.{Node}
use Rattle.show_tree.specs.declared.node.View.{View}
use Rattle.show_tree.specs.Facts.{mark_at, node_at}
use Rattle.show_tree.specs.Shown.{deeper, nodes_below, nodes_by, with_those}

-- Proves that there are none if no general can extend the label.
pub below_last : (t : MessageTable) (traitors : List ℕ) (view : View) (r : ℕ) (w : List ℕ) (p : ℕ) → r ≡ 0 → nodes_below t traitors view r w p ≡ []
unfolding nodes_below
below_last t traitors view zero w p e = refl
below_last t traitors view (suc k) w p e = absurd (omega arith)

-- Proves that otherwise they are those of each general who can extend the label.
pub below_more : (t : MessageTable) (traitors : List ℕ) (view : View) (r k : ℕ) (w : List ℕ) (p : ℕ) → r ≡ suc k
    → nodes_below t traitors view r w p ≡ flat_map (λ j. nodes_by t traitors view k w j p) (others t.generals (p ∷ w))
unfolding nodes_below
below_more t traitors view r k w p e = ap (λ (i : ℕ). nodes_below t traitors view i w p) e

-- Proves that the labels of one more general continue the list.
pub with_same : (t : MessageTable) (traitors : List ℕ) (view : View) (k : ℕ) (w : List ℕ) (j p : ℕ) (v next : List ℕ) (mark : Trust) (node : Node)
    → v ≡ w ++ j ∷ [] → next ≡ w ++ j ∷ [] → mark ≡ mark_at t traitors w j p → node ≡ node_at t traitors view mark k v p
    → with_those node (nodes_below t traitors (deeper view) k next p) ≡ nodes_by t traitors view k w j p
with_same t traitors view k w j p v next mark node same_v same_next same_mark same_node =
    ap (λ x. with_those x (nodes_below t traitors (deeper view) k next p))
    (same_node ∙ (ap (λ m. node_at t traitors view m k v p) same_mark ∙ ap (λ u. node_at t traitors view (mark_at t traitors w j p) k u p) same_v))
    ∙ ap (λ u. with_those (node_at t traitors view (mark_at t traitors w j p) k (w ++ j ∷ []) p) (nodes_below t traitors (deeper view) k u p)) same_next
