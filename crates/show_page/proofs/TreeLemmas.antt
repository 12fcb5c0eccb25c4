-- The items of the labels below a label.
use Rattle.std.proofs.Common.{ℕ, zero, suc, ◌≡◌, List, [], ◌∷◌, ◌++◌, true, refl, ap, sym, ◌∙◌, arith, append_assoc}
use Rattle.std.specs.Prelude.{if◌then◌else◌}
use Rattle.std.specs.List.{flat_map}
use Rattle.label.specs.Labels.{others}
use Rattle.book.specs.Table.{MessageTable}
use Rattle.show_tree.specs.declared.node.Trust.{Trust}
use Rattle.show_tree.specs.declared.node.Node.{Node}
use Rattle.show_tree.specs.declared.node.View.{View}
use Rattle.show_tree.specs.Facts.{mark_at, node_at}
use Rattle.show_tree.specs.Shown.{deeper, is_open}
use Rattle.show_tree.specs.Words.{said}
use Rattle.html.specs.Page.{fold_start, fold_end, fold, item, item_start, item_end, list, list_start, list_end, text_item}
use Rattle.show_page.specs.Trees.{item_by, items_below, label_item}

-- If the order cannot be relayed any further, there are no items.
pub items_last : (t : MessageTable) (traitors : List ℕ) (view : View) (r : ℕ) (w : List ℕ) (p : ℕ) → r ≡ 0 → items_below t traitors view r w p ≡ []
unfolding items_below
items_last t traitors view zero w p e = refl
items_last t traitors view (suc k) w p e = absurd (omega arith)

-- If the order can be relayed further, there is an item for each general who may relay it.
pub items_more : (t : MessageTable) (traitors : List ℕ) (view : View) (r k : ℕ) (w : List ℕ) (p : ℕ) → r ≡ suc k
    → items_below t traitors view r w p ≡ flat_map (item_by t traitors view k w p) (others t.generals (p ∷ w))
unfolding items_below
items_more t traitors view r k w p e = ap (λ (i : ℕ). items_below t traitors view i w p) e

-- The item of the label that one more general extends.
pub item_same : (t : MessageTable) (traitors : List ℕ) (view : View) (k : ℕ) (w : List ℕ) (j p : ℕ) (v next : List ℕ) (mark : Trust) (node : Node)
    → v ≡ w ++ j ∷ [] → next ≡ w ++ j ∷ [] → mark ≡ mark_at t traitors w j p → node ≡ node_at t traitors view mark k v p
    → label_item node (items_below t traitors (deeper view) k next p) ≡ item_by t traitors view k w p j
item_same t traitors view k w j p v next mark node same_v same_next same_mark same_node =
    ap (λ x. label_item x (items_below t traitors (deeper view) k next p))
    (same_node ∙ (ap (λ m. node_at t traitors view m k v p) same_mark ∙ ap (λ u. node_at t traitors view (mark_at t traitors w j p) k u p) same_v))
    ∙ ap (λ u. label_item (node_at t traitors view (mark_at t traitors w j p) k (w ++ j ∷ []) p) (items_below t traitors (deeper view) k u p)) same_next

-- Seven texts after another text, joined in either order.
pieces : (old a b c d e f g : List ℕ) → ((((((old ++ a) ++ b) ++ c) ++ d) ++ e) ++ f) ++ g ≡ old ++ ((a ++ ((b ++ ((c ++ d) ++ e)) ++ f)) ++ g)
pieces old a b c d e f g = simp append_assoc

-- The item of a label with an open fold, text by text.
pub opened : (t : MessageTable) (traitors : List ℕ) (view next : View) (k : ℕ) (w : List ℕ) (p : ℕ) (node : Node) (words old o1 o2 o3 o4 o5 o6 o7 : List ℕ)
    → is_open node.extent ≡ true → words ≡ said node → next ≡ deeper view
    → o1 ≡ old ++ item_start → o2 ≡ o1 ++ fold_start words → o3 ≡ o2 ++ list_start → o4 ≡ o3 ++ items_below t traitors next k w p
    → o5 ≡ o4 ++ list_end → o6 ≡ o5 ++ fold_end → o7 ≡ o6 ++ item_end → o7 ≡ old ++ label_item node (items_below t traitors (deeper view) k w p)
opened t traitors view next k w p node words old o1 o2 o3 o4 o5 o6 o7 is_shown same deep e1 e2 e3 e4 e5 e6 e7 =
    let below : List ℕ = items_below t traitors (deeper view) k w p in
    let f1 : o2 ≡ (old ++ item_start) ++ fold_start (said node) = e2 ∙ (ap (λ x. x ++ fold_start words) e1 ∙ ap (λ x. (old ++ item_start) ++ fold_start x) same) in
    let f2 : o3 ≡ ((old ++ item_start) ++ fold_start (said node)) ++ list_start = e3 ∙ ap (λ x. x ++ list_start) f1 in
    let f3 : o4 ≡ (((old ++ item_start) ++ fold_start (said node)) ++ list_start) ++ below =
    e4 ∙ (ap (λ x. x ++ items_below t traitors next k w p) f2 ∙ ap (λ v. (((old ++ item_start) ++ fold_start (said node)) ++ list_start) ++ items_below t traitors v k w p) deep) in
    let f4 : o7 ≡ ((((((old ++ item_start) ++ fold_start (said node)) ++ list_start) ++ below) ++ list_end) ++ fold_end) ++ item_end =
    e7 ∙ ap (λ x. x ++ item_end) (e6 ∙ ap (λ x. x ++ fold_end) (e5 ∙ ap (λ x. x ++ list_end) f3)) in
    f4 ∙ (pieces old item_start (fold_start (said node)) list_start below list_end fold_end item_end
    ∙ ap (λ b. old ++ (if b then item (fold (said node) (list below)) else text_item (said node))) (sym is_shown))
