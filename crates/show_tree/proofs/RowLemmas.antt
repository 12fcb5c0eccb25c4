-- The rows of a picture, one below another.
use Rattle.std.proofs.Common.{ℕ, ◌+◌, ◌<◌, ◌≤◌, ◌≡◌, List, ◌∷◌, ◌++◌, length, drop, get_or, ap, sym, ◌∙◌, append_assoc, append-nil}
use Rattle.std.proofs.lemmas.List.{drop_all, drop_more}
use Rattle.show_tree.specs.declared.node.Node.{Node}
use Rattle.show_tree.specs.Rows.{row, rows_from}

-- Proves that one more row continues the rows so far.
pub row_more : (n p place : ℕ) (nodes : List Node) (node : Node) (old new whole : List ℕ) → place < length nodes → node ≡ get_or nodes place node
    → old ++ rows_from n p place (drop place nodes) ≡ whole → new ≡ old ++ row n p place node
    → new ++ rows_from n p (place + 1) (drop (place + 1) nodes) ≡ whole
unfolding rows_from
row_more n p place nodes node old new whole within is so e =
    let rest : List Node = drop (place + 1) nodes in
    let left : drop place nodes ≡ node ∷ rest = drop_more nodes place node within ∙ ap (λ x. x ∷ rest) (sym is) in
    ap (λ xs. xs ++ rows_from n p (place + 1) rest) e
    ∙ (append_assoc old (row n p place node) (rows_from n p (place + 1) rest)
    ∙ (ap (λ xs. old ++ rows_from n p place xs) (sym left) ∙ so))

-- Proves that the rows are complete after the last label.
pub rows_all : (n p place : ℕ) (nodes : List Node) (out whole : List ℕ) → length nodes ≤ place → out ++ rows_from n p place (drop place nodes) ≡ whole → out ≡ whole
unfolding rows_from
rows_all n p place nodes out whole past so =
    sym (append-nil out) ∙ (ap (λ xs. out ++ rows_from n p place xs) (sym (drop_all place nodes past)) ∙ so)
