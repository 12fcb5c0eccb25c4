use Rattle.std.proofs.Common.{ℕ, List, ◌*◌, ◌++◌, ◌∙◌, ap, arith}
use Rattle.std.specs.String.{string_bytes}
use Rattle.book.proofs.Gathering.{range_text}
use Rattle.show_tree.specs.Places.{branch_at}
use Rattle.show_tree.specs.Rows.{branch_way}
use Rattle.show_tree.proofs.rows.put_branches.Goals as goal

pub overflow_mul-place : goal.overflow_mul-place
overflow_mul-place c =
    let few = c.requires in
    let end = c.saturating_sub-place-end.ensures in
    omega arith

pub loop-place-preserved : goal.loop-place-preserved
loop-place-preserved c =
    let piece : ℕ → List ℕ = λ i. branch_way (28 * i) (branch_at c.args.generals c.args.general c.args.label.now i) in
    c.in_ok-put_branch.ensures
    ∙ (ap (λ b. string_bytes c.loop-place.out ++ branch_way (28 * c.loop-place.place) b) c.branch_at.ensures
    ∙ (ap (λ xs. xs ++ piece c.loop-place.place) c.loop-place.invariant ∙ range_text piece c.loop-place.place (string_bytes c.args.out.now)))
