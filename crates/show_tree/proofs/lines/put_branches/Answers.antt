use Rattle.std.proofs.Common.{ℕ, List, ◌≡◌, ◌++◌, ◌∙◌, ap}
use Rattle.std.specs.String.{string_bytes}
use Rattle.book.proofs.Gathering.{range_text}
use Rattle.show_tree.specs.Lines.{branch_text}
use Rattle.show_tree.specs.Places.{branch_at}
use Rattle.show_tree.proofs.lines.put_branches.Goals as goal

pub loop-place-preserved : goal.loop-place-preserved
loop-place-preserved c =
    let piece : ℕ → List ℕ = λ i. branch_text c.args.style (branch_at c.args.generals c.args.general c.args.label.now i) in
    let here : c.branch_text.result.now ≡ piece c.loop-place.place = c.branch_text.ensures ∙ ap (branch_text c.args.style) c.branch_at.ensures in
    let whole : string_bytes c.push_str.new.self ≡ string_bytes c.loop-place.out ++ c.branch_text.result.now = c.in_ok-push_str.ensures.bytes in
    whole ∙ (ap (λ xs. string_bytes c.loop-place.out ++ xs) here ∙ (ap (λ xs. xs ++ piece c.loop-place.place) c.loop-place.invariant ∙ range_text piece c.loop-place.place (string_bytes c.args.out.now)))
