use Rattle.std.proofs.Common.{ℕ, List, ◌≡◌, ◌+◌, ◌++◌, ◌∙◌, ap, append_assoc}
use Rattle.std.specs.String.{string_bytes}
use Rattle.show_diagram.specs.Bands.{inside}
use Rattle.show_diagram.specs.Layout.{top_of}
use Rattle.show_diagram.specs.Shapes.{group_end, group_start}
use Rattle.show_diagram.proofs.bands.put_band.Goals as goal

-- Proves that three texts after a given one can be grouped.
grouped : (old first second third a b d : List ℕ) → a ≡ old ++ first → b ≡ a ++ second → d ≡ b ++ third → d ≡ old ++ (first ++ second ++ third)
grouped old first second third a b d e f g =
    let parts : (old ++ first) ++ second ++ third ≡ old ++ (first ++ second ++ third) = simp append_assoc in
    g ∙ (ap (λ xs. xs ++ third) (f ∙ ap (λ xs. xs ++ second) e) ∙ parts)

pub returns : goal.returns
returns c =
    let what : ℕ → List ℕ = λ r. inside c.args.generals c.args.strokes.now c.args.accesses.now c.args.wide r in
    let top : ℕ = top_of c.args.generals c.args.strokes.now c.args.accesses.now c.args.before in
    grouped (string_bytes c.args.out.now) (group_start 0 top) (what (c.args.before + 1)) group_end (string_bytes c.put_group_start.new.out) (string_bytes c.put_inside.new.out) (string_bytes c.put_group_end.new.out)
    (c.in_ok-put_group_start.ensures ∙ ap (λ (i : ℕ). string_bytes c.args.out.now ++ group_start 0 i) c.top_of.ensures.value)
    (c.in_ok-put_inside.ensures ∙ ap (λ (i : ℕ). string_bytes c.put_group_start.new.out ++ what (i + 1)) c.from.ensures)
    c.in_ok-put_group_end.ensures
