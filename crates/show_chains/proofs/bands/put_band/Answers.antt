use Rattle.std.proofs.Common.{ℕ, List, ◌≡◌, ◌+◌, ◌++◌, ◌∙◌, ap, append_assoc}
use Rattle.std.specs.String.{string_bytes}
use Rattle.show_diagram.specs.Layout.{height, top_of}
use Rattle.show_diagram.specs.Shapes.{group_end, group_start}
use Rattle.show_chains.specs.Bands.{inside}
use Rattle.show_chains.proofs.bands.put_band.Goals as goal

-- Three texts are appended one after another.
grouped : (old first second third a b d : List ℕ) → a ≡ old ++ first → b ≡ a ++ second → d ≡ b ++ third → d ≡ old ++ (first ++ second ++ third)
grouped old first second third a b d e f g =
    let parts : (old ++ first) ++ second ++ third ≡ old ++ (first ++ second ++ third) = simp append_assoc in
    g ∙ (ap (λ xs. xs ++ third) (f ∙ ap (λ xs. xs ++ second) e) ∙ parts)

pub returns : goal.returns
returns c =
    let a = c.args in
    let high : ℕ → ℕ = λ r. height a.generals a.plain.now a.accesses.now r in
    let what : ℕ → ℕ → List ℕ = λ h r. inside a.generals a.strokes.now a.accesses.now a.wide h r in
    let top : ℕ = top_of a.generals a.plain.now a.accesses.now a.before in
    let begun : List ℕ = string_bytes c.put_group_start.new.out in
    grouped (string_bytes a.out.now) (group_start 0 top) (what (high (a.before + 1)) (a.before + 1)) group_end begun (string_bytes c.put_inside.new.out) (string_bytes c.put_group_end.new.out)
    (c.in_ok-put_group_start.ensures ∙ ap (λ (i : ℕ). string_bytes a.out.now ++ group_start 0 i) c.top_of.ensures.value)
    (c.in_ok-put_inside.ensures ∙ (ap (λ (h : ℕ). begun ++ what h (c.from-round.result + 1)) c.height-high.ensures.value ∙ ap (λ (i : ℕ). begun ++ what (high (i + 1)) (i + 1)) c.from-round.ensures))
    c.in_ok-put_group_end.ensures
