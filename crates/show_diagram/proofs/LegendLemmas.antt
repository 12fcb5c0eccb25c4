-- The rows of a legend, one after another.
use Rattle.std.proofs.Common.{ℕ, ◌+◌, ◌*◌, ◌≡◌, Bool, true, false, List, ◌++◌, append_assoc, codes, None, Some}
use Rattle.show_diagram.specs.declared.mark.DiagramMarks.{DiagramMarks}
use Rattle.show_diagram.specs.Legend.{legend_of, meaning_if, one_if, rows, shape_if, shape_meanings, stroke_meanings, stroke_rows}
use Rattle.show_diagram.specs.Shapes.{shape_of, text_at}
use Rattle.show_diagram.specs.Words.{access_outline, outline_of}

regrouped : (s a b c : List ℕ) → ((s ++ a) ++ b) ++ c ≡ s ++ ((a ++ b) ++ c)
regrouped s a b c = simp append_assoc

pub three_parts : (start a b c one two three : List ℕ) → one ≡ start ++ a → two ≡ one ++ b → three ≡ two ++ c → three ≡ start ++ ((a ++ b) ++ c)
three_parts start a b c one two three e1 e2 e3 = rw (e3, e2, e1) (regrouped start a b c)

pub three_strokes : (marks : DiagramMarks) (told differs missing circle diamond cross : List ℕ) (a b : ℕ) (start one two three : List ℕ) → a ≡ one_if marks.circle → b ≡ one_if marks.diamond
    → circle ≡ outline_of false None → diamond ≡ outline_of true (Some 0) → cross ≡ outline_of true None
    → one ≡ start ++ meaning_if marks.circle 0 (codes "told key") circle told
    → two ≡ one ++ meaning_if marks.diamond a (codes "lie key") diamond differs
    → three ≡ two ++ meaning_if marks.cross (a + b) (codes "none key") cross missing
    → three ≡ start ++ stroke_meanings marks told differs missing
three_strokes marks told differs missing circle diamond cross a b start one two three ea eb ec ed ex e1 e2 e3 =
    rw (e3, e2, e1, ec, ed, ex, eb, ea)
    (regrouped start (meaning_if marks.circle 0 (codes "told key") (outline_of false None) told)
    (meaning_if marks.diamond (one_if marks.circle) (codes "lie key") (outline_of true (Some 0)) differs)
    (meaning_if marks.cross (one_if marks.circle + one_if marks.diamond) (codes "none key") (outline_of true None) missing))

pub three_shapes : (marks : DiagramMarks) (place : ℕ) (square circle point : List ℕ) (a b : ℕ) (start one two three : List ℕ) → a ≡ one_if marks.square → b ≡ one_if marks.loyal
    → square ≡ shape_of true → circle ≡ shape_of false → point ≡ access_outline
    → one ≡ start ++ shape_if marks.square place (codes "traitor key") square (codes "a traitor")
    → two ≡ one ++ shape_if marks.loyal (place + a) (codes "loyal key") circle (codes "a loyal general")
    → three ≡ two ++ shape_if marks.point (place + a + b) (codes "point key") point (codes "an access to the board")
    → three ≡ start ++ shape_meanings marks place
three_shapes marks place square circle point a b start one two three ea eb es ec ep e1 e2 e3 =
    rw (e3, e2, e1, es, ec, ep, eb, ea)
    (regrouped start (shape_if marks.square place (codes "traitor key") (shape_of true) (codes "a traitor"))
    (shape_if marks.loyal (place + one_if marks.square) (codes "loyal key") (shape_of false) (codes "a loyal general"))
    (shape_if marks.point (place + one_if marks.square + one_if marks.loyal) (codes "point key") access_outline (codes "an access to the board")))

pub whole_legend : (marks : DiagramMarks) (told differs missing wide : List ℕ) (place high : ℕ) (start one two three : List ℕ) → place ≡ stroke_rows marks → high ≡ rows marks
    → one ≡ start ++ stroke_meanings marks told differs missing → two ≡ one ++ shape_meanings marks place → three ≡ two ++ text_at (codes "small") 120 (136 + 20 * high) wide
    → three ≡ start ++ legend_of marks told differs missing wide
whole_legend marks told differs missing wide place high start one two three ep eh e1 e2 e3 =
    rw (e3, e2, e1, eh, ep)
    (regrouped start (stroke_meanings marks told differs missing) (shape_meanings marks (stroke_rows marks)) (text_at (codes "small") 120 (136 + 20 * rows marks) wide))
