-- A picture, built from its elements.
use Rattle.std.proofs.Common.{ℕ, ◌+◌, ◌≡◌, Bool, List, ◌++◌, append_assoc, codes}
use Rattle.board.specs.Board.{Access}
use Rattle.book.specs.Table.{MessageTable}
use Rattle.round.specs.Scenario.{Scenario}
use Rattle.world.specs.Chronicle.{Chronicle}
use Rattle.show_diagram.specs.declared.mark.DiagramMarks.{DiagramMarks}
use Rattle.show_diagram.specs.declared.stroke.Stroke.{Stroke}
use Rattle.show_diagram.specs.Bands.{bands}
use Rattle.show_diagram.specs.Facts.{strokes_of}
use Rattle.show_diagram.specs.Foot.{foot}
use Rattle.show_diagram.specs.Layout.{top_of, width}
use Rattle.show_diagram.specs.Left.{is_cut, mores}
use Rattle.show_diagram.specs.Legend.{foot_height, marks_of}
use Rattle.show_diagram.specs.Lists.{with_rows}
use Rattle.show_diagram.specs.Svg.{box_words, head, heads, start, svg_text}

regrouped : (a b c d e m f g : List ℕ) → ((((((a ++ b) ++ c) ++ d) ++ e) ++ m) ++ f) ++ g ≡ ((a ++ b) ++ ((((c ++ d) ++ e) ++ m) ++ f)) ++ g
regrouped a b c d e m f g = simp append_assoc

pub picture_whole : (t : MessageTable) (c : Chronicle) (s : Scenario) (accesses : List Access) (made kept one marked cut two three four : List Stroke) (n m order wide bottom high : ℕ) (marks : DiagramMarks) (is : Bool)
    (first boxed headed columns banded told footed out : List ℕ)
    → s ≡ c.scenario → accesses ≡ c.accesses → order ≡ s.order → made ≡ strokes_of t order → kept ≡ with_rows made → one ≡ kept → marked ≡ kept → cut ≡ made → two ≡ kept → three ≡ made → four ≡ kept
    → n ≡ s.generals → m ≡ s.bound → wide ≡ width n accesses → bottom ≡ top_of n one accesses (m + 1) → marks ≡ marks_of s accesses marked → is ≡ is_cut cut → high ≡ foot_height marks
    → first ≡ start → boxed ≡ first ++ box_words (wide + 16) (bottom + high) → headed ≡ boxed ++ head s accesses marks is → columns ≡ headed ++ heads s accesses
    → banded ≡ columns ++ bands n two accesses wide (m + 1) → told ≡ banded ++ mores n three four accesses (m + 1) → footed ≡ told ++ foot c marks wide bottom → out ≡ footed ++ codes "</svg>\n"
    → out ≡ svg_text t c
unfolding svg_text
picture_whole t c s accesses made kept one marked cut two three four n m order wide bottom high marks is first boxed headed columns banded told footed out es ea eo em ek e1 ec ed e2 e7 e8 en eb ew et ema ei eh f0 f1 f2 f3 f4 fm f5 f6 =
    let rows : List Stroke = with_rows (strokes_of t c.scenario.order) in
    let shown : DiagramMarks = marks_of c.scenario c.accesses rows in
    rw (f6, f5, fm, f4, f3, f2, f1, f0, eh, ei, ema, et, ew, e8, e7, e2, ed, ec, e1, ek, em, eo, en, eb, ea, es)
    (regrouped start (box_words (width c.scenario.generals c.accesses + 16) (top_of c.scenario.generals rows c.accesses (c.scenario.bound + 1) + foot_height shown))
    (head c.scenario c.accesses shown (is_cut (strokes_of t c.scenario.order))) (heads c.scenario c.accesses)
    (bands c.scenario.generals rows c.accesses (width c.scenario.generals c.accesses) (c.scenario.bound + 1))
    (mores c.scenario.generals (strokes_of t c.scenario.order) rows c.accesses (c.scenario.bound + 1))
    (foot c shown (width c.scenario.generals c.accesses) (top_of c.scenario.generals rows c.accesses (c.scenario.bound + 1))) (codes "</svg>\n"))
