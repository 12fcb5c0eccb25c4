-- The text of a diagram, put together from its pieces.
use Rattle.std.proofs.Common.{ℕ, ◌+◌, ◌≡◌, Bool, List, ◌++◌, append_assoc, codes}
use Rattle.board.specs.Board.{Access}
use Rattle.round.specs.Scenario.{Scenario}
use Rattle.world.specs.Chronicle.{Chronicle}
use Rattle.show_diagram.specs.declared.mark.DiagramMarks.{DiagramMarks}
use Rattle.show_diagram.specs.declared.stroke.Stroke.{Stroke}
use Rattle.show_diagram.specs.Layout.{top_of, width}
use Rattle.show_diagram.specs.Left.{is_cut, mores}
use Rattle.show_diagram.specs.Legend.{foot_height, marks_of}
use Rattle.show_diagram.specs.Svg.{box_words, heads, start}
use Rattle.show_chains.specs.Bands.{bands}
use Rattle.show_chains.specs.Foot.{foot}
use Rattle.show_chains.specs.Strokes.{Drawn, bare, strokes_of, with_rows}
use Rattle.show_chains.specs.Svg.{head, signed_svg}

regrouped : (a b c d e m f g : List ℕ) → ((((((a ++ b) ++ c) ++ d) ++ e) ++ m) ++ f) ++ g ≡ ((a ++ b) ++ ((((c ++ d) ++ e) ++ m) ++ f)) ++ g
regrouped a b c d e m f g = simp append_assoc

pub picture_whole : (c : Chronicle) (s : Scenario) (accesses : List Access) (made bared kept held told banded : List Drawn) (plain shown one marked cut two three four : List Stroke) (n m wide bottom high : ℕ) (marks : DiagramMarks) (is : Bool)
    (first boxed headed columns bands_out left footed out : List ℕ)
    → s ≡ c.scenario → accesses ≡ c.accesses → made ≡ strokes_of c → bared ≡ made → plain ≡ bare bared → kept ≡ with_rows made → held ≡ kept → shown ≡ bare held
    → one ≡ shown → marked ≡ shown → cut ≡ plain → told ≡ kept → banded ≡ kept → two ≡ shown → three ≡ plain → four ≡ shown → n ≡ s.generals → m ≡ s.bound
    → wide ≡ width n accesses → bottom ≡ top_of n one accesses (m + 1) → marks ≡ marks_of s accesses marked → is ≡ is_cut cut → high ≡ foot_height marks
    → first ≡ start → boxed ≡ first ++ box_words (wide + 16) (bottom + high) → headed ≡ boxed ++ head s told accesses marks is → columns ≡ headed ++ heads s accesses
    → bands_out ≡ columns ++ bands n banded two accesses wide (m + 1) → left ≡ bands_out ++ mores n three four accesses (m + 1) → footed ≡ left ++ foot c marks wide bottom → out ≡ footed ++ codes "</svg>\n"
    → out ≡ signed_svg c
unfolding signed_svg
picture_whole c s accesses made bared kept held told banded plain shown one marked cut two three four n m wide bottom high marks is first boxed headed columns bands_out left footed out es ea em e1 ep ek e2 eh e3 e4 e5 e6 e7 e8 e9 e10 en eb ew et ema ei ef f0 f1 f2 f3 f4 fl f5 f6 =
    let rows : List Drawn = with_rows (strokes_of c) in
    let marked_so : DiagramMarks = marks_of c.scenario c.accesses (bare rows) in
    rw (f6, f5, fl, f4, f3, f2, f1, f0, ef, ei, ema, et, ew, e10, e9, e8, e7, e6, e5, e4, e3, eh, e2, ek, ep, e1, em, en, eb, ea, es)
    (regrouped start (box_words (width c.scenario.generals c.accesses + 16) (top_of c.scenario.generals (bare rows) c.accesses (c.scenario.bound + 1) + foot_height marked_so))
    (head c.scenario rows c.accesses marked_so (is_cut (bare (strokes_of c)))) (heads c.scenario c.accesses)
    (bands c.scenario.generals rows (bare rows) c.accesses (width c.scenario.generals c.accesses) (c.scenario.bound + 1))
    (mores c.scenario.generals (bare (strokes_of c)) (bare rows) c.accesses (c.scenario.bound + 1))
    (foot c marked_so (width c.scenario.generals c.accesses) (top_of c.scenario.generals (bare rows) c.accesses (c.scenario.bound + 1))) (codes "</svg>\n"))
