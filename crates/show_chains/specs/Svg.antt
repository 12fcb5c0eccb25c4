-- The diagram of a signed campaign, as an SVG text.
use Rattle.std.specs.Prelude.{ℕ, ◌+◌, Bool, List, ◌++◌, flat_map, codes}
use Rattle.board.specs.Board.{Access}
use Rattle.round.specs.Scenario.{Scenario}
use Rattle.world.specs.Chronicle.{Chronicle}
use Rattle.show_diagram.specs.Layout.{top_of, width}
use Rattle.show_diagram.specs.Left.{cut_words, is_cut, mores}
use Rattle.show_diagram.specs.Legend.{foot_height, marks_of, shape_key}
use Rattle.show_diagram.specs.Shapes.{said_if, text_at, title}
use Rattle.show_diagram.specs.Svg.{campaign_words, heads, key_end, look, picture}
use Rattle.show_diagram.specs.Words.{copied_words}
use Rattle.show_diagram.specs.declared.mark.DiagramMarks.{DiagramMarks}
use Rattle.show_chains.specs.Bands.{bands}
use Rattle.show_chains.specs.Foot.{foot}
use Rattle.show_chains.specs.Strokes.{Drawn, bare, strokes_of, with_rows}
use Rattle.show_chains.specs.Words.{several_words}

-- Returns a description of the campaign: its number of generals, its bound, its commander, his order, and that messages
-- are signed.
abbrev pub signed_words : Scenario → List ℕ
signed_words s = campaign_words s.generals s.bound s.commander s.order ++ codes "; signed messages"

-- Returns the description for readers who do not see the diagram. It has the words of those strokes and accesses for
-- which the diagram has no room.
unfoldable pub key_start : List ℕ
key_start =
    codes "<desc>There is a column for each general, and a band for each round, from above. In a band a line leads "
    ++ codes "from the sender of chains to their receiver, one line for each order. The width of the line is its number "
    ++ codes "of chains. Below, in the column of the receiver, is what he received: the order and its signers, the "
    ++ codes "commander first and the sender last."

-- Returns the meanings of those marks on strokes that occur in the diagram.
abbrev pub stroke_key : DiagramMarks → List ℕ
stroke_key marks =
    said_if marks.circle (codes " Circle and plain line: a loyal general in place of the sender would send the same.")
    ++ said_if marks.diamond (codes " Diamond and dashes: a loyal general would not send this.")
    ++ said_if marks.cross (codes " Cross and dots: not sent, but a loyal general would send it.")

abbrev pub description : List Drawn → List Access → DiagramMarks → Bool → List ℕ
description strokes accesses marks cut =
    key_start ++ stroke_key marks ++ shape_key marks ++ said_if cut cut_words ++ flat_map several_words strokes
    ++ flat_map copied_words accesses ++ key_end

-- Returns the beginning of the diagram, up to its columns: the title, the description, the style sheet and the
-- headline.
abbrev pub headline : Scenario → List ℕ
headline s =
    text_at (codes "head") 16 28 (campaign_words s.generals s.bound s.commander s.order)
    ++ text_at (codes "small") 16 58 (codes "signed") ++ text_at (codes "small") 16 72 (codes "messages")

abbrev pub head : Scenario → List Drawn → List Access → DiagramMarks → Bool → List ℕ
head s strokes accesses marks cut =
    title (signed_words s) ++ description strokes accesses marks cut ++ look ++ headline s

-- Returns the diagram of a signed campaign with these strokes, of which only those in `drawn` are drawn.
abbrev pub svg_with : List Drawn → List Drawn → Chronicle → List ℕ
svg_with strokes drawn c =
    let s = c.scenario in
    let bottom = top_of s.generals (bare drawn) c.accesses (s.bound + 1) in
    let wide = width s.generals c.accesses in
    let marks = marks_of s c.accesses (bare drawn) in
    picture (wide + 16) (bottom + foot_height marks)
    (head s drawn c.accesses marks (is_cut (bare strokes))
    ++ heads s c.accesses
    ++ bands s.generals drawn (bare drawn) c.accesses wide (s.bound + 1)
    ++ mores s.generals (bare strokes) (bare drawn) c.accesses (s.bound + 1)
    ++ foot c marks wide bottom)

-- Returns the diagram of a chronicle.
unfoldable pub signed_svg : Chronicle → List ℕ
signed_svg c = svg_with (strokes_of c) (with_rows (strokes_of c)) c
