-- A campaign with oral messages as a diagram in SVG.
use Rattle.std.specs.Prelude.{ℕ, ◌+◌, ◌==◌, Bool, List, [], ◌∷◌, ◌++◌, flat_map, codes}
use Rattle.std.specs.Fmt.{decimal}
use Rattle.std.specs.List.{range_with_len}
use Rattle.board.specs.Board.{Access}
use Rattle.book.specs.Table.{MessageTable}
use Rattle.round.specs.Scenario.{Scenario, is_traitor}
use Rattle.world.specs.Chronicle.{Chronicle}
use Rattle.show_diagram.specs.declared.mark.DiagramMarks.{DiagramMarks}
use Rattle.show_diagram.specs.declared.stroke.Stroke.{Stroke}
use Rattle.show_diagram.specs.Bands.{bands}
use Rattle.show_diagram.specs.Facts.{strokes_of}
use Rattle.show_diagram.specs.Foot.{foot}
use Rattle.show_diagram.specs.Layout.{board, column, top_of, width}
use Rattle.show_diagram.specs.Left.{cut_words, is_cut, mores}
use Rattle.show_diagram.specs.Legend.{foot_height, marks_of, shape_key}
use Rattle.show_diagram.specs.Lists.{with_rows}
use Rattle.show_diagram.specs.Shapes.{group_at, mark, said_if, shape_of, sort_of, text_at, title}
use Rattle.show_diagram.specs.Words.{copied_words, general_words, role_words}

-- The first attributes of every diagram's `svg` element.
unfoldable pub start : List ℕ
start = codes "<svg xmlns=\"http://www.w3.org/2000/svg\" role=\"graphics-document document\""

-- Writes the width w and height h of a diagram and the view box of this size, and ends the opening tag.
unfoldable pub box_words : ℕ → ℕ → List ℕ
box_words w h =
    codes " width=\"" ++ (decimal w
    ++ (codes "\" height=\""
    ++ (decimal h ++ (codes "\" viewBox=\"0 0 " ++ (decimal w ++ (codes " " ++ (decimal h ++ codes "\">\n")))))))

-- Writes a description of a campaign: the number of generals, the bound, the commander and his order.
unfoldable pub campaign_words : ℕ → ℕ → ℕ → ℕ → List ℕ
campaign_words n m c order =
    decimal n ++ (codes " generals, traitors provided for: "
    ++ (decimal m ++ (codes "; commander " ++ (decimal c ++ (codes " was given order " ++ decimal order)))))

-- The start of a diagram's description for readers who cannot see it. It explains columns, bands and lines.
unfoldable pub key_start : List ℕ
key_start =
    codes "<desc>There is a column for each general, and a band for each round, from above. In a band a line leads "
    ++ codes "down from the sender of an order to its receiver. The width of the line is its number of labels, up to 5. "
    ++ codes "Below, in the column of the receiver, is what he received."

-- Writes sentences that explain circles, diamonds and crosses, if they occur in a diagram for oral messages.
abbrev pub stroke_key : DiagramMarks → List ℕ
stroke_key marks =
    said_if marks.circle (codes " Circle and plain line: as an honest relay sends it.")
    ++ said_if marks.diamond (codes " Diamond and dashes: an honest relay would send something else.")
    ++ said_if marks.cross (codes " Cross and dots: nothing was sent, but an order should be sent.")

-- Writes the end tag of a description.
abbrev pub key_end : List ℕ
key_end = codes "</desc>\n"

-- Writes the description of a diagram for readers who cannot see it. `cut` says whether strokes are left out.
abbrev pub description : List Access → DiagramMarks → Bool → List ℕ
description accesses marks cut =
    key_start ++ stroke_key marks ++ shape_key marks ++ said_if cut cut_words ++ flat_map copied_words accesses
    ++ key_end

-- The style sheet of a diagram. The background is white, or dark if the reader prefers a dark one.
unfoldable pub look : List ℕ
look =
    codes "<style>svg{background:#fff}text{fill:#111;font:13px sans-serif}.head{font:bold 16px sans-serif}"
    ++ codes ".round{font-weight:bold}.small{font-size:12px}.life{stroke:#8a8a8a}"
    ++ codes ".rule{stroke:#8a8a8a;stroke-dasharray:2 4}.access{stroke:#0b5fa5}"
    ++ codes ".stroke{fill:none;stroke:#111;stroke-opacity:.45}"
    ++ codes ".stroke.lie{stroke:#b00020;stroke-opacity:1;stroke-dasharray:9 4}"
    ++ codes ".stroke.none{stroke:#b00020;stroke-opacity:1;stroke-dasharray:2 5}"
    ++ codes ".mark{fill:#fff;stroke:#111;stroke-width:1.5}.mark.lie{fill:#b00020;stroke:#b00020}"
    ++ codes ".mark.none{fill:none;stroke:#b00020;stroke-width:2.5}.mark.point{fill:#0b5fa5;stroke:#0b5fa5}"
    ++ codes ".mark.traitor{fill:#b00020}@media(prefers-color-scheme:dark){svg{background:#111}text{fill:#eee}"
    ++ codes ".stroke,.mark{stroke:#eee}.mark{fill:#111}.access{stroke:#6cb8f5}"
    ++ codes ".mark.point{fill:#6cb8f5;stroke:#6cb8f5}.stroke.lie,.stroke.none,.mark.none{stroke:#ff8095}"
    ++ codes ".mark.lie{fill:#ff8095;stroke:#ff8095}.mark.traitor{fill:#ff8095}}</style>\n"

-- Writes the head of a diagram: the title, the description, the style sheet and the headline.
abbrev pub head : Scenario → List Access → DiagramMarks → Bool → List ℕ
head s accesses marks cut =
    title (campaign_words s.generals s.bound s.commander s.order) ++ description accesses marks cut ++ look
    ++ text_at (codes "head") 16 28 (campaign_words s.generals s.bound s.commander s.order)

-- Writes the head of the column of general g: his shape, name and role.
abbrev pub general_head : ℕ → Bool → Bool → List ℕ
general_head g commander traitor =
    group_at (column g) 50
    (mark (sort_of traitor) (shape_of traitor) ++ text_at (codes "name") 12 4 (general_words g)
    ++ text_at (codes "small") 12 20 (role_words commander traitor))

-- Writes the head of the column of general g, with his role in the scenario.
abbrev pub head_of : Scenario → ℕ → List ℕ
head_of s g = general_head g (g == s.commander) (is_traitor s g)

-- Writes the head of the board's column, or nothing if there are no accesses.
abbrev pub board_head : ℕ → List Access → List ℕ
board_head n [] = []
board_head n (a ∷ accesses) = text_at (codes "name") (board n) 54 (codes "board")

-- Writes the heads of all columns.
abbrev pub heads : Scenario → List Access → List ℕ
heads s accesses = board_head s.generals accesses ++ flat_map (head_of s) (range_with_len 0 s.generals)

-- Writes a diagram of the width w and the height h, with the elements `inside`.
abbrev pub picture : ℕ → ℕ → List ℕ → List ℕ
picture w h inside = start ++ box_words w h ++ inside ++ codes "</svg>\n"

-- Writes the diagram of a campaign with oral messages that has these strokes. Only those in `drawn` are drawn.
abbrev pub svg_with : List Stroke → List Stroke → Chronicle → List ℕ
svg_with strokes drawn c =
    let s = c.scenario in
    let bottom = top_of s.generals drawn c.accesses (s.bound + 1) in
    let wide = width s.generals c.accesses in
    let marks = marks_of s c.accesses drawn in
    picture (wide + 16) (bottom + foot_height marks)
    (head s c.accesses marks (is_cut strokes) ++ heads s c.accesses
    ++ bands s.generals drawn c.accesses wide (s.bound + 1)
    ++ mores s.generals strokes drawn c.accesses (s.bound + 1)
    ++ foot c marks wide bottom)

-- Writes the diagram of a campaign with oral messages from its chronicle. t is the message table of the chronicle's
-- letters.
unfoldable pub svg_text : MessageTable → Chronicle → List ℕ
svg_text t c = svg_with (strokes_of t c.scenario.order) (with_rows (strokes_of t c.scenario.order)) c
