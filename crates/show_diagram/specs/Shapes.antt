-- The SVG elements of a diagram.
use Rattle.std.specs.Prelude.{ℕ, Bool, true, false, if◌then◌else◌, List, [], ◌++◌, codes}
use Rattle.std.specs.Fmt.{decimal}
use Rattle.show_diagram.specs.declared.stroke.StrokePath.{StrokePath}

-- Writes the start tag of a text at the point (x, y).
unfoldable pub text_start : List ℕ → ℕ → ℕ → List ℕ
text_start class x y = codes "<text class=\""
    ++ (class ++ (codes "\" x=\"" ++ (decimal x ++ (codes "\" y=\"" ++ (decimal y ++ codes "\">")))))

-- Writes the end tag of a text.
abbrev pub text_end : List ℕ
text_end = codes "</text>\n"

-- Writes words as a text at the point (x, y).
abbrev pub text_at : List ℕ → ℕ → ℕ → List ℕ → List ℕ
text_at class x y words = text_start class x y ++ words ++ text_end

-- Writes a line from (x, y) to (u, v).
unfoldable pub line : List ℕ → ℕ → ℕ → ℕ → ℕ → List ℕ
line class x y u v =
    codes "<path class=\"" ++ (class
    ++ (codes "\" d=\"M" ++ (decimal x
    ++ (codes " " ++ (decimal y ++ (codes "L" ++ (decimal u ++ (codes " " ++ (decimal v ++ codes "\"/>\n")))))))))

-- Writes the start of a stroke's opening tag, with its class and its width.
unfoldable pub stroke_open : List ℕ → ℕ → List ℕ
stroke_open kind width =
    codes "<path class=\"stroke " ++ (kind ++ (codes "\" stroke-width=\"" ++ (decimal width ++ codes "\" d=\"")))

-- Writes the path from (x, y) to (u, v) in a stroke's opening tag, and the tag's end.
unfoldable pub stroke_way : ℕ → ℕ → ℕ → ℕ → List ℕ
stroke_way x y u v = codes "M"
    ++ (decimal x ++ (codes " "
    ++ (decimal y ++ (codes "L" ++ (decimal u ++ (codes " " ++ (decimal v ++ codes "\">")))))))

-- Writes the opening tag of a stroke from (x, y) to (u, v).
abbrev pub stroke_start : List ℕ → ℕ → ℕ → ℕ → ℕ → ℕ → List ℕ
stroke_start kind width x y u v = stroke_open kind width ++ stroke_way x y u v

-- Writes the end tag of a stroke.
abbrev pub stroke_end : List ℕ
stroke_end = codes "</path>\n"

-- Writes the start tag of a title.
abbrev pub title_start : List ℕ
title_start = codes "<title>"

-- Writes the end tag of a title.
abbrev pub title_end : List ℕ
title_end = codes "</title>\n"

-- Writes the title of an element, which a browser shows if the reader points at the element.
abbrev pub title : List ℕ → List ℕ
title words = title_start ++ words ++ title_end

-- Writes a stroke from (x, y) to (u, v) with the given class and width, and with `words` as its title.
abbrev pub stroke_at : List ℕ → ℕ → ℕ → ℕ → ℕ → ℕ → List ℕ → List ℕ
stroke_at kind width x y u v words = stroke_start kind width x y u v ++ title words ++ stroke_end

-- Writes the path of a stroke in its opening tag, and the tag's end.
unfoldable pub bent_way : StrokePath → List ℕ
bent_way p = codes "M"
    ++ (decimal p.left ++ (codes " "
    ++ (decimal p.top ++ (codes "L" ++ (decimal p.lane ++ (codes " "
    ++ (decimal p.turn ++ (codes "V" ++ (decimal p.row ++ (codes "H" ++ (decimal p.tip ++ codes "\">")))))))))))

-- Writes the opening tag of a stroke with this class, width and path.
abbrev pub bent_start : List ℕ → ℕ → StrokePath → List ℕ
bent_start kind width path = stroke_open kind width ++ bent_way path

-- Writes a stroke with this class, width and path, and with `words` as its title.
abbrev pub bent_at : List ℕ → ℕ → StrokePath → List ℕ → List ℕ
bent_at kind width path words = bent_start kind width path ++ title words ++ stroke_end

-- Writes the start of a group. The point (x, y) is the origin of the coordinates within it.
unfoldable pub group_start : ℕ → ℕ → List ℕ
group_start x y = codes "<g transform=\"translate(" ++ (decimal x ++ (codes " " ++ (decimal y ++ codes ")\">\n")))

-- Writes the end tag of a group.
abbrev pub group_end : List ℕ
group_end = codes "</g>\n"

-- Writes a group with the elements `inside`. The point (x, y) is the origin of their coordinates.
abbrev pub group_at : ℕ → ℕ → List ℕ → List ℕ
group_at x y inside = group_start x y ++ inside ++ group_end

-- Writes a mark with the class `kind` and the path data `outline`.
unfoldable pub mark : List ℕ → List ℕ → List ℕ
mark kind outline = codes "<path class=\"mark " ++ (kind ++ (codes "\" d=\"" ++ (outline ++ codes "\"/>\n")))

-- Returns the class of a general's shape. The argument is whether he is a traitor.
abbrev pub sort_of : Bool → List ℕ
sort_of true = codes "traitor"
sort_of false = codes "loyal"

-- Returns the path data of a general's shape: a square for a traitor, and a circle for a loyal general.
abbrev pub shape_of : Bool → List ℕ
shape_of true = codes "M-6-6h12v12h-12z"
shape_of false = codes "M0-6a6 6 0 0 1 0 12a6 6 0 0 1 0-12z"

-- Writes the words if the condition holds, else nothing.
unfoldable pub said_if : Bool → List ℕ → List ℕ
said_if stands words = if stands then words else []
