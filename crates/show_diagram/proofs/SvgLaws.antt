-- Pictures are elements of XML.
use Rattle.std.proofs.Common.{ℕ, ◌+◌, ◌-◌, ◌*◌, ◌≡◌, Bool, true, false, List, [], ◌∷◌, ◌++◌, Option, Some, None, refl, sym, ap, ◌∙◌, subst, append_assoc, append-nil}
use Rattle.std.proofs.lemmas.Bool.{and_parts, cond_both}
use Rattle.std.specs.Prelude.{codes, count_by, ◌==◌, min, slice_get, slice_index_or}
use Rattle.std.specs.Fmt.{decimal}
use Rattle.std.specs.List.{flat_map, list_all, range_with_len}
use Rattle.html.specs.Grammar.{IsText, no_text, no_attributes, attributed, IsTag, IsContent, text, nested, alone, joined, is_name}
use Rattle.html.specs.Tags.{attribute, element, empty}
use Rattle.html.proofs.TextLemmas.{bare_text, decimal_text, is_bare, text-append, text-flat_map}
use Rattle.semantics.specs.declared.request.Request.{Request}
use Rattle.board.specs.Wording.{Row, numbers_asked, row_asked}
use Rattle.board.proofs.RowLemmas.{row_has}
use Rattle.board.specs.Board.{Access}
use Rattle.round.specs.Scenario.{Scenario, is_traitor}
use Rattle.world.specs.Chronicle.{Chronicle}
use Rattle.world.specs.declared.verdict.Verdict.{Verdict}
use Rattle.show_diagram.specs.declared.mark.DiagramMarks.{DiagramMarks}
use Rattle.show_diagram.specs.declared.stroke.Stroke.{Stroke}
use Rattle.show_diagram.specs.declared.stroke.StrokePath.{StrokePath}
use Rattle.show_diagram.specs.Bands.{access_at, accesses_from, band, bands, board_line, drawn, general_life, inside, life, lives, point, round_words, row, stroke_line}
use Rattle.show_diagram.specs.Facts.{strokes_of}
use Rattle.show_diagram.specs.Foot.{alike_words, bound_words, decided, decided_all, decided_if, decides_words, foot, obeyed_words, place_of, verdict_lines}
use Rattle.show_diagram.specs.Laws.{DiagramsAreElements}
use Rattle.show_diagram.specs.Legend.{differs_meaning, foot_height, legend, legend_of, marks_of, meaning_at, meaning_if, missing_meaning, one_if, rows, shape_if, shape_key, shape_meanings, stroke_meanings, stroke_rows, told_meaning, wide_meaning}
use Rattle.show_diagram.specs.Layout.{access_top, board, column, fan_top, height, path_of, row_top, rows_top, top_of, width}
use Rattle.show_diagram.specs.Left.{cut_words, is_cut, is_left, is_left_lie, left_in_full, left_words, more_at, more_of, more_told, more_top, mores, mores_in}
use Rattle.show_diagram.specs.Lists.{with_rows}
use Rattle.show_diagram.specs.Order.{most_rows}
use Rattle.show_diagram.specs.Shapes.{bent_at, bent_way, group_at, group_start, line, mark, said_if, shape_of, sort_of, stroke_at, stroke_open, stroke_way, text_at, text_start, title}
use Rattle.show_diagram.specs.Svg.{board_head, box_words, campaign_words, description, general_head, head, head_of, heads, key_end, key_start, look, picture, start, stroke_key, svg_text}
use Rattle.show_diagram.specs.Words.{access_outline, access_words, answer_words, asked_words, copied_words, differs_words, from_words, general_words, in_full, is_copy, kind, kind_of, labels_words, order_words, outline, outline_of, piece_words, role_words, row_words, shown_words, stroke_words, tells_words, word_words}

-- ---- words

pub many : (a b : List ℕ) → IsText a → IsText b → IsText (a ++ b)
many a b s t = text-append b s t

pub order_text : (told : Option ℕ) → IsText (order_words told)
order_text None = bare_text (codes "nothing") refl
order_text (Some order) = decimal_text order

pub labels_text : (labels : ℕ) → IsText (labels_words labels)
labels_text labels =
    cond_both (labels == 1) [] (codes ", " ++ decimal labels ++ codes " labels") IsText (λ _. no_text)
    (λ _. many (codes ", " ++ decimal labels) (codes " labels") (many (codes ", ") (decimal labels) (bare_text (codes ", ") refl) (decimal_text labels)) (bare_text (codes " labels") refl))

differs_text : (b : Bool) → IsText (differs_words b)
differs_text true = bare_text (codes "; an honest relay would send something else") refl
differs_text false = no_text

tells_text : (j p : ℕ) → IsText (tells_words j p)
unfolding tells_words
tells_text j p =
    many (codes "general ") (decimal j ++ (codes " sends general " ++ (decimal p ++ codes ": "))) (bare_text (codes "general ") refl)
    (many (decimal j) (codes " sends general " ++ (decimal p ++ codes ": ")) (decimal_text j)
    (many (codes " sends general ") (decimal p ++ codes ": ") (bare_text (codes " sends general ") refl) (many (decimal p) (codes ": ") (decimal_text p) (bare_text (codes ": ") refl))))

from_text : (j : ℕ) → IsText (from_words j)
unfolding from_words
from_text j = many (codes "from ") (decimal j ++ codes ": ") (bare_text (codes "from ") refl) (many (decimal j) (codes ": ") (decimal_text j) (bare_text (codes ": ") refl))

stroke_text : (st : Stroke) → IsText (stroke_words st)
stroke_text st =
    many (tells_words st.teller st.receiver ++ order_words st.told ++ labels_words st.labels) (differs_words st.differs)
    (many (tells_words st.teller st.receiver ++ order_words st.told) (labels_words st.labels)
    (many (tells_words st.teller st.receiver) (order_words st.told) (tells_text st.teller st.receiver) (order_text st.told)) (labels_text st.labels))
    (differs_text st.differs)

row_text : (st : Stroke) → IsText (row_words st)
row_text st =
    many (from_words st.teller ++ order_words st.told) (labels_words st.labels) (many (from_words st.teller) (order_words st.told) (from_text st.teller) (order_text st.told)) (labels_text st.labels)

pub kind_text : (differs : Bool) (told : Option ℕ) → IsText (kind_of differs told)
kind_text false told = bare_text (codes "told") refl
kind_text true (Some order) = bare_text (codes "lie") refl
kind_text true None = bare_text (codes "none") refl

pub outline_text : (differs : Bool) (told : Option ℕ) → IsText (outline_of differs told)
outline_text false told = bare_text (codes "M-12-4L-7 0M-12 4L-7 0M0-4a4 4 0 0 1 0 8a4 4 0 0 1 0-8z") refl
outline_text true (Some order) = bare_text (codes "M-12-4L-7 0M-12 4L-7 0M0-6l6 6l-6 6l-6-6z") refl
outline_text true None = bare_text (codes "M-5-5L5 5M5-5L-5 5") refl

access_outline_text : IsText access_outline
access_outline_text = bare_text access_outline refl

-- a number behind words
pub numbered : (words : List ℕ) (n : ℕ) → IsText words → IsText (words ++ decimal n)
numbered words n t = many words (decimal n) t (decimal_text n)

abbrev has_bare_pieces : Row → Bool
has_bare_pieces r = list_all (λ piece. list_all is_bare piece.0) r.sentence

pieces_text : (numbers : List ℕ) (pieces : List (List ℕ × ℕ)) → list_all (λ piece. list_all is_bare piece.0) pieces ≡ true → IsText (flat_map (piece_words numbers) pieces)
pieces_text numbers [] bare = no_text
pieces_text numbers (piece ∷ pieces) bare =
    let both = and_parts (list_all is_bare piece.0) (list_all (λ other. list_all is_bare other.0) pieces) bare in
    many (piece_words numbers piece) (flat_map (piece_words numbers) pieces) (numbered piece.0 (slice_index_or numbers piece.1 0) (bare_text piece.0 both.0)) (pieces_text numbers pieces both.1)

asked_text : (r : Request) → IsText (asked_words r)
asked_text r = pieces_text (numbers_asked r) (row_asked r).sentence (row_has has_bare_pieces refl r)

answer_text : (words : List ℕ) → IsText (answer_words words)
answer_text words =
    many (codes "; answer") (flat_map word_words words) (bare_text (codes "; answer") refl) (text-flat_map word_words words (λ w. numbered (codes " ") w (bare_text (codes " ") refl)))

general_text : (g : ℕ) → IsText (general_words g)
general_text g = numbered (codes "general ") g (bare_text (codes "general ") refl)

pub access_text : (a : Access) → IsText (access_words a)
access_text a =
    many (general_words a.general ++ codes " " ++ asked_words a.request) (answer_words a.reply)
    (many (general_words a.general ++ codes " ") (asked_words a.request) (many (general_words a.general) (codes " ") (general_text a.general) (bare_text (codes " ") refl)) (asked_text a.request))
    (answer_text a.reply)

pub full_text : (words : List ℕ) → IsText words → IsText (in_full words)
full_text words t = many (codes " In full: " ++ words) (codes ".") (many (codes " In full: ") words (bare_text (codes " In full: ") refl) t) (bare_text (codes ".") refl)

pub shown_text : (a : Access) → IsText (shown_words a)
shown_text a =
    cond_both (is_copy a.request) [] (answer_words a.reply) (λ xs. IsText (asked_words a.request ++ xs)) (λ _. many (asked_words a.request) [] (asked_text a.request) no_text)
    (λ _. many (asked_words a.request) (answer_words a.reply) (asked_text a.request) (answer_text a.reply))

role_text : (commander traitor : Bool) → IsText (role_words commander traitor)
role_text true true = bare_text (codes "commander, traitor") refl
role_text true false = bare_text (codes "commander, loyal") refl
role_text false true = bare_text (codes "lieutenant, traitor") refl
role_text false false = bare_text (codes "lieutenant, loyal") refl

pub round_text : (round : ℕ) → IsText (round_words round)
unfolding round_words
round_text round = numbered (codes "round ") round (bare_text (codes "round ") refl)

decides_text : (order : ℕ) → IsText (decides_words order)
unfolding decides_words
decides_text order = numbered (codes "decides ") order (bare_text (codes "decides ") refl)

sort_text : (b : Bool) → IsText (sort_of b)
sort_text true = bare_text (codes "traitor") refl
sort_text false = bare_text (codes "loyal") refl

shape_text : (b : Bool) → IsText (shape_of b)
shape_text true = bare_text (codes "M-6-6h12v12h-12z") refl
shape_text false = bare_text (codes "M0-6a6 6 0 0 1 0 12a6 6 0 0 1 0-12z") refl

pub alike_text : (b : Bool) → IsText (alike_words b)
alike_text true = bare_text (codes "The loyal lieutenants decide alike.") refl
alike_text false = bare_text (codes "The loyal lieutenants do not decide alike.") refl

pub obeyed_text : (o : Option Bool) → IsText (obeyed_words o)
obeyed_text (Some true) = bare_text (codes "They obey the loyal commander.") refl
obeyed_text (Some false) = bare_text (codes "They do not obey the loyal commander.") refl
obeyed_text None = bare_text (codes "The commander is a traitor, so nobody has to obey him.") refl

bound_text : (b : Bool) → IsText (bound_words b)
bound_text true = bare_text (codes "The bound holds: there are few enough traitors.") refl
bound_text false = bare_text (codes "The bound does not hold: too few generals or too many traitors. No promise.") refl

pub campaign_text : (n m c order : ℕ) → IsText (campaign_words n m c order)
unfolding campaign_words
campaign_text n m c order =
    many (decimal n) (codes " generals, traitors provided for: " ++ (decimal m ++ (codes "; commander " ++ (decimal c ++ (codes " was given order " ++ decimal order))))) (decimal_text n)
    (many (codes " generals, traitors provided for: ") (decimal m ++ (codes "; commander " ++ (decimal c ++ (codes " was given order " ++ decimal order)))) (bare_text (codes " generals, traitors provided for: ") refl)
    (many (decimal m) (codes "; commander " ++ (decimal c ++ (codes " was given order " ++ decimal order))) (decimal_text m)
    (many (codes "; commander ") (decimal c ++ (codes " was given order " ++ decimal order)) (bare_text (codes "; commander ") refl)
    (many (decimal c) (codes " was given order " ++ decimal order) (decimal_text c) (numbered (codes " was given order ") order (bare_text (codes " was given order ") refl))))))

-- ---- elements

pub bare_tag : (name : List ℕ) → is_name name ≡ true → IsTag name []
bare_tag name h = record { named = h; names = []; attributed_so = no_attributes }

pub feed : IsContent (codes "\n")
feed = text (codes "\n") (bare_text (codes "\n") refl)

pub fed : (cs : List ℕ) → IsContent cs → IsContent (cs ++ codes "\n")
fed cs c = joined cs (codes "\n") c feed

pub all : {A : Type 0} (f : A → List ℕ) (xs : List A) → ((x : A) → IsContent (f x)) → IsContent (flat_map f xs)
all f [] h = text [] no_text
all f (x ∷ xs) h = joined (f x) (flat_map f xs) (h x) (all f xs h)

abbrev text_attributes : List ℕ → List ℕ → List ℕ → List ℕ
text_attributes class x y = attribute (codes "class") class ++ (attribute (codes "x") x ++ (attribute (codes "y") y ++ []))

text_tag : (class x y : List ℕ) → IsText class → IsText x → IsText y → IsTag (codes "text") (text_attributes class x y)
text_tag class x y c t u = record {
  named = refl;
  names = codes "class" ∷ codes "x" ∷ codes "y" ∷ [];
  attributed_so = attributed (codes "class") class (attribute (codes "x") x ++ (attribute (codes "y") y ++ [])) (codes "x" ∷ codes "y" ∷ []) refl c refl
      (attributed (codes "x") x (attribute (codes "y") y ++ []) (codes "y" ∷ []) refl t refl (attributed (codes "y") y [] [] refl u refl no_attributes));
}

text_parts : (s p1 class q p2 x p3 y g words close feed : List ℕ)
    → ((s ++ p1) ++ (class ++ ((q ++ p2) ++ (x ++ ((q ++ p3) ++ (y ++ (q ++ g))))))) ++ words ++ (close ++ feed)
    ≡ ((s ++ ((p1 ++ class ++ q) ++ ((p2 ++ x ++ q) ++ ((p3 ++ y ++ q) ++ []))) ++ g) ++ words ++ close) ++ feed
text_parts s p1 class q p2 x p3 y g words close feed = simp (append_assoc, append-nil)

text_whole : (class x y words : List ℕ)
    → (codes "<text class=\"" ++ (class ++ (codes "\" x=\"" ++ (x ++ (codes "\" y=\"" ++ (y ++ codes "\">")))))) ++ words ++ codes "</text>\n"
    ≡ element (codes "text") (text_attributes class x y) words ++ codes "\n"
text_whole class x y words = text_parts (codes "<text") (codes " class=\"") class (codes "\"") (codes " x=\"") x (codes " y=\"") y (codes ">") words (codes "</text>") (codes "\n")

pub text_content : (class : List ℕ) (x y : ℕ) (words : List ℕ) → IsText class → IsText words → IsContent (text_at class x y words)
unfolding text_start
text_content class x y words c t =
    subst IsContent (sym (text_whole class (decimal x) (decimal y) words))
    (fed (element (codes "text") (text_attributes class (decimal x) (decimal y)) words)
    (nested (codes "text") (text_attributes class (decimal x) (decimal y)) words (text_tag class (decimal x) (decimal y) c (decimal_text x) (decimal_text y)) (text words t)))

abbrev path_attributes : List ℕ → List ℕ → List ℕ
path_attributes class way = attribute (codes "class") class ++ (attribute (codes "d") way ++ [])

path_tag : (class way : List ℕ) → IsText class → IsText way → IsTag (codes "path") (path_attributes class way)
path_tag class way c w = record {
  named = refl;
  names = codes "class" ∷ codes "d" ∷ [];
  attributed_so = attributed (codes "class") class (attribute (codes "d") way ++ []) (codes "d" ∷ []) refl c refl (attributed (codes "d") way [] [] refl w refl no_attributes);
}

abbrev way_of : List ℕ → List ℕ → List ℕ → List ℕ → List ℕ
way_of x y u v = codes "M" ++ (x ++ (codes " " ++ (y ++ (codes "L" ++ (u ++ (codes " " ++ v))))))

way_text : (x y u v : ℕ) → IsText (way_of (decimal x) (decimal y) (decimal u) (decimal v))
way_text x y u v =
    many (codes "M") (decimal x ++ (codes " " ++ (decimal y ++ (codes "L" ++ (decimal u ++ (codes " " ++ decimal v)))))) (bare_text (codes "M") refl)
    (many (decimal x) (codes " " ++ (decimal y ++ (codes "L" ++ (decimal u ++ (codes " " ++ decimal v))))) (decimal_text x)
    (many (codes " ") (decimal y ++ (codes "L" ++ (decimal u ++ (codes " " ++ decimal v)))) (bare_text (codes " ") refl)
    (many (decimal y) (codes "L" ++ (decimal u ++ (codes " " ++ decimal v))) (decimal_text y)
    (many (codes "L") (decimal u ++ (codes " " ++ decimal v)) (bare_text (codes "L") refl)
    (many (decimal u) (codes " " ++ decimal v) (decimal_text u) (numbered (codes " ") v (bare_text (codes " ") refl)))))))

line_parts : (s p1 class q p2 m x b y l u v g feed : List ℕ)
    → (s ++ p1) ++ (class ++ ((q ++ p2 ++ m) ++ (x ++ (b ++ (y ++ (l ++ (u ++ (b ++ (v ++ (q ++ g ++ feed))))))))))
    ≡ (s ++ ((p1 ++ class ++ q) ++ ((p2 ++ (m ++ (x ++ (b ++ (y ++ (l ++ (u ++ (b ++ v))))))) ++ q) ++ [])) ++ g) ++ feed
line_parts s p1 class q p2 m x b y l u v g feed = simp (append_assoc, append-nil)

line_whole : (class x y u v : List ℕ)
    → codes "<path class=\"" ++ (class ++ (codes "\" d=\"M" ++ (x ++ (codes " " ++ (y ++ (codes "L" ++ (u ++ (codes " " ++ (v ++ codes "\"/>\n")))))))))
    ≡ empty (codes "path") (path_attributes class (way_of x y u v)) ++ codes "\n"
line_whole class x y u v = line_parts (codes "<path") (codes " class=\"") class (codes "\"") (codes " d=\"") (codes "M") x (codes " ") y (codes "L") u v (codes "/>") (codes "\n")

pub line_content : (class : List ℕ) (x y u v : ℕ) → IsText class → IsContent (line class x y u v)
unfolding line
line_content class x y u v c =
    let way : List ℕ = way_of (decimal x) (decimal y) (decimal u) (decimal v) in
    subst IsContent (sym (line_whole class (decimal x) (decimal y) (decimal u) (decimal v)))
    (fed (empty (codes "path") (path_attributes class way)) (alone (codes "path") (path_attributes class way) (path_tag class way c (way_text x y u v))))

mark_parts : (s p1 k sort q p2 way g feed : List ℕ)
    → (s ++ p1 ++ k) ++ (sort ++ ((q ++ p2) ++ (way ++ (q ++ g ++ feed)))) ≡ (s ++ ((p1 ++ (k ++ sort) ++ q) ++ ((p2 ++ way ++ q) ++ [])) ++ g) ++ feed
mark_parts s p1 k sort q p2 way g feed = simp (append_assoc, append-nil)

mark_whole : (sort way : List ℕ)
    → codes "<path class=\"mark " ++ (sort ++ (codes "\" d=\"" ++ (way ++ codes "\"/>\n"))) ≡ empty (codes "path") (path_attributes (codes "mark " ++ sort) way) ++ codes "\n"
mark_whole sort way = mark_parts (codes "<path") (codes " class=\"") (codes "mark ") sort (codes "\"") (codes " d=\"") way (codes "/>") (codes "\n")

pub mark_content : (kind outline : List ℕ) → IsText kind → IsText outline → IsContent (mark kind outline)
unfolding mark
mark_content kind outline k o =
    subst IsContent (sym (mark_whole kind outline))
    (fed (empty (codes "path") (path_attributes (codes "mark " ++ kind) outline))
    (alone (codes "path") (path_attributes (codes "mark " ++ kind) outline) (path_tag (codes "mark " ++ kind) outline (many (codes "mark ") kind (bare_text (codes "mark ") refl) k) o)))

title_parts : (first words close feed : List ℕ) → first ++ words ++ (close ++ feed) ≡ (first ++ words ++ close) ++ feed
title_parts first words close feed = simp append_assoc

title_whole : (words : List ℕ) → codes "<title>" ++ words ++ codes "</title>\n" ≡ element (codes "title") [] words ++ codes "\n"
title_whole words = title_parts (codes "<title>") words (codes "</title>") (codes "\n")

pub title_content : (words : List ℕ) → IsText words → IsContent (title words)
title_content words t =
    subst IsContent (sym (title_whole words)) (fed (element (codes "title") [] words) (nested (codes "title") [] words (bare_tag (codes "title") refl) (text words t)))

abbrev stroke_attributes : List ℕ → List ℕ → List ℕ → List ℕ
stroke_attributes class width way = attribute (codes "class") class ++ (attribute (codes "stroke-width") width ++ (attribute (codes "d") way ++ []))

stroke_tag : (class width way : List ℕ) → IsText class → IsText width → IsText way → IsTag (codes "path") (stroke_attributes class width way)
stroke_tag class width way c t w = record {
  named = refl;
  names = codes "class" ∷ codes "stroke-width" ∷ codes "d" ∷ [];
  attributed_so = attributed (codes "class") class (attribute (codes "stroke-width") width ++ (attribute (codes "d") way ++ [])) (codes "stroke-width" ∷ codes "d" ∷ []) refl c refl
      (attributed (codes "stroke-width") width (attribute (codes "d") way ++ []) (codes "d" ∷ []) refl t refl (attributed (codes "d") way [] [] refl w refl no_attributes));
}

stroke_parts : (s p1 k sort q p2 wide p3 m x b y l u v g inside close feed : List ℕ)
    → ((s ++ p1 ++ k) ++ (sort ++ ((q ++ p2) ++ (wide ++ (q ++ p3)))) ++ (m ++ (x ++ (b ++ (y ++ (l ++ (u ++ (b ++ (v ++ (q ++ g)))))))))) ++ inside ++ (close ++ feed)
    ≡ ((s ++ ((p1 ++ (k ++ sort) ++ q) ++ ((p2 ++ wide ++ q) ++ ((p3 ++ (m ++ (x ++ (b ++ (y ++ (l ++ (u ++ (b ++ v))))))) ++ q) ++ []))) ++ g) ++ inside ++ close) ++ feed
stroke_parts s p1 k sort q p2 wide p3 m x b y l u v g inside close feed = simp (append_assoc, append-nil)

stroke_whole : (sort wide x y u v inside : List ℕ)
    → (codes "<path class=\"stroke " ++ (sort ++ (codes "\" stroke-width=\"" ++ (wide ++ codes "\" d=\"")))
    ++ (codes "M" ++ (x ++ (codes " " ++ (y ++ (codes "L" ++ (u ++ (codes " " ++ (v ++ codes "\">"))))))))) ++ inside ++ codes "</path>\n"
    ≡ element (codes "path") (stroke_attributes (codes "stroke " ++ sort) wide (way_of x y u v)) inside ++ codes "\n"
stroke_whole sort wide x y u v inside =
    stroke_parts (codes "<path") (codes " class=\"") (codes "stroke ") sort (codes "\"") (codes " stroke-width=\"") wide (codes " d=\"") (codes "M") x (codes " ") y (codes "L") u v (codes ">") inside (codes "</path>") (codes "\n")

pub stroke_content : (kind : List ℕ) (width x y u v : ℕ) (words : List ℕ) → IsText kind → IsText words → IsContent (stroke_at kind width x y u v words)
unfolding stroke_open stroke_way
stroke_content kind width x y u v words k t =
    let way : List ℕ = way_of (decimal x) (decimal y) (decimal u) (decimal v) in
    let class : List ℕ = codes "stroke " ++ kind in
    subst IsContent (sym (stroke_whole kind (decimal width) (decimal x) (decimal y) (decimal u) (decimal v) (title words)))
    (fed (element (codes "path") (stroke_attributes class (decimal width) way) (title words))
    (nested (codes "path") (stroke_attributes class (decimal width) way) (title words)
    (stroke_tag class (decimal width) way (many (codes "stroke ") kind (bare_text (codes "stroke ") refl) k) (decimal_text width) (way_text x y u v)) (title_content words t)))

abbrev bent_of : List ℕ → List ℕ → List ℕ → List ℕ → List ℕ → List ℕ → List ℕ
bent_of x y u v w z = codes "M" ++ (x ++ (codes " " ++ (y ++ (codes "L" ++ (u ++ (codes " " ++ (v ++ (codes "V" ++ (w ++ (codes "H" ++ z))))))))))

bent_text : (x y u v w z : ℕ) → IsText (bent_of (decimal x) (decimal y) (decimal u) (decimal v) (decimal w) (decimal z))
bent_text x y u v w z =
    let last : List ℕ = codes "V" ++ (decimal w ++ (codes "H" ++ decimal z)) in
    let ends : IsText last =
    many (codes "V") (decimal w ++ (codes "H" ++ decimal z)) (bare_text (codes "V") refl)
    (many (decimal w) (codes "H" ++ decimal z) (decimal_text w) (numbered (codes "H") z (bare_text (codes "H") refl))) in
    many (codes "M") (decimal x ++ (codes " " ++ (decimal y ++ (codes "L" ++ (decimal u ++ (codes " " ++ (decimal v ++ last))))))) (bare_text (codes "M") refl)
    (many (decimal x) (codes " " ++ (decimal y ++ (codes "L" ++ (decimal u ++ (codes " " ++ (decimal v ++ last)))))) (decimal_text x)
    (many (codes " ") (decimal y ++ (codes "L" ++ (decimal u ++ (codes " " ++ (decimal v ++ last))))) (bare_text (codes " ") refl)
    (many (decimal y) (codes "L" ++ (decimal u ++ (codes " " ++ (decimal v ++ last)))) (decimal_text y)
    (many (codes "L") (decimal u ++ (codes " " ++ (decimal v ++ last))) (bare_text (codes "L") refl)
    (many (decimal u) (codes " " ++ (decimal v ++ last)) (decimal_text u)
    (many (codes " ") (decimal v ++ last) (bare_text (codes " ") refl) (many (decimal v) last (decimal_text v) ends)))))))

bent_parts : (s p1 k sort q p2 wide p3 m x b y l u v f w h z g inside close feed : List ℕ)
    → ((s ++ p1 ++ k) ++ (sort ++ ((q ++ p2) ++ (wide ++ (q ++ p3)))) ++ (m ++ (x ++ (b ++ (y ++ (l ++ (u ++ (b ++ (v ++ (f ++ (w ++ (h ++ (z ++ (q ++ g)))))))))))))) ++ inside ++ (close ++ feed)
    ≡ ((s ++ ((p1 ++ (k ++ sort) ++ q) ++ ((p2 ++ wide ++ q) ++ ((p3 ++ (m ++ (x ++ (b ++ (y ++ (l ++ (u ++ (b ++ (v ++ (f ++ (w ++ (h ++ z))))))))))) ++ q) ++ []))) ++ g) ++ inside ++ close) ++ feed
bent_parts s p1 k sort q p2 wide p3 m x b y l u v f w h z g inside close feed = simp (append_assoc, append-nil)

bent_whole : (sort wide x y u v w z inside : List ℕ)
    → (codes "<path class=\"stroke " ++ (sort ++ (codes "\" stroke-width=\"" ++ (wide ++ codes "\" d=\"")))
    ++ (codes "M" ++ (x ++ (codes " " ++ (y ++ (codes "L" ++ (u ++ (codes " " ++ (v ++ (codes "V" ++ (w ++ (codes "H" ++ (z ++ codes "\">"))))))))))))) ++ inside ++ codes "</path>\n"
    ≡ element (codes "path") (stroke_attributes (codes "stroke " ++ sort) wide (bent_of x y u v w z)) inside ++ codes "\n"
bent_whole sort wide x y u v w z inside =
    bent_parts (codes "<path") (codes " class=\"") (codes "stroke ") sort (codes "\"") (codes " stroke-width=\"") wide (codes " d=\"") (codes "M") x (codes " ") y (codes "L") u v (codes "V") w (codes "H") z (codes ">") inside (codes "</path>") (codes "\n")

pub bent_content : (kind : List ℕ) (width : ℕ) (path : StrokePath) (words : List ℕ) → IsText kind → IsText words → IsContent (bent_at kind width path words)
unfolding stroke_open bent_way
bent_content kind width p words k t =
    let way : List ℕ = bent_of (decimal p.left) (decimal p.top) (decimal p.lane) (decimal p.turn) (decimal p.row) (decimal p.tip) in
    let class : List ℕ = codes "stroke " ++ kind in
    subst IsContent (sym (bent_whole kind (decimal width) (decimal p.left) (decimal p.top) (decimal p.lane) (decimal p.turn) (decimal p.row) (decimal p.tip) (title words)))
    (fed (element (codes "path") (stroke_attributes class (decimal width) way) (title words))
    (nested (codes "path") (stroke_attributes class (decimal width) way) (title words)
    (stroke_tag class (decimal width) way (many (codes "stroke ") kind (bare_text (codes "stroke ") refl) k) (decimal_text width) (bent_text p.left p.top p.lane p.turn p.row p.tip)) (title_content words t)))

abbrev place_words : List ℕ → List ℕ → List ℕ
place_words x y = codes "translate(" ++ (x ++ (codes " " ++ (y ++ codes ")")))

group_parts : (s p t x b y z q g inside close feed : List ℕ)
    → ((s ++ p ++ t) ++ (x ++ (b ++ (y ++ (z ++ q ++ g ++ feed))))) ++ inside ++ (close ++ feed)
    ≡ ((s ++ ((p ++ (t ++ (x ++ (b ++ (y ++ z)))) ++ q) ++ []) ++ g) ++ (feed ++ inside) ++ close) ++ feed
group_parts s p t x b y z q g inside close feed = simp (append_assoc, append-nil)

group_whole : (x y inside : List ℕ)
    → (codes "<g transform=\"translate(" ++ (x ++ (codes " " ++ (y ++ codes ")\">\n")))) ++ inside ++ codes "</g>\n"
    ≡ element (codes "g") (attribute (codes "transform") (place_words x y) ++ []) (codes "\n" ++ inside) ++ codes "\n"
group_whole x y inside = group_parts (codes "<g") (codes " transform=\"") (codes "translate(") x (codes " ") y (codes ")") (codes "\"") (codes ">") inside (codes "</g>") (codes "\n")

pub group_content : (x y : ℕ) (inside : List ℕ) → IsContent inside → IsContent (group_at x y inside)
unfolding group_start
group_content x y inside c =
    let place : List ℕ = place_words (decimal x) (decimal y) in
    let place_is = many (codes "translate(") (decimal x ++ (codes " " ++ (decimal y ++ codes ")"))) (bare_text (codes "translate(") refl)
    (many (decimal x) (codes " " ++ (decimal y ++ codes ")")) (decimal_text x)
    (many (codes " ") (decimal y ++ codes ")") (bare_text (codes " ") refl) (many (decimal y) (codes ")") (decimal_text y) (bare_text (codes ")") refl)))) in
    subst IsContent (sym (group_whole (decimal x) (decimal y) inside))
    (fed (element (codes "g") (attribute (codes "transform") place ++ []) (codes "\n" ++ inside))
    (nested (codes "g") (attribute (codes "transform") place ++ []) (codes "\n" ++ inside)
    (record { named = refl; names = codes "transform" ∷ []; attributed_so = attributed (codes "transform") place [] [] refl place_is refl no_attributes })
    (joined (codes "\n") inside feed c)))

-- ---- bands

pub small : IsText (codes "small")
small = bare_text (codes "small") refl

life_content : (x h : ℕ) → IsContent (life x h)
life_content x h = line_content (codes "life") x 0 x h (bare_text (codes "life") refl)

board_content : (n : ℕ) (accesses : List Access) (h : ℕ) → IsContent (board_line n accesses h)
board_content n [] h = text [] no_text
board_content n (a ∷ accesses) h = life_content (board n) h

pub lives_content : (n : ℕ) (accesses : List Access) (h : ℕ) → IsContent (lives n accesses h)
lives_content n accesses h =
    joined (board_line n accesses h) (flat_map (general_life h) (range_with_len 0 n)) (board_content n accesses h)
    (all (general_life h) (range_with_len 0 n) (λ g. life_content (column g) h))

point_content : (far : ℕ) (a : Access) → IsContent (point far a)
point_content far a =
    let t : List ℕ = title (access_words a) in
    let l : List ℕ = line (codes "access") 0 0 far 0 in
    let m : List ℕ = mark (codes "point") access_outline in
    joined (t ++ l ++ m) (text_at (codes "small") (far + 12) 4 (shown_words a))
    (joined (t ++ l) m
    (joined t l (title_content (access_words a) (access_text a)) (line_content (codes "access") 0 0 far 0 (bare_text (codes "access") refl)))
    (mark_content (codes "point") access_outline (bare_text (codes "point") refl) access_outline_text))
    (text_content (codes "small") (far + 12) 4 (shown_words a) small (shown_text a))

access_content : (n top round : ℕ) (a : Access) → IsContent (access_at n top round a)
access_content n top round a =
    let far : ℕ = board n - column a.general in
    cond_both (a.round == round) (group_at (column a.general) top (point far a)) [] IsContent (λ _. group_content (column a.general) top (point far a) (point_content far a)) (λ _. text [] no_text)

pub accesses_content : (n : ℕ) (whole : List Access) (round place : ℕ) (rest : List Access) → IsContent (accesses_from n whole round place rest)
unfolding accesses_from
accesses_content n whole round place [] = text [] no_text
accesses_content n whole round place (a ∷ rest) =
    joined (access_at n (access_top whole round place) round a) (accesses_from n whole round (place + 1) rest) (access_content n (access_top whole round place) round a)
    (accesses_content n whole round (place + 1) rest)

drawn_content : (n : ℕ) (accesses : List Access) (round : ℕ) (st : Stroke) → IsContent (drawn n accesses round st)
drawn_content n accesses round st =
    let top : ℕ = fan_top accesses round in
    let below : ℕ = rows_top n accesses round in
    let t : List ℕ = title (stroke_words st) in
    let m : List ℕ = mark (kind st) (outline st) in
    let w : List ℕ = text_at (codes "small") 12 4 (row_words st) in
    cond_both (st.round == round) (stroke_line n top below st ++ row below st) [] IsContent
    (λ _. joined (stroke_line n top below st) (row below st)
    (bent_content (kind st) (min st.labels 5) (path_of n top below st) (stroke_words st) (kind_text st.differs st.told) (stroke_text st))
    (group_content (column st.receiver) (row_top below st.row) (t ++ m ++ w)
    (joined (t ++ m) w (joined t m (title_content (stroke_words st) (stroke_text st)) (mark_content (kind st) (outline st) (kind_text st.differs st.told) (outline_text st.differs st.told)))
    (text_content (codes "small") 12 4 (row_words st) small (row_text st)))))
    (λ _. text [] no_text)

inside_content : (n : ℕ) (strokes : List Stroke) (accesses : List Access) (wide r : ℕ) → IsContent (inside n strokes accesses wide r)
inside_content n strokes accesses wide r =
    let a : List ℕ = line (codes "rule") 16 0 wide 0 in
    let b : List ℕ = text_at (codes "round") 16 24 (round_words r) in
    let c : List ℕ = lives n accesses (height n strokes accesses r) in
    let d : List ℕ = accesses_from n accesses r 0 accesses in
    let e : List ℕ = flat_map (drawn n accesses r) strokes in
    joined (a ++ b ++ c ++ d) e
    (joined (a ++ b ++ c) d
    (joined (a ++ b) c
    (joined a b (line_content (codes "rule") 16 0 wide 0 (bare_text (codes "rule") refl)) (text_content (codes "round") 16 24 (round_words r) (bare_text (codes "round") refl) (round_text r)))
    (lives_content n accesses (height n strokes accesses r)))
    (accesses_content n accesses r 0 accesses))
    (all (drawn n accesses r) strokes (drawn_content n accesses r))

band_content : (n : ℕ) (strokes : List Stroke) (accesses : List Access) (wide before : ℕ) → IsContent (band n strokes accesses wide before)
band_content n strokes accesses wide before =
    group_content 0 (top_of n strokes accesses before) (inside n strokes accesses wide (before + 1)) (inside_content n strokes accesses wide (before + 1))

-- ---- what is not drawn

left_text : (left lies : ℕ) → IsText (left_words left lies)
unfolding left_words
left_text left lies =
    many (codes "and ") (decimal left ++ (codes " more, " ++ (decimal lies ++ codes " dishonest"))) (bare_text (codes "and ") refl)
    (many (decimal left) (codes " more, " ++ (decimal lies ++ codes " dishonest")) (decimal_text left)
    (many (codes " more, ") (decimal lies ++ codes " dishonest") (bare_text (codes " more, ") refl)
    (many (decimal lies) (codes " dishonest") (decimal_text lies) (bare_text (codes " dishonest") refl))))

left_full_text : (p round left lies : ℕ) → IsText (left_in_full p round left lies)
unfolding left_in_full
left_full_text p round left lies =
    let last : List ℕ = codes " of them a loyal general would do otherwise" in
    let four : List ℕ = codes ", not drawn: in " ++ (decimal lies ++ last) in
    let three : List ℕ = codes " more in round " ++ (decimal round ++ four) in
    let two : List ℕ = codes " has " ++ (decimal left ++ three) in
    many (codes "general ") (decimal p ++ two) (bare_text (codes "general ") refl)
    (many (decimal p) two (decimal_text p)
    (many (codes " has ") (decimal left ++ three) (bare_text (codes " has ") refl)
    (many (decimal left) three (decimal_text left)
    (many (codes " more in round ") (decimal round ++ four) (bare_text (codes " more in round ") refl)
    (many (decimal round) four (decimal_text round)
    (many (codes ", not drawn: in ") (decimal lies ++ last) (bare_text (codes ", not drawn: in ") refl)
    (many (decimal lies) last (decimal_text lies) (bare_text last refl))))))))

more_content : (top round p left lies : ℕ) → IsContent (more_at top round p left lies)
more_content top round p left lies =
    let full : List ℕ = left_in_full p round left lies in
    let below : List ℕ = left_words left lies in
    cond_both (left == 0) [] (group_at (column p) top (more_told p round left lies)) IsContent (λ _. text [] no_text)
    (λ _. group_content (column p) top (title full ++ text_at (codes "small") 12 4 below)
    (joined (title full) (text_at (codes "small") 12 4 below) (title_content full (left_full_text p round left lies)) (text_content (codes "small") 12 4 below small (left_text left lies))))

pub mores_content : (n : ℕ) (strokes drawn : List Stroke) (accesses : List Access) (rounds : ℕ) → IsContent (mores n strokes drawn accesses rounds)
mores_content n strokes drawn accesses rounds =
    all (mores_in n strokes drawn accesses) (range_with_len 0 rounds)
    (λ before. all (more_of strokes (more_top n drawn accesses before) (before + 1)) (range_with_len 0 n)
    (λ p. more_content (more_top n drawn accesses before) (before + 1) p (count_by (is_left (before + 1) p) strokes) (count_by (is_left_lie (before + 1) p) strokes)))

-- ---- the foot

pub name : IsText (codes "name")
name = bare_text (codes "name") refl

decided_content : (g : ℕ) (traitor : Bool) (o : Option ℕ) → IsContent (decided_if g traitor o)
decided_content g traitor None = text [] no_text
decided_content g traitor (Some order) =
    let m : List ℕ = mark (sort_of traitor) (shape_of traitor) in
    let w : List ℕ = text_at (codes "name") 12 4 (decides_words order) in
    group_content (column g) 24 (m ++ w)
    (joined m w (mark_content (sort_of traitor) (shape_of traitor) (sort_text traitor) (shape_text traitor)) (text_content (codes "name") 12 4 (decides_words order) name (decides_text order)))

pub decisions_content : (s : Scenario) (ds : List ℕ) → IsContent (decided_all s ds)
decisions_content s ds =
    all (decided s ds) (range_with_len 0 s.generals)
    (λ g. cond_both (g == s.commander) [] (decided_if g (is_traitor s g) (slice_get ds (place_of s.commander g))) IsContent (λ _. text [] no_text)
    (λ _. decided_content g (is_traitor s g) (slice_get ds (place_of s.commander g))))

verdict_content : (v : Verdict) → IsContent (verdict_lines v)
verdict_content v =
    let a : List ℕ = text_at (codes "name") 120 64 (alike_words v.alike) in
    let b : List ℕ = text_at (codes "name") 120 84 (obeyed_words v.obeyed) in
    joined (a ++ b) (text_at (codes "name") 120 104 (bound_words v.bound))
    (joined a b (text_content (codes "name") 120 64 (alike_words v.alike) name (alike_text v.alike)) (text_content (codes "name") 120 84 (obeyed_words v.obeyed) name (obeyed_text v.obeyed)))
    (text_content (codes "name") 120 104 (bound_words v.bound) name (bound_text v.bound))

-- ---- what the marks mean

meaning_content : (y : ℕ) (kind outline words : List ℕ) → IsText kind → IsText outline → IsText words → IsContent (meaning_at y kind outline words)
meaning_content y kind outline words k o w =
    let m : List ℕ = mark kind outline in
    let t : List ℕ = text_at (codes "small") 12 4 words in
    let st : List ℕ = stroke_at kind 2 0 0 45 0 words in
    group_content 120 y (st ++ group_at 52 0 (m ++ t))
    (joined st (group_at 52 0 (m ++ t)) (stroke_content kind 2 0 0 45 0 words k w)
    (group_content 52 0 (m ++ t) (joined m t (mark_content kind outline k o) (text_content (codes "small") 12 4 words small w))))

meaning_if_content : (stands : Bool) (place : ℕ) (kind outline words : List ℕ) → IsText kind → IsText outline → IsText words → IsContent (meaning_if stands place kind outline words)
meaning_if_content true place kind outline words k o w = meaning_content (132 + 20 * place) kind outline words k o w
meaning_if_content false place kind outline words k o w = text [] no_text

shape_if_content : (stands : Bool) (place : ℕ) (kind outline words : List ℕ) → IsText kind → IsText outline → IsText words → IsContent (shape_if stands place kind outline words)
shape_if_content true place kind outline words k o w =
    let m : List ℕ = mark kind outline in
    let t : List ℕ = text_at (codes "small") 12 4 words in
    group_content 172 (132 + 20 * place) (m ++ t) (joined m t (mark_content kind outline k o) (text_content (codes "small") 12 4 words small w))
shape_if_content false place kind outline words k o w = text [] no_text

strokes_content : (marks : DiagramMarks) (told differs missing : List ℕ) → IsText told → IsText differs → IsText missing → IsContent (stroke_meanings marks told differs missing)
strokes_content marks told differs missing a b c =
    let one : List ℕ = meaning_if marks.circle 0 (codes "told key") (outline_of false None) told in
    let two : List ℕ = meaning_if marks.diamond (one_if marks.circle) (codes "lie key") (outline_of true (Some 0)) differs in
    let third : ℕ = one_if marks.circle + one_if marks.diamond in
    joined (one ++ two) (meaning_if marks.cross third (codes "none key") (outline_of true None) missing)
    (joined one two (meaning_if_content marks.circle 0 (codes "told key") (outline_of false None) told (bare_text (codes "told key") refl) (outline_text false None) a)
    (meaning_if_content marks.diamond (one_if marks.circle) (codes "lie key") (outline_of true (Some 0)) differs (bare_text (codes "lie key") refl) (outline_text true (Some 0)) b))
    (meaning_if_content marks.cross third (codes "none key") (outline_of true None) missing (bare_text (codes "none key") refl) (outline_text true None) c)

shapes_content : (marks : DiagramMarks) (place : ℕ) → IsContent (shape_meanings marks place)
shapes_content marks place =
    let second : ℕ = place + one_if marks.square in
    let third : ℕ = place + one_if marks.square + one_if marks.loyal in
    let one : List ℕ = shape_if marks.square place (codes "traitor key") (shape_of true) (codes "a traitor") in
    let two : List ℕ = shape_if marks.loyal second (codes "loyal key") (shape_of false) (codes "a loyal general") in
    joined (one ++ two) (shape_if marks.point third (codes "point key") access_outline (codes "an access to the board"))
    (joined one two (shape_if_content marks.square place (codes "traitor key") (shape_of true) (codes "a traitor") (bare_text (codes "traitor key") refl) (shape_text true) (bare_text (codes "a traitor") refl))
    (shape_if_content marks.loyal second (codes "loyal key") (shape_of false) (codes "a loyal general") (bare_text (codes "loyal key") refl) (shape_text false) (bare_text (codes "a loyal general") refl)))
    (shape_if_content marks.point third (codes "point key") access_outline (codes "an access to the board") (bare_text (codes "point key") refl) access_outline_text (bare_text (codes "an access to the board") refl))

pub legend_of_content : (marks : DiagramMarks) (told differs missing wide : List ℕ) → IsText told → IsText differs → IsText missing → IsText wide → IsContent (legend_of marks told differs missing wide)
legend_of_content marks told differs missing wide a b c d =
    let one : List ℕ = stroke_meanings marks told differs missing in
    let two : List ℕ = shape_meanings marks (stroke_rows marks) in
    joined (one ++ two) (text_at (codes "small") 120 (136 + 20 * rows marks) wide)
    (joined one two (strokes_content marks told differs missing a b c) (shapes_content marks (stroke_rows marks)))
    (text_content (codes "small") 120 (136 + 20 * rows marks) wide small d)

legend_content : (marks : DiagramMarks) → IsContent (legend marks)
unfolding told_meaning differs_meaning missing_meaning wide_meaning
legend_content marks =
    legend_of_content marks told_meaning differs_meaning missing_meaning wide_meaning (bare_text told_meaning refl) (bare_text differs_meaning refl)
    (bare_text missing_meaning refl) (bare_text wide_meaning refl)

foot_content : (c : Chronicle) (marks : DiagramMarks) (wide top : ℕ) → IsContent (foot c marks wide top)
foot_content c marks wide top =
    let a : List ℕ = line (codes "rule") 16 0 wide 0 in
    let b : List ℕ = text_at (codes "round") 16 28 (codes "decisions") in
    let d : List ℕ = decided_all c.scenario c.decisions in
    group_content 0 top (a ++ b ++ d ++ verdict_lines c.verdict ++ legend marks)
    (joined (a ++ b ++ d ++ verdict_lines c.verdict) (legend marks)
    (joined (a ++ b ++ d) (verdict_lines c.verdict)
    (joined (a ++ b) d
    (joined a b (line_content (codes "rule") 16 0 wide 0 (bare_text (codes "rule") refl)) (text_content (codes "round") 16 28 (codes "decisions") (bare_text (codes "round") refl) (bare_text (codes "decisions") refl)))
    (decisions_content c.scenario c.decisions))
    (verdict_content c.verdict))
    (legend_content marks))

-- ---- the head

abbrev key_words : List ℕ
key_words =
    codes "There is a column for each general, and a band for each round, from above. In a band a line leads "
    ++ codes "down from the sender of an order to its receiver. The width of the line is its number of labels, up to 5. "
    ++ codes "Below, in the column of the receiver, is what he received."

pub said_text : (stands : Bool) (words : List ℕ) → IsText words → IsText (said_if stands words)
unfolding said_if
said_text true words t = t
said_text false words t = no_text

pub three_texts : (a b c : Bool) (x y z : List ℕ) → IsText x → IsText y → IsText z → IsText (said_if a x ++ said_if b y ++ said_if c z)
three_texts a b c x y z tx ty tz = many (said_if a x ++ said_if b y) (said_if c z) (many (said_if a x) (said_if b y) (said_text a x tx) (said_text b y ty)) (said_text c z tz)

stroke_key_text : (marks : DiagramMarks) → IsText (stroke_key marks)
stroke_key_text marks =
    let one : List ℕ = codes " Circle and plain line: as an honest relay sends it." in
    let two : List ℕ = codes " Diamond and dashes: an honest relay would send something else." in
    let three : List ℕ = codes " Cross and dots: nothing was sent, but an order should be sent." in
    three_texts marks.circle marks.diamond marks.cross one two three (bare_text one refl) (bare_text two refl) (bare_text three refl)

pub shape_key_text : (marks : DiagramMarks) → IsText (shape_key marks)
shape_key_text marks =
    let one : List ℕ = codes " Above the lines are the accesses to the board, in its order." in
    let two : List ℕ = codes " Square: a traitor." in
    let three : List ℕ = codes " Circle at a name: a loyal general." in
    three_texts marks.point marks.square marks.loyal one two three (bare_text one refl) (bare_text two refl) (bare_text three refl)

pub cut_text : IsText cut_words
unfolding cut_words
cut_text =
    let first : List ℕ = codes " rows. A longer list begins with the first row of each general in which a " in
    let second : List ℕ = codes "loyal general would do otherwise. The others of this kind follow, and then the rest. Below the list is " in
    let third : List ℕ = codes "the number of rows that are not drawn." in
    many (codes " A list has at most ") (decimal most_rows ++ (first ++ (second ++ third))) (bare_text (codes " A list has at most ") refl)
    (many (decimal most_rows) (first ++ (second ++ third)) (decimal_text most_rows)
    (many first (second ++ third) (bare_text first refl) (many second third (bare_text second refl) (bare_text third refl))))

pub copied_text : (accesses : List Access) → IsText (flat_map copied_words accesses)
copied_text accesses =
    text-flat_map copied_words accesses
    (λ a. cond_both (is_copy a.request) (in_full (access_words a)) [] IsText (λ _. full_text (access_words a) (access_text a)) (λ _. no_text))

description_parts : (first words more close feed : List ℕ) → (first ++ words) ++ more ++ (close ++ feed) ≡ (first ++ (words ++ more) ++ close) ++ feed
description_parts first words more close feed = simp append_assoc

-- a description that begins and goes on with such words
pub described_content : (words more : List ℕ) → IsText words → IsText more → IsContent ((codes "<desc>" ++ words) ++ more ++ key_end)
described_content words more w m =
    subst IsContent (sym (description_parts (codes "<desc>") words more (codes "</desc>") (codes "\n")))
    (fed (element (codes "desc") [] (words ++ more)) (nested (codes "desc") [] (words ++ more) (bare_tag (codes "desc") refl) (text (words ++ more) (many words more w m))))

pub description_whole : (start a b c d end : List ℕ) → start ++ (a ++ b ++ c ++ d) ++ end ≡ start ++ a ++ b ++ c ++ d ++ end
description_whole start a b c d end = simp append_assoc

description_content : (accesses : List Access) (marks : DiagramMarks) (cut : Bool) → IsContent (description accesses marks cut)
unfolding key_start
description_content accesses marks cut =
    let a : List ℕ = stroke_key marks in
    let b : List ℕ = shape_key marks in
    let c : List ℕ = said_if cut cut_words in
    let d : List ℕ = flat_map copied_words accesses in
    subst IsContent (description_whole key_start a b c d key_end)
    (described_content key_words (a ++ b ++ c ++ d) (bare_text key_words refl)
    (many (a ++ b ++ c) d (many (a ++ b) c (many a b (stroke_key_text marks) (shape_key_text marks)) (said_text cut cut_words cut_text)) (copied_text accesses)))

abbrev look_words : List ℕ
look_words =
    codes "svg{background:#fff}text{fill:#111;font:13px sans-serif}.head{font:bold 16px sans-serif}"
    ++ codes ".round{font-weight:bold}.small{font-size:12px}.life{stroke:#8a8a8a}"
    ++ codes ".rule{stroke:#8a8a8a;stroke-dasharray:2 4}.access{stroke:#0b5fa5}"
    ++ codes ".stroke{fill:none;stroke:#111;stroke-opacity:.45}"
    ++ codes ".stroke.lie{stroke:#b00020;stroke-opacity:1;stroke-dasharray:9 4}"
    ++ codes ".stroke.none{stroke:#b00020;stroke-opacity:1;stroke-dasharray:2 5}"
    ++ codes ".mark{fill:#fff;stroke:#111;stroke-width:1.5}.mark.lie{fill:#b00020;stroke:#b00020}"
    ++ codes ".mark.none{fill:none;stroke:#b00020;stroke-width:2.5}.mark.point{fill:#0b5fa5;stroke:#0b5fa5}"
    ++ codes ".mark.traitor{fill:#b00020}@media(prefers-color-scheme:dark){svg{background:#111}text{fill:#eee}"
    ++ codes ".stroke,.mark{stroke:#eee}.mark{fill:#111}.access{stroke:#6cb8f5}"
    ++ codes ".mark.point{fill:#6cb8f5;stroke:#6cb8f5}.stroke.lie,.stroke.none,.mark.none{stroke:#ff8095}"
    ++ codes ".mark.lie{fill:#ff8095;stroke:#ff8095}.mark.traitor{fill:#ff8095}}"

pub look_content : IsContent look
unfolding look
look_content = fed (element (codes "style") [] look_words) (nested (codes "style") [] look_words (bare_tag (codes "style") refl) (text look_words (bare_text look_words refl)))

head_content : (s : Scenario) (accesses : List Access) (marks : DiagramMarks) (cut : Bool) → IsContent (head s accesses marks cut)
head_content s accesses marks cut =
    let w : List ℕ = campaign_words s.generals s.bound s.commander s.order in
    let t : IsText w = campaign_text s.generals s.bound s.commander s.order in
    let d : List ℕ = description accesses marks cut in
    joined (title w ++ d ++ look) (text_at (codes "head") 16 28 w) (joined (title w ++ d) look (joined (title w) d (title_content w t) (description_content accesses marks cut)) look_content)
    (text_content (codes "head") 16 28 w (bare_text (codes "head") refl) t)

general_content : (g : ℕ) (commander traitor : Bool) → IsContent (general_head g commander traitor)
general_content g commander traitor =
    let m : List ℕ = mark (sort_of traitor) (shape_of traitor) in
    let a : List ℕ = text_at (codes "name") 12 4 (general_words g) in
    let b : List ℕ = text_at (codes "small") 12 20 (role_words commander traitor) in
    group_content (column g) 50 (m ++ a ++ b)
    (joined (m ++ a) b
    (joined m a (mark_content (sort_of traitor) (shape_of traitor) (sort_text traitor) (shape_text traitor)) (text_content (codes "name") 12 4 (general_words g) name (general_text g)))
    (text_content (codes "small") 12 20 (role_words commander traitor) small (role_text commander traitor)))

board_head_content : (n : ℕ) (accesses : List Access) → IsContent (board_head n accesses)
board_head_content n [] = text [] no_text
board_head_content n (a ∷ accesses) = text_content (codes "name") (board n) 54 (codes "board") name (bare_text (codes "board") refl)

pub heads_content : (s : Scenario) (accesses : List Access) → IsContent (heads s accesses)
heads_content s accesses =
    joined (board_head s.generals accesses) (flat_map (head_of s) (range_with_len 0 s.generals)) (board_head_content s.generals accesses)
    (all (head_of s) (range_with_len 0 s.generals) (λ g. general_content g (g == s.commander) (is_traitor s g)))

-- ---- the whole

abbrev pub attributes : List ℕ → List ℕ → List ℕ
attributes w h =
    attribute (codes "xmlns") (codes "http://www.w3.org/2000/svg")
    ++ (attribute (codes "role") (codes "graphics-document document") ++ (attribute (codes "width") w ++ (attribute (codes "height") h ++ (attribute (codes "viewBox") (codes "0 0 " ++ (w ++ (codes " " ++ h))) ++ []))))

box_parts : (p1 w q p2 h p3 o b g : List ℕ)
    → p1 ++ (w ++ ((q ++ p2) ++ (h ++ ((q ++ p3 ++ o) ++ (w ++ (b ++ (h ++ (q ++ g))))))))
    ≡ (p1 ++ w ++ q) ++ ((p2 ++ h ++ q) ++ ((p3 ++ (o ++ (w ++ (b ++ h))) ++ q) ++ g))
box_parts p1 w q p2 h p3 o b g = simp append_assoc

box_whole : (w h : List ℕ)
    → codes " width=\"" ++ (w ++ (codes "\" height=\"" ++ (h ++ (codes "\" viewBox=\"0 0 " ++ (w ++ (codes " " ++ (h ++ codes "\">\n")))))))
    ≡ attribute (codes "width") w ++ (attribute (codes "height") h ++ (attribute (codes "viewBox") (codes "0 0 " ++ (w ++ (codes " " ++ h))) ++ codes ">\n"))
box_whole w h = box_parts (codes " width=\"") w (codes "\"") (codes " height=\"") h (codes " viewBox=\"") (codes "0 0 ") (codes " ") (codes ">\n")

tag_parts : (first role wide high box inside close : List ℕ)
    → (first ++ role) ++ (wide ++ (high ++ (box ++ (codes ">" ++ codes "\n")))) ++ inside ++ (close ++ codes "\n")
    ≡ ((first ++ (role ++ (wide ++ (high ++ (box ++ [])))) ++ codes ">") ++ (codes "\n" ++ inside) ++ close) ++ codes "\n"
tag_parts first role wide high box inside close = simp (append_assoc, append-nil)

pub picture_is : (w h : ℕ) (inside : List ℕ) → picture w h inside ≡ element (codes "svg") (attributes (decimal w) (decimal h)) (codes "\n" ++ inside) ++ codes "\n"
unfolding start box_words
picture_is w h inside =
    ap (λ xs. start ++ xs ++ inside ++ codes "</svg>\n") (box_whole (decimal w) (decimal h))
    ∙ (tag_parts (codes "<svg" ++ attribute (codes "xmlns") (codes "http://www.w3.org/2000/svg")) (attribute (codes "role") (codes "graphics-document document")) (attribute (codes "width") (decimal w)) (attribute (codes "height") (decimal h))
    (attribute (codes "viewBox") (codes "0 0 " ++ (decimal w ++ (codes " " ++ decimal h)))) inside (codes "</svg>"))

pub svg_tag : (w h : ℕ) → IsTag (codes "svg") (attributes (decimal w) (decimal h))
svg_tag w h =
    let box = many (codes "0 0 ") (decimal w ++ (codes " " ++ decimal h)) (bare_text (codes "0 0 ") refl) (many (decimal w) (codes " " ++ decimal h) (decimal_text w) (many (codes " ") (decimal h) (bare_text (codes " ") refl) (decimal_text h))) in
    record {
      named = refl;
      names = codes "xmlns" ∷ codes "role" ∷ codes "width" ∷ codes "height" ∷ codes "viewBox" ∷ [];
      attributed_so =
          attributed (codes "xmlns") (codes "http://www.w3.org/2000/svg") _ (codes "role" ∷ codes "width" ∷ codes "height" ∷ codes "viewBox" ∷ []) refl (bare_text (codes "http://www.w3.org/2000/svg") refl) refl
          (attributed (codes "role") (codes "graphics-document document") _ (codes "width" ∷ codes "height" ∷ codes "viewBox" ∷ []) refl (bare_text (codes "graphics-document document") refl) refl
          (attributed (codes "width") (decimal w) _ (codes "height" ∷ codes "viewBox" ∷ []) refl (decimal_text w) refl
          (attributed (codes "height") (decimal h) _ (codes "viewBox" ∷ []) refl (decimal_text h) refl
          (attributed (codes "viewBox") (codes "0 0 " ++ (decimal w ++ (codes " " ++ decimal h))) [] [] refl box refl no_attributes))));
    }

pub proved_diagrams_are_elements : DiagramsAreElements
unfolding svg_text
proved_diagrams_are_elements t c =
    let s : Scenario = c.scenario in
    let strokes : List Stroke = strokes_of t s.order in
    let drawn : List Stroke = with_rows strokes in
    let bottom : ℕ = top_of s.generals drawn c.accesses (s.bound + 1) in
    let wide : ℕ = width s.generals c.accesses in
    let w : ℕ = wide + 16 in
    let marks : DiagramMarks = marks_of s c.accesses drawn in
    let h : ℕ = bottom + foot_height marks in
    let a : List ℕ = head s c.accesses marks (is_cut strokes) in
    let b : List ℕ = heads s c.accesses in
    let d : List ℕ = bands s.generals drawn c.accesses wide (s.bound + 1) in
    let m : List ℕ = mores s.generals strokes drawn c.accesses (s.bound + 1) in
    let e : List ℕ = foot c marks wide bottom in
    let inside : List ℕ = a ++ b ++ d ++ m ++ e in
    let is : IsContent inside =
    joined (a ++ b ++ d ++ m) e
    (joined (a ++ b ++ d) m
    (joined (a ++ b) d (joined a b (head_content s c.accesses marks (is_cut strokes)) (heads_content s c.accesses)) (all (band s.generals drawn c.accesses wide) (range_with_len 0 (s.bound + 1)) (band_content s.generals drawn c.accesses wide)))
    (mores_content s.generals strokes drawn c.accesses (s.bound + 1)))
    (foot_content c marks wide bottom) in (
      element (codes "svg") (attributes (decimal w) (decimal h)) (codes "\n" ++ inside),
      record {
        name = codes "svg";
        attributes = attributes (decimal w) (decimal h);
        content = codes "\n" ++ inside;
        tag = svg_tag w h;
        inside = joined (codes "\n") inside feed is;
        whole = refl;
      },
      picture_is w h inside,
    )
