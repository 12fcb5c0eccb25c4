-- Pictures are elements of XML.
use Rattle.std.proofs.Common.{ℕ, ◌+◌, ◌-◌, ◌*◌, ◌≡◌, List, [], ◌∷◌, ◌++◌, length, Bool, true, false, Option, Some, None, refl, sym, ap, subst, ◌∙◌, append_assoc, append-nil}
use Rattle.std.specs.Prelude.{codes}
use Rattle.std.specs.Fmt.{decimal}
use Rattle.std.specs.List.{range_with_len}
use Rattle.html.specs.Grammar.{IsText, no_text, no_attributes, attributed, IsTag, IsContent, text, nested, alone, joined, is_name}
use Rattle.html.specs.Tags.{attribute, closing, element, empty}
use Rattle.html.proofs.TextLemmas.{bare_text, decimal_text, text-append, text-flat_map}
use Rattle.book.specs.Decisions.{decision_of}
use Rattle.book.specs.Explained.{dotted, order_words}
use Rattle.show_tree.specs.declared.node.Branch.{Branch}
use Rattle.show_tree.specs.declared.node.Branch.TheVariants.{Tee, Corner, Bar, Gap}
use Rattle.show_tree.specs.declared.node.Extent.{Extent}
use Rattle.show_tree.specs.declared.node.Extent.TheVariants.{Last, Open, Folded, Cut}
use Rattle.show_tree.specs.declared.node.Trust.{Trust}
use Rattle.show_tree.specs.declared.node.Trust.TheVariants.{Honest, Traitor, Lie}
use Rattle.show_tree.specs.declared.node.DrawnMarks.{DrawnMarks}
use Rattle.show_tree.specs.declared.node.Node.{Node}
use Rattle.combine.specs.declared.outcome.Outcome.{Outcome}
use Rattle.combine.specs.declared.outcome.Outcome.TheVariants.{Agreed, Divided, Middle}
use Rattle.combine.specs.Outcome.{outcome_head, outcome_order, outcome_words as list_words}
use Rattle.show_tree.specs.Laws.{PicturesAreElements}
use Rattle.show_tree.specs.Legend.{dashed_shape, legend, marks_of, meaning, meaning_if, meaning_words, meanings, one_if, rule, rule_at}
use Rattle.show_tree.specs.Places.{branch_at}
use Rattle.show_tree.specs.Rows.{branch_way, branch_ways, kind, lines_end, lines_start, outcome_class, outline, row, row_end, row_start, rows_from, shape, stub, way, word_text}
use Rattle.show_tree.specs.Shown.{nodes_of}
use Rattle.show_tree.specs.Svg.{breadth, head, heading, inside, key, key_start, look, picture, said_if, shape_words, size, start, svg_text, tallness, title, view_box}
use Rattle.show_tree.specs.Words.{counted_words, extent_words, mark_words, outcome_words, said, told_words, words}

-- ---- words

many : (a b : List ℕ) → IsText a → IsText b → IsText (a ++ b)
many a b s t = text-append b s t

order_text : (o : Option ℕ) → IsText (order_words o)
order_text None = bare_text (codes "nothing") refl
order_text (Some order) = decimal_text order

dotted_text : (w : List ℕ) → IsText (dotted w)
dotted_text [] = no_text
dotted_text (g ∷ gs) = many _ _ (decimal_text g) (text-flat_map (λ h. codes "." ++ decimal h) gs (λ h. many (codes ".") (decimal h) (bare_text (codes ".") refl) (decimal_text h)))

abbrev stop : List ℕ
stop = codes "; "

stop_text : IsText stop
stop_text = bare_text stop refl

head_text : (o : Outcome) → IsText (outcome_head o)
head_text (Agreed order) = bare_text (codes "majority ") refl
head_text (Divided order) = bare_text (codes "no majority, so ") refl
head_text (Middle order) = bare_text (codes "median ") refl

outcome_text : (o : Option Outcome) → IsText (outcome_words stop o)
outcome_text None = no_text
outcome_text (Some o) = many stop (list_words o) stop_text (many (outcome_head o) (decimal (outcome_order o)) (head_text o) (decimal_text (outcome_order o)))

mark_text : (m : Trust) → IsText (mark_words stop m)
mark_text Honest = no_text
mark_text Traitor = bare_text (stop ++ codes "by a traitor") refl
mark_text (Lie general took) =
    many (stop ++ codes "a lie, " ++ decimal general ++ codes " took ") (decimal took)
    (many (stop ++ codes "a lie, " ++ decimal general) (codes " took ") (many (stop ++ codes "a lie, ") (decimal general) (bare_text (stop ++ codes "a lie, ") refl) (decimal_text general)) (bare_text (codes " took ") refl))
    (decimal_text took)

extent_text : (e : Extent) → IsText (extent_words stop e)
extent_text Last = no_text
extent_text Open = no_text
extent_text (Folded count) = many (stop ++ decimal count) (codes " below received the same") (many stop (decimal count) stop_text (decimal_text count)) (bare_text (codes " below received the same") refl)
extent_text (Cut count) = many (stop ++ decimal count) (codes " below not shown") (many stop (decimal count) stop_text (decimal_text count)) (bare_text (codes " below not shown") refl)

told_text : (o : Option ℕ) → IsText (told_words o)
told_text o = many (codes "received ") (order_words o) (bare_text (codes "received ") refl) (order_text o)

counted_text : (o : Option Outcome) (told : Option ℕ) → IsText (counted_words o told)
counted_text None None = bare_text (codes ", so 0") refl
counted_text None (Some order) = no_text
counted_text (Some o) told = no_text

words_text : (node : Node) → IsText (words stop node)
words_text node =
    let told : List ℕ = told_words node.told ++ counted_words node.outcome node.told in
    many (told ++ outcome_words stop node.outcome ++ mark_words stop node.mark) (extent_words stop node.extent)
    (many (told ++ outcome_words stop node.outcome) (mark_words stop node.mark)
    (many told (outcome_words stop node.outcome) (many (told_words node.told) (counted_words node.outcome node.told) (told_text node.told) (counted_text node.outcome node.told)) (outcome_text node.outcome))
    (mark_text node.mark))
    (extent_text node.extent)

said_text : (node : Node) → IsText (said node)
said_text node = many (dotted node.label ++ codes ": ") (words stop node) (many (dotted node.label) (codes ": ") (dotted_text node.label) (bare_text (codes ": ") refl)) (words_text node)

-- ---- rows

way_text : (left : ℕ) (steps : List ℕ) → IsText steps → IsText (way left steps)
unfolding way
way_text left steps t = many (codes "M") (decimal left ++ steps) (bare_text (codes "M") refl) (many (decimal left) steps (decimal_text left) t)

branch_text : (left : ℕ) (b : Branch) → IsText (branch_way left b)
branch_text left Tee = way_text left (codes " 0v24m0-12h22") (bare_text (codes " 0v24m0-12h22") refl)
branch_text left Corner = way_text left (codes " 0v12h22") (bare_text (codes " 0v12h22") refl)
branch_text left Bar = way_text left (codes " 0v24") (bare_text (codes " 0v24") refl)
branch_text left Gap = no_text

ways_text : (n p : ℕ) (w : List ℕ) → IsText (branch_ways n p w)
ways_text n p w = text-flat_map (λ i. branch_way (28 * i) (branch_at n p w i)) (range_with_len 0 (length w - 1)) (λ i. branch_text (28 * i) (branch_at n p w i))

stub_text : (left : ℕ) (e : Extent) → IsText (stub left e)
unfolding stub
stub_text left Open = way_text left (codes " 18v6") (bare_text (codes " 18v6") refl)
stub_text left Last = no_text
stub_text left (Folded count) = no_text
stub_text left (Cut count) = no_text

kind_text : (m : Trust) → IsText (kind m)
kind_text Honest = bare_text (codes "told") refl
kind_text Traitor = bare_text (codes "word") refl
kind_text (Lie general took) = bare_text (codes "lie") refl

class_text : (o : Option Outcome) → IsText (outcome_class o)
class_text None = no_text
class_text (Some (Agreed order)) = no_text
class_text (Some (Divided order)) = bare_text (codes " split") refl
class_text (Some (Middle order)) = no_text

outline_text : (m : Trust) → IsText (outline m)
outline_text Honest = bare_text (codes " 6a6 6 0 0 1 0 12a6 6 0 0 1 0-12z") refl
outline_text Traitor = bare_text (codes " 6h6v12h-12v-12z") refl
outline_text (Lie general took) = bare_text (codes " 4l8 8l-8 8l-8-8z") refl

-- a tag of a path: its class, and its way
path_tag : (class way : List ℕ) → IsText class → IsText way → IsTag (codes "path") (attribute (codes "class") class ++ (attribute (codes "d") way ++ []))
path_tag class way c w = record {
  named = refl;
  names = codes "class" ∷ codes "d" ∷ [];
  attributed_so = attributed (codes "class") class (attribute (codes "d") way ++ []) (codes "d" ∷ []) refl c refl (attributed (codes "d") way [] [] refl w refl no_attributes);
}

text_tag : (x y : List ℕ) → IsText x → IsText y → IsTag (codes "text") (attribute (codes "x") x ++ (attribute (codes "y") y ++ []))
text_tag x y t u = record {
  named = refl;
  names = codes "x" ∷ codes "y" ∷ [];
  attributed_so = attributed (codes "x") x (attribute (codes "y") y ++ []) (codes "y" ∷ []) refl t refl (attributed (codes "y") y [] [] refl u refl no_attributes);
}

group_tag : (place : List ℕ) → IsText place → IsTag (codes "g") (attribute (codes "transform") place ++ [])
group_tag place t = record { named = refl; names = codes "transform" ∷ []; attributed_so = attributed (codes "transform") place [] [] refl t refl no_attributes }

bare_tag : (name : List ℕ) → is_name name ≡ true → IsTag name []
bare_tag name h = record { named = h; names = []; attributed_so = no_attributes }

abbrev place_of : ℕ → List ℕ
place_of place = codes "translate(16 " ++ (decimal (36 + 24 * place) ++ codes ")")

abbrev lines_of : List ℕ → List ℕ
lines_of ways = empty (codes "path") (attribute (codes "class") (codes "line") ++ (attribute (codes "d") ways ++ []))

abbrev shape_of : List ℕ → List ℕ → List ℕ
shape_of class way = empty (codes "path") (attribute (codes "class") class ++ (attribute (codes "d") way ++ []))

abbrev word_of : List ℕ → List ℕ → List ℕ
word_of x said = element (codes "text") (attribute (codes "x") x ++ (attribute (codes "y") (codes "17") ++ [])) said

abbrev group_of : List ℕ → List ℕ → List ℕ
group_of place content = element (codes "g") (attribute (codes "transform") place ++ []) content

-- six texts, one behind the other
six : (a b c d e f : List ℕ) → a ++ (b ++ (c ++ (d ++ (e ++ f)))) ≡ a ++ b ++ c ++ d ++ e ++ f
six a b c d e f = simp append_assoc

-- the texts of a row are those elements
lines_whole : (ways : List ℕ) → lines_start ++ (ways ++ lines_end) ≡ lines_of ways
unfolding lines_start lines_end
lines_whole ways = simp append_assoc

shape_whole : (sort class left edge : List ℕ) → codes "<path class=\"" ++ (sort ++ (class ++ (codes "\" d=\"M" ++ (left ++ (edge ++ codes "\"/>"))))) ≡ shape_of (sort ++ class) (codes "M" ++ (left ++ edge))
shape_whole sort class left edge = simp append_assoc

word_whole : (x saying : List ℕ) → codes "<text x=\"" ++ (x ++ (codes "\" y=\"17\">" ++ (saying ++ codes "</text>"))) ≡ word_of x saying
word_whole x saying = ap (λ xs. codes "<text x=\"" ++ xs) (six x (codes "\"") (attribute (codes "y") (codes "17") ++ []) (codes ">") saying (closing (codes "text")))

group_whole : (number content : List ℕ) → (codes "<g transform=\"translate(16 " ++ (number ++ codes ")\">")) ++ (content ++ codes "</g>") ≡ group_of (codes "translate(16 " ++ (number ++ codes ")")) content
group_whole number content = simp append_assoc

-- and the row is these, one within the other
parts : (first lines ways below closes shapes saying end feed : List ℕ)
    → first ++ lines ++ ways ++ below ++ closes ++ shapes ++ saying ++ (end ++ feed) ≡ (first ++ (((lines ++ ((ways ++ below) ++ closes)) ++ (shapes ++ saying)) ++ end)) ++ feed
parts first lines ways below closes shapes saying end feed = simp append_assoc

row_whole : (n p place : ℕ) (node : Node)
    → row n p place node
    ≡ group_of (place_of place) (lines_of (branch_ways n p node.label ++ stub (28 * (length node.label - 1)) node.extent)
    ++ (shape_of (kind node.mark ++ outcome_class node.outcome) (codes "M" ++ (decimal (28 * (length node.label - 1)) ++ outline node.mark)) ++ word_of (decimal (28 * (length node.label - 1) + 14)) (said node))) ++ codes "\n"
unfolding row_start shape word_text row_end
row_whole n p place node =
    let left : ℕ = 28 * (length node.label - 1) in
    let ways : List ℕ = branch_ways n p node.label in
    let below : List ℕ = stub left node.extent in
    let shapes : List ℕ = shape left node.mark node.outcome in
    let saying : List ℕ = word_text (left + 14) node in
    parts (row_start place) lines_start ways below lines_end shapes saying (codes "</g>") (codes "\n")
    ∙ (ap (λ xs. (row_start place ++ ((xs ++ (shapes ++ saying)) ++ codes "</g>")) ++ codes "\n") (lines_whole (ways ++ below))
    ∙ (ap (λ xs. (row_start place ++ ((lines_of (ways ++ below) ++ (xs ++ saying)) ++ codes "</g>")) ++ codes "\n") (shape_whole (kind node.mark) (outcome_class node.outcome) (decimal left) (outline node.mark))
    ∙ (ap (λ xs. (row_start place ++ ((lines_of (ways ++ below) ++ (shape_of (kind node.mark ++ outcome_class node.outcome) (codes "M" ++ (decimal left ++ outline node.mark)) ++ xs)) ++ codes "</g>")) ++ codes "\n") (word_whole (decimal (left + 14)) (said node))
    ∙ ap (λ xs. xs ++ codes "\n") (group_whole (decimal (36 + 24 * place)) (lines_of (ways ++ below) ++ (shape_of (kind node.mark ++ outcome_class node.outcome) (codes "M" ++ (decimal left ++ outline node.mark)) ++ word_of (decimal (left + 14)) (said node)))))))

row_content : (n p place : ℕ) (node : Node) → IsContent (row n p place node)
row_content n p place node =
    let left : ℕ = 28 * (length node.label - 1) in
    let ways : List ℕ = branch_ways n p node.label in
    let lines = alone (codes "path") (attribute (codes "class") (codes "line") ++ (attribute (codes "d") (ways ++ stub left node.extent) ++ [])) (path_tag (codes "line") (ways ++ stub left node.extent) (bare_text (codes "line") refl) (many ways (stub left node.extent) (ways_text n p node.label) (stub_text left node.extent))) in
    let outline_way : List ℕ = codes "M" ++ (decimal left ++ outline node.mark) in
    let way_is = many (codes "M") (decimal left ++ outline node.mark) (bare_text (codes "M") refl) (many (decimal left) (outline node.mark) (decimal_text left) (outline_text node.mark)) in
    let class_is = many (kind node.mark) (outcome_class node.outcome) (kind_text node.mark) (class_text node.outcome) in
    let shapes = alone (codes "path") (attribute (codes "class") (kind node.mark ++ outcome_class node.outcome) ++ (attribute (codes "d") outline_way ++ [])) (path_tag (kind node.mark ++ outcome_class node.outcome) outline_way class_is way_is) in
    let word = nested (codes "text") (attribute (codes "x") (decimal (left + 14)) ++ (attribute (codes "y") (codes "17") ++ [])) (said node) (text_tag (decimal (left + 14)) (codes "17") (decimal_text (left + 14)) (bare_text (codes "17") refl)) (text (said node) (said_text node)) in
    let inside = joined (lines_of (ways ++ stub left node.extent)) (shape_of (kind node.mark ++ outcome_class node.outcome) outline_way ++ word_of (decimal (left + 14)) (said node)) lines (joined (shape_of (kind node.mark ++ outcome_class node.outcome) outline_way) (word_of (decimal (left + 14)) (said node)) shapes word) in
    let place_is = many (codes "translate(16 ") (decimal (36 + 24 * place) ++ codes ")") (bare_text (codes "translate(16 ") refl) (many (decimal (36 + 24 * place)) (codes ")") (decimal_text (36 + 24 * place)) (bare_text (codes ")") refl)) in
    let group = nested (codes "g") (attribute (codes "transform") (place_of place) ++ []) (lines_of (ways ++ stub left node.extent) ++ (shape_of (kind node.mark ++ outcome_class node.outcome) outline_way ++ word_of (decimal (left + 14)) (said node))) (group_tag (place_of place) place_is) inside in
    subst IsContent (sym (row_whole n p place node))
    (joined (group_of (place_of place) (lines_of (ways ++ stub left node.extent) ++ (shape_of (kind node.mark ++ outcome_class node.outcome) outline_way ++ word_of (decimal (left + 14)) (said node)))) (codes "\n") group (text (codes "\n") (bare_text (codes "\n") refl)))

rows_content : (n p place : ℕ) (nodes : List Node) → IsContent (rows_from n p place nodes)
unfolding rows_from
rows_content n p place [] = text [] no_text
rows_content n p place (node ∷ nodes) = joined (row n p place node) (rows_from n p (place + 1) nodes) (row_content n p place node) (rows_content n p (place + 1) nodes)

-- ---- what the shapes mean

abbrev words_at : List ℕ → List ℕ → List ℕ
words_at y words = element (codes "text") (attribute (codes "x") (codes "14") ++ (attribute (codes "y") y ++ [])) words

shape_content : (class way : List ℕ) → IsText class → IsText way → IsContent (shape_of class way)
shape_content class way c w = alone (codes "path") (attribute (codes "class") class ++ (attribute (codes "d") way ++ [])) (path_tag class way c w)

words_content : (y words : List ℕ) → IsText y → IsText words → IsContent (words_at y words)
words_content y words t u = nested (codes "text") (attribute (codes "x") (codes "14") ++ (attribute (codes "y") y ++ [])) words (text_tag (codes "14") y (bare_text (codes "14") refl) t) (text words u)

abbrev row_of : ℕ → Trust → Option Outcome → List ℕ → List ℕ
row_of place mark outcome words = group_of (place_of place) (shape_of (kind mark ++ outcome_class outcome) (codes "M" ++ (decimal 0 ++ outline mark)) ++ words_at (codes "17") words)

meaning_parts : (first shapes saying end feed : List ℕ) → first ++ shapes ++ saying ++ (end ++ feed) ≡ (first ++ ((shapes ++ saying) ++ end)) ++ feed
meaning_parts first shapes saying end feed = simp append_assoc

meaning_whole : (place : ℕ) (mark : Trust) (outcome : Option Outcome) (words : List ℕ) → meaning place mark outcome words ≡ row_of place mark outcome words ++ codes "\n"
unfolding row_start shape meaning_words row_end
meaning_whole place mark outcome words =
    let shapes : List ℕ = shape 0 mark outcome in
    let saying : List ℕ = meaning_words words in
    let drawn : List ℕ = shape_of (kind mark ++ outcome_class outcome) (codes "M" ++ (decimal 0 ++ outline mark)) in
    meaning_parts (row_start place) shapes saying (codes "</g>") (codes "\n")
    ∙ (ap (λ xs. (row_start place ++ ((xs ++ saying) ++ codes "</g>")) ++ codes "\n") (shape_whole (kind mark) (outcome_class outcome) (decimal 0) (outline mark))
    ∙ (ap (λ xs. (row_start place ++ ((drawn ++ xs) ++ codes "</g>")) ++ codes "\n") (word_whole (codes "14") words)
    ∙ ap (λ xs. xs ++ codes "\n") (group_whole (decimal (36 + 24 * place)) (drawn ++ words_at (codes "17") words))))

place_text : (place : ℕ) → IsText (place_of place)
place_text place =
    many (codes "translate(16 ") (decimal (36 + 24 * place) ++ codes ")") (bare_text (codes "translate(16 ") refl) (many (decimal (36 + 24 * place)) (codes ")") (decimal_text (36 + 24 * place)) (bare_text (codes ")") refl))

meaning_content : (place : ℕ) (mark : Trust) (outcome : Option Outcome) (words : List ℕ) → IsText words → IsContent (meaning place mark outcome words)
meaning_content place mark outcome words t =
    let class : List ℕ = kind mark ++ outcome_class outcome in
    let way : List ℕ = codes "M" ++ (decimal 0 ++ outline mark) in
    let class_is = many (kind mark) (outcome_class outcome) (kind_text mark) (class_text outcome) in
    let way_is = many (codes "M") (decimal 0 ++ outline mark) (bare_text (codes "M") refl) (many (decimal 0) (outline mark) (decimal_text 0) (outline_text mark)) in
    let inside = joined (shape_of class way) (words_at (codes "17") words) (shape_content class way class_is way_is) (words_content (codes "17") words (bare_text (codes "17") refl) t) in
    subst IsContent (sym (meaning_whole place mark outcome words))
    (joined (row_of place mark outcome words) (codes "\n")
    (nested (codes "g") (attribute (codes "transform") (place_of place) ++ []) (shape_of class way ++ words_at (codes "17") words) (group_tag (place_of place) (place_text place)) inside)
    (text (codes "\n") (bare_text (codes "\n") refl)))

meaning_if_content : (stands : Bool) (place : ℕ) (mark : Trust) (outcome : Option Outcome) (words : List ℕ) → IsText words → IsContent (meaning_if stands place mark outcome words)
meaning_if_content true place mark outcome words t = meaning_content place mark outcome words t
meaning_if_content false place mark outcome words t = text [] no_text

meanings_content : (marks : DrawnMarks) (dashed : Trust) (place : ℕ) → IsContent (meanings marks dashed place)
meanings_content marks dashed place =
    let second : ℕ = place + one_if marks.circle in
    let third : ℕ = second + one_if marks.square in
    let one : List ℕ = meaning_if marks.circle place Honest None (codes "no lie is known") in
    let two : List ℕ = meaning_if marks.square second Traitor None (codes "the message of a named commander") in
    let three : List ℕ = meaning_if marks.diamond third (Lie 0 0) None (codes "a lie of a named traitor") in
    joined (one ++ two ++ three) (meaning_if marks.dashes (third + one_if marks.diamond) dashed (Some (Divided 0)) (codes "no order has a majority"))
    (joined (one ++ two) three
    (joined one two (meaning_if_content marks.circle place Honest None (codes "no lie is known") (bare_text _ refl))
    (meaning_if_content marks.square second Traitor None (codes "the message of a named commander") (bare_text _ refl)))
    (meaning_if_content marks.diamond third (Lie 0 0) None (codes "a lie of a named traitor") (bare_text _ refl)))
    (meaning_if_content marks.dashes (third + one_if marks.diamond) dashed (Some (Divided 0)) (codes "no order has a majority") (bare_text _ refl))

legend_whole : (number content : List ℕ) → (codes "<g transform=\"translate(16 " ++ (number ++ codes ")\">")) ++ content ++ (codes "</g>" ++ codes "\n") ≡ group_of (codes "translate(16 " ++ (number ++ codes ")")) content ++ codes "\n"
legend_whole number content = simp append_assoc

rule_is : rule ≡ lines_of (codes "M0 12h240")
unfolding rule
rule_is = refl

rule_content : IsContent rule
rule_content = subst IsContent (sym rule_is) (shape_content (codes "line") (codes "M0 12h240") (bare_text (codes "line") refl) (bare_text (codes "M0 12h240") refl))

rule_at_content : (place : ℕ) → IsContent (rule_at place)
unfolding row_start row_end
rule_at_content place =
    subst IsContent (sym (legend_whole (decimal (36 + 24 * place)) rule))
    (joined (group_of (place_of place) rule) (codes "\n") (nested (codes "g") (attribute (codes "transform") (place_of place) ++ []) rule (group_tag (place_of place) (place_text place)) rule_content)
    (text (codes "\n") (bare_text (codes "\n") refl)))

legend_content : (nodes : List Node) → IsContent (legend nodes)
legend_content nodes =
    joined (rule_at (length nodes)) (meanings (marks_of nodes) (dashed_shape nodes) (length nodes + 1)) (rule_at_content (length nodes)) (meanings_content (marks_of nodes) (dashed_shape nodes) (length nodes + 1))

inside_content : (n p : ℕ) (nodes : List Node) → IsContent (inside n p nodes)
inside_content n p nodes = joined (rows_from n p 0 nodes) (legend nodes) (rows_content n p 0 nodes) (legend_content nodes)

-- ---- the head

abbrev headline : ℕ → ℕ → List ℕ
headline p order = codes "lieutenant " ++ (decimal p ++ (codes " decides " ++ decimal order))

headline_text : (p order : ℕ) → IsText (headline p order)
headline_text p order =
    many (codes "lieutenant ") (decimal p ++ (codes " decides " ++ decimal order)) (bare_text (codes "lieutenant ") refl)
    (many (decimal p) (codes " decides " ++ decimal order) (decimal_text p) (many (codes " decides ") (decimal order) (bare_text (codes " decides ") refl) (decimal_text order)))

title_whole : (p order : List ℕ) → codes "<title>lieutenant " ++ (p ++ (codes " decides " ++ (order ++ codes "</title>"))) ≡ element (codes "title") [] (codes "lieutenant " ++ (p ++ (codes " decides " ++ order)))
title_whole p order = simp append_assoc

title_content : (p order : ℕ) → IsContent (title p order)
unfolding title
title_content p order = subst IsContent (sym (title_whole (decimal p) (decimal order))) (nested (codes "title") [] (headline p order) (bare_tag (codes "title") refl) (text (headline p order) (headline_text p order)))

heading_whole : (p order : List ℕ) → codes "<text x=\"10\" y=\"24\">lieutenant " ++ (p ++ (codes " decides " ++ (order ++ codes "</text>\n")))
    ≡ element (codes "text") (attribute (codes "x") (codes "10") ++ (attribute (codes "y") (codes "24") ++ [])) (codes "lieutenant " ++ (p ++ (codes " decides " ++ order))) ++ codes "\n"
heading_whole p order = simp append_assoc

heading_content : (p order : ℕ) → IsContent (heading p order)
unfolding heading
heading_content p order =
    subst IsContent (sym (heading_whole (decimal p) (decimal order)))
    (joined (element (codes "text") (attribute (codes "x") (codes "10") ++ (attribute (codes "y") (codes "24") ++ [])) (headline p order)) (codes "\n")
    (nested (codes "text") (attribute (codes "x") (codes "10") ++ (attribute (codes "y") (codes "24") ++ [])) (headline p order) (text_tag (codes "10") (codes "24") (bare_text (codes "10") refl) (bare_text (codes "24") refl)) (text (headline p order) (headline_text p order)))
    (text (codes "\n") (bare_text (codes "\n") refl)))

abbrev rows_words : List ℕ
rows_words = codes "Each row is a label, below the label that it extends, with the order that he received for it."

said_if_text : (stands : Bool) (words : List ℕ) → IsText words → IsText (said_if stands words)
unfolding said_if
said_if_text true words t = t
said_if_text false words t = no_text

shape_words_text : (marks : DrawnMarks) → IsText (shape_words marks)
shape_words_text marks =
    let circle : List ℕ = said_if marks.circle (codes " Circle: the message of a general who is not named as a traitor, or who sends what he took.") in
    let square : List ℕ = said_if marks.square (codes " Square: the message of a commander who is named as a traitor.") in
    let diamond : List ℕ = said_if marks.diamond (codes " Diamond: a lie.") in
    many (circle ++ square ++ diamond) (said_if marks.dashes (codes " Dashes: no order has a majority."))
    (many (circle ++ square) diamond
    (many circle square (said_if_text marks.circle (codes " Circle: the message of a general who is not named as a traitor, or who sends what he took.") (bare_text _ refl)) (said_if_text marks.square (codes " Square: the message of a commander who is named as a traitor.") (bare_text _ refl)))
    (said_if_text marks.diamond (codes " Diamond: a lie.") (bare_text _ refl)))
    (said_if_text marks.dashes (codes " Dashes: no order has a majority.") (bare_text _ refl))

abbrev key_words : DrawnMarks → List ℕ
key_words marks = rows_words ++ shape_words marks

key_text : (marks : DrawnMarks) → IsText (key_words marks)
key_text marks = many rows_words (shape_words marks) (bare_text rows_words refl) (shape_words_text marks)

key_parts : (first rows shapes end feed : List ℕ) → (first ++ rows) ++ shapes ++ (end ++ feed) ≡ (first ++ ((rows ++ shapes) ++ end)) ++ feed
key_parts first rows shapes end feed = simp append_assoc

key_whole : (marks : DrawnMarks) → key marks ≡ element (codes "desc") [] (key_words marks) ++ codes "\n"
unfolding key_start
key_whole marks = key_parts (codes "<desc>") rows_words (shape_words marks) (codes "</desc>") (codes "\n")

key_content : (marks : DrawnMarks) → IsContent (key marks)
key_content marks =
    subst IsContent (sym (key_whole marks))
    (joined (element (codes "desc") [] (key_words marks)) (codes "\n") (nested (codes "desc") [] (key_words marks) (bare_tag (codes "desc") refl) (text (key_words marks) (key_text marks)))
    (text (codes "\n") (bare_text (codes "\n") refl)))

abbrev look_words : List ℕ
look_words =
    codes "svg{background:#fff}text{fill:#111;font:14px sans-serif}.line{fill:none;stroke:#767676}.told{fill:#fff;stroke:#111}"
    ++ codes ".word{fill:#ffd24d;stroke:#111}.lie{fill:#b00020;stroke:#111}.split{stroke-dasharray:3 2}"
    ++ codes "@media(prefers-color-scheme:dark){svg{background:#111}text{fill:#eee}.told,.word,.lie{stroke:#eee}.told{fill:#111}}"

look_content : IsContent look
unfolding look
look_content =
    joined (element (codes "style") [] look_words) (codes "\n") (nested (codes "style") [] look_words (bare_tag (codes "style") refl) (text look_words (bare_text look_words refl)))
    (text (codes "\n") (bare_text (codes "\n") refl))

head_content : (marks : DrawnMarks) (p order : ℕ) → IsContent (head marks p order)
head_content marks p order =
    joined (title p order ++ key marks ++ look) (heading p order) (joined (title p order ++ key marks) look (joined (title p order) (key marks) (title_content p order) (key_content marks)) look_content) (heading_content p order)

-- ---- the whole

abbrev attributes : ℕ → ℕ → List ℕ
attributes w h =
    attribute (codes "xmlns") (codes "http://www.w3.org/2000/svg")
    ++ (attribute (codes "role") (codes "graphics-document document") ++ (attribute (codes "width") (decimal w) ++ (attribute (codes "height") (decimal h) ++ (attribute (codes "viewBox") (codes "0 0 " ++ (decimal w ++ (codes " " ++ decimal h))) ++ []))))

size_whole : (w h : List ℕ) → codes " width=\"" ++ (w ++ (codes "\" height=\"" ++ (h ++ codes "\""))) ≡ attribute (codes "width") w ++ attribute (codes "height") h
size_whole w h = ap (λ xs. codes " width=\"" ++ xs) (sym (append_assoc w (codes "\"") (attribute (codes "height") h)))

box_whole : (w h : List ℕ) → codes " viewBox=\"0 0 " ++ (w ++ (codes " " ++ (h ++ codes "\">"))) ≡ attribute (codes "viewBox") (codes "0 0 " ++ (w ++ (codes " " ++ h))) ++ codes ">"
box_whole w h = simp append_assoc

tag_parts : (first role wide high box end before rows close feed : List ℕ)
    → (first ++ role) ++ (wide ++ high) ++ (box ++ end) ++ before ++ rows ++ (close ++ feed) ≡ ((first ++ (role ++ (wide ++ (high ++ (box ++ [])))) ++ end) ++ (before ++ rows) ++ close) ++ feed
tag_parts first role wide high box end before rows close feed = simp (append_assoc, append-nil)

picture_is : (w h : ℕ) (before rows : List ℕ) → picture w h before rows ≡ element (codes "svg") (attributes w h) (before ++ rows) ++ codes "\n"
unfolding start size view_box
picture_is w h before rows =
    ap (λ xs. start ++ xs ++ view_box w h ++ before ++ rows ++ codes "</svg>\n") (size_whole (decimal w) (decimal h))
    ∙ (ap (λ xs. start ++ (attribute (codes "width") (decimal w) ++ attribute (codes "height") (decimal h)) ++ xs ++ before ++ rows ++ codes "</svg>\n") (box_whole (decimal w) (decimal h))
    ∙ tag_parts (codes "<svg" ++ attribute (codes "xmlns") (codes "http://www.w3.org/2000/svg")) (attribute (codes "role") (codes "graphics-document document")) (attribute (codes "width") (decimal w)) (attribute (codes "height") (decimal h))
    (attribute (codes "viewBox") (codes "0 0 " ++ (decimal w ++ (codes " " ++ decimal h)))) (codes ">") before rows (codes "</svg>") (codes "\n"))

svg_tag : (w h : ℕ) → IsTag (codes "svg") (attributes w h)
svg_tag w h =
    let box = many (codes "0 0 ") (decimal w ++ (codes " " ++ decimal h)) (bare_text (codes "0 0 ") refl) (many (decimal w) (codes " " ++ decimal h) (decimal_text w) (many (codes " ") (decimal h) (bare_text (codes " ") refl) (decimal_text h))) in
    record {
      named = refl;
      names = codes "xmlns" ∷ codes "role" ∷ codes "width" ∷ codes "height" ∷ codes "viewBox" ∷ [];
      attributed_so =
          attributed (codes "xmlns") (codes "http://www.w3.org/2000/svg") _ (codes "role" ∷ codes "width" ∷ codes "height" ∷ codes "viewBox" ∷ []) refl (bare_text (codes "http://www.w3.org/2000/svg") refl) refl
          (attributed (codes "role") (codes "graphics-document document") _ (codes "width" ∷ codes "height" ∷ codes "viewBox" ∷ []) refl (bare_text (codes "graphics-document document") refl) refl
          (attributed (codes "width") (decimal w) _ (codes "height" ∷ codes "viewBox" ∷ []) refl (decimal_text w) refl
          (attributed (codes "height") (decimal h) _ (codes "viewBox" ∷ []) refl (decimal_text h) refl
          (attributed (codes "viewBox") (codes "0 0 " ++ (decimal w ++ (codes " " ++ decimal h))) [] [] refl box refl no_attributes))));
    }

pub proved_pictures_are_elements : PicturesAreElements
unfolding svg_text
proved_pictures_are_elements t traitors view p =
    let nodes : List Node = nodes_of t traitors view p in
    let w : ℕ = breadth nodes in
    let h : ℕ = tallness nodes in
    let first : List ℕ = head (marks_of nodes) p (decision_of t p) in
    let inner : List ℕ = first ++ inside t.generals p nodes in (
      element (codes "svg") (attributes w h) inner,
      record {
        name = codes "svg";
        attributes = attributes w h;
        content = inner;
        tag = svg_tag w h;
        inside = joined first (inside t.generals p nodes) (head_content (marks_of nodes) p (decision_of t p)) (inside_content t.generals p nodes);
        whole = refl;
      },
      picture_is w h first (inside t.generals p nodes),
    )
