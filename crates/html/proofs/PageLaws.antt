-- Proves that a page is an XML element.
use Rattle.std.proofs.Common.{ℕ, ◌≡◌, ◌≢◌, Bool, true, false, not, ◌&&◌, List, [], ◌∷◌, ◌++◌, refl, sym, subst, append_assoc, append-nil, codes}
use Rattle.std.specs.Prelude.{◌==◌, bytes_eq}
use Rattle.std.specs.List.{list_all, list_any}
use Rattle.std.proofs.lemmas.Bool.{and_parts, eqb-false, not-true}
use Rattle.html.specs.Escaped.{is_character}
use Rattle.html.specs.Grammar.{IsContent, IsElement, IsTag, IsText, alone, attributed, character, joined, nested, no_attributes, no_text, text, is_name}
use Rattle.html.specs.Tags.{attribute, element, empty}
use Rattle.html.specs.Laws.{PagesAreElements, PartsAreContent}
use Rattle.html.specs.Page.{begun_lines, cell, fold, head, head_start, heading, item, lines, list, look, page, paragraph, picture, picture_tag, preamble, row, shown, table, text_item}
use Rattle.html.specs.declared.sheet.Sheet.{Sheet}
use Rattle.html.specs.declared.sheet.Sheet.TheVariants.{Large, Several, Small}
use Rattle.html.proofs.EncodedLaws.{shown_text}

-- The character is allowed in XML, and is neither markup nor a double quotation mark.
abbrev is_bare : ℕ → Bool
is_bare c = is_character c && not (c == 38) && not (c == 60) && not (c == 62) && not (c == 34)

apart : (c d : ℕ) → not (c == d) ≡ true → c ≢ d
apart c d h = eqb-false c d (not-true (c == d) h)

-- A text of such characters is text without tags. For a given text the test is computed.
bare : (cs : List ℕ) → list_all is_bare cs ≡ true → IsText cs
bare [] h = no_text
bare (c ∷ cs) h =
    let all = and_parts (is_bare c) (list_all is_bare cs) h in
    let four = and_parts (is_character c && not (c == 38) && not (c == 60) && not (c == 62)) (not (c == 34)) all.0 in
    let three = and_parts (is_character c && not (c == 38) && not (c == 60)) (not (c == 62)) four.0 in
    let two = and_parts (is_character c && not (c == 38)) (not (c == 60)) three.0 in
    let one = and_parts (is_character c) (not (c == 38)) two.0 in
    character c cs one.0 (apart c 38 one.1) (apart c 60 two.1) (apart c 62 three.1) (apart c 34 four.1) (bare cs all.1)

bare_tag : (name : List ℕ) → is_name name ≡ true → IsTag name []
bare_tag name h = record { named = h; names = []; attributed_so = no_attributes }

one_tag : (tag name value : List ℕ) → is_name tag ≡ true → is_name name ≡ true → IsText value → IsTag tag (attribute name value ++ [])
one_tag tag name value t n v = record { named = t; names = name ∷ []; attributed_so = attributed name value [] [] n v refl no_attributes }

two_tag : (tag name value : List ℕ) (second other : List ℕ) → is_name tag ≡ true → is_name name ≡ true → IsText value → is_name second ≡ true → IsText other
    → list_any (bytes_eq name) (second ∷ []) ≡ false
    → IsTag tag (attribute name value ++ (attribute second other ++ []))
two_tag tag name value second other t n v s o apart = record {
  named = t;
  names = name ∷ second ∷ [];
  attributed_so = attributed name value (attribute second other ++ []) (second ∷ []) n v apart (attributed second other [] [] s o refl no_attributes);
}

feed : IsContent (codes "\n")
feed = text (codes "\n") (bare (codes "\n") refl)

fed : (cs : List ℕ) → IsContent cs → IsContent (cs ++ codes "\n")
fed cs c = joined cs (codes "\n") c feed

led : (cs : List ℕ) → IsContent cs → IsContent (codes "\n" ++ cs)
led cs c = joined (codes "\n") cs feed c

-- An element whose content is only text is well-formed content.
worded : (name words : List ℕ) → is_name name ≡ true → IsText words → IsContent (element name [] words)
worded name words n t = nested name [] words (bare_tag name n) (text words t)

-- ---- the parts of a page

three_parts : (first words close feed : List ℕ) → first ++ words ++ (close ++ feed) ≡ (first ++ words ++ close) ++ feed
three_parts first words close feed = simp append_assoc

heading_content : (words : List ℕ) → IsContent (heading words)
heading_content words =
    subst IsContent (sym (three_parts (codes "<h2>") (shown words) (codes "</h2>") (codes "\n"))) (fed (element (codes "h2") [] (shown words)) (worded (codes "h2") (shown words) refl (shown_text words)))

paragraph_content : (words : List ℕ) → IsContent (paragraph words)
paragraph_content words =
    subst IsContent (sym (three_parts (codes "<p>") (shown words) (codes "</p>") (codes "\n"))) (fed (element (codes "p") [] (shown words)) (worded (codes "p") (shown words) refl (shown_text words)))

lines_parts : (first words close feed : List ℕ) → (first ++ feed) ++ words ++ (close ++ feed) ≡ (first ++ (feed ++ words) ++ close) ++ feed
lines_parts first words close feed = simp append_assoc

lines_content : (words : List ℕ) → IsContent (lines words)
lines_content words =
    subst IsContent (sym (lines_parts (codes "<pre>") (shown words) (codes "</pre>") (codes "\n")))
    (fed (element (codes "pre") [] (codes "\n" ++ shown words)) (nested (codes "pre") [] (codes "\n" ++ shown words) (bare_tag (codes "pre") refl) (led (shown words) (text (shown words) (shown_text words)))))

begun_lines_content : (words : List ℕ) → IsContent (begun_lines words)
begun_lines_content words =
    subst IsContent (sym (three_parts (codes "<pre>") (shown words) (codes "</pre>") (codes "\n"))) (fed (element (codes "pre") [] (shown words)) (worded (codes "pre") (shown words) refl (shown_text words)))

fold_parts : (d s words e inside close feed : List ℕ)
    → ((d ++ feed ++ s) ++ words ++ (e ++ feed)) ++ inside ++ (close ++ feed) ≡ (d ++ (feed ++ (((s ++ words ++ e) ++ feed) ++ inside)) ++ close) ++ feed
fold_parts d s words e inside close feed = simp append_assoc

fold_content : (summary parts : List ℕ) → IsContent parts → IsContent (fold summary parts)
fold_content summary parts c =
    let head : List ℕ = element (codes "summary") [] (shown summary) ++ codes "\n" in
    let inside = led (head ++ parts) (joined head parts (fed (element (codes "summary") [] (shown summary)) (worded (codes "summary") (shown summary) refl (shown_text summary))) c) in
    subst IsContent (sym (fold_parts (codes "<details>") (codes "<summary>") (shown summary) (codes "</summary>") parts (codes "</details>") (codes "\n")))
    (fed (element (codes "details") [] (codes "\n" ++ (head ++ parts))) (nested (codes "details") [] (codes "\n" ++ (head ++ parts)) (bare_tag (codes "details") refl) inside))

picture_parts : (f p0 k q p1 name g feed svg close : List ℕ)
    → ((f ++ p0 ++ k ++ q ++ p1) ++ name ++ (q ++ g ++ feed)) ++ svg ++ (close ++ feed)
    ≡ ((f ++ ((p0 ++ k ++ q) ++ ((p1 ++ name ++ q) ++ [])) ++ g) ++ (feed ++ svg) ++ close) ++ feed
picture_parts f p0 k q p1 name g feed svg close = simp (append_assoc, append-nil)

small_content : (name svg : List ℕ) → IsContent svg → IsContent (picture Small name svg)
unfolding picture_tag
small_content name svg c =
    let attributes : List ℕ = attribute (codes "tabindex") (codes "0") ++ (attribute (codes "aria-label") (shown name) ++ []) in
    subst IsContent (sym (picture_parts (codes "<figure") (codes " tabindex=\"") (codes "0") (codes "\"") (codes " aria-label=\"") (shown name) (codes ">") (codes "\n") svg (codes "</figure>")))
    (fed (element (codes "figure") attributes (codes "\n" ++ svg))
    (nested (codes "figure") attributes (codes "\n" ++ svg)
    (two_tag (codes "figure") (codes "tabindex") (codes "0") (codes "aria-label") (shown name) refl refl (bare (codes "0") refl) refl (shown_text name) refl) (led svg c)))

large_parts : (f pc v q p0 k p1 name g feed svg close : List ℕ)
    → ((f ++ pc ++ v ++ q ++ p0 ++ k ++ q ++ p1) ++ name ++ (q ++ g ++ feed)) ++ svg ++ (close ++ feed)
    ≡ ((f ++ ((pc ++ v ++ q) ++ ((p0 ++ k ++ q) ++ ((p1 ++ name ++ q) ++ []))) ++ g) ++ (feed ++ svg) ++ close) ++ feed
large_parts f pc v q p0 k p1 name g feed svg close = simp (append_assoc, append-nil)

large_tag : (class value : List ℕ) → IsText class → IsText value
    → IsTag (codes "figure") (attribute (codes "class") class ++ (attribute (codes "tabindex") (codes "0") ++ (attribute (codes "aria-label") value ++ [])))
unfolding two_tag
large_tag class value t v =
    let rest = two_tag (codes "figure") (codes "tabindex") (codes "0") (codes "aria-label") value refl refl (bare (codes "0") refl) refl v refl in
    record {
      named = refl;
      names = codes "class" ∷ rest.names;
      attributed_so =
          attributed (codes "class") class (attribute (codes "tabindex") (codes "0") ++ (attribute (codes "aria-label") value ++ [])) rest.names refl
          t refl rest.attributed_so;
    }

abbrev large_attributes : List ℕ → List ℕ → List ℕ
large_attributes class name = attribute (codes "class") class ++ (attribute (codes "tabindex") (codes "0") ++ (attribute (codes "aria-label") (shown name) ++ []))

-- A picture with classes.
large_inside : (class name svg : List ℕ) → IsText class → IsContent svg → IsContent (element (codes "figure") (large_attributes class name) (codes "\n" ++ svg) ++ codes "\n")
large_inside class name svg t c =
    fed (element (codes "figure") (large_attributes class name) (codes "\n" ++ svg))
    (nested (codes "figure") (large_attributes class name) (codes "\n" ++ svg) (large_tag class (shown name) t (shown_text name)) (led svg c))

large_content : (name svg : List ℕ) → IsContent svg → IsContent (picture Large name svg)
unfolding picture_tag
large_content name svg c =
    subst IsContent
    (sym (large_parts (codes "<figure") (codes " class=\"") (codes "large") (codes "\"") (codes " tabindex=\"") (codes "0") (codes " aria-label=\"") (shown name) (codes ">") (codes "\n") svg (codes "</figure>")))
    (large_inside (codes "large") name svg (bare (codes "large") refl) c)

several_content : (name svg : List ℕ) → IsContent svg → IsContent (picture Several name svg)
unfolding picture_tag
several_content name svg c =
    subst IsContent
    (sym (large_parts (codes "<figure") (codes " class=\"") (codes "large several") (codes "\"") (codes " tabindex=\"") (codes "0") (codes " aria-label=\"") (shown name) (codes ">") (codes "\n") svg (codes "</figure>")))
    (large_inside (codes "large several") name svg (bare (codes "large several") refl) c)

picture_content : (sheet : Sheet) (name svg : List ℕ) → IsContent svg → IsContent (picture sheet name svg)
picture_content Small name svg c = small_content name svg c
picture_content Large name svg c = large_content name svg c
picture_content Several name svg c = several_content name svg c

text_item_content : (words : List ℕ) → IsContent (text_item words)
text_item_content words =
    subst IsContent (sym (three_parts (codes "<li>") (shown words) (codes "</li>") (codes "\n"))) (fed (element (codes "li") [] (shown words)) (worded (codes "li") (shown words) refl (shown_text words)))

-- An element without attributes, with parts between line feeds in it, is well-formed content.
around_parts : (first feed parts close : List ℕ) → (first ++ feed) ++ parts ++ (close ++ feed) ≡ (first ++ (feed ++ parts) ++ close) ++ feed
around_parts first feed parts close = simp append_assoc

around : (name parts : List ℕ) → is_name name ≡ true → IsContent parts → IsContent (element name [] (codes "\n" ++ parts) ++ codes "\n")
around name parts n c = fed (element name [] (codes "\n" ++ parts)) (nested name [] (codes "\n" ++ parts) (bare_tag name n) (led parts c))

list_content : (items : List ℕ) → IsContent items → IsContent (list items)
list_content items c = subst IsContent (sym (around_parts (codes "<ul>") (codes "\n") items (codes "</ul>"))) (around (codes "ul") items refl c)

item_content : (parts : List ℕ) → IsContent parts → IsContent (item parts)
item_content parts c = subst IsContent (sym (around_parts (codes "<li>") (codes "\n") parts (codes "</li>"))) (around (codes "li") parts refl c)

table_content : (rows : List ℕ) → IsContent rows → IsContent (table rows)
table_content rows c = subst IsContent (sym (around_parts (codes "<table>") (codes "\n") rows (codes "</table>"))) (around (codes "table") rows refl c)

row_content : (cells : List ℕ) → IsContent cells → IsContent (row cells)
row_content cells c = subst IsContent (sym (three_parts (codes "<tr>") cells (codes "</tr>") (codes "\n"))) (fed (element (codes "tr") [] cells) (nested (codes "tr") [] cells (bare_tag (codes "tr") refl) c))

cell_content : (words : List ℕ) → IsContent (cell words)
cell_content words = worded (codes "td") (shown words) refl (shown_text words)

head_content_of : (words : List ℕ) → IsContent (head words)
unfolding head_start
head_content_of words =
    nested (codes "th") (attribute (codes "scope") (codes "col") ++ []) (shown words) (one_tag (codes "th") (codes "scope") (codes "col") refl refl (bare (codes "col") refl))
    (text (shown words) (shown_text words))

pub proved_parts_are_content : PartsAreContent
proved_parts_are_content = record {
  heading = heading_content;
  paragraph = paragraph_content;
  lines = lines_content;
  begun_lines = begun_lines_content;
  fold = fold_content;
  list = list_content;
  text_item = text_item_content;
  item = item_content;
  table = table_content;
  row = row_content;
  head = head_content_of;
  cell = cell_content;
  picture = picture_content;
}

-- ---- the page

-- The tags in the head of a page before the style sheet: its encoding, what it may load, and its width.
abbrev charset : List ℕ
charset = empty (codes "meta") (attribute (codes "charset") (codes "utf-8") ++ [])

abbrev policy : List ℕ
policy =
    empty (codes "meta")
    (attribute (codes "http-equiv") (codes "Content-Security-Policy") ++ (attribute (codes "content") (codes "default-src 'none'; style-src 'unsafe-inline'; img-src data:") ++ []))

abbrev viewport : List ℕ
viewport =
    empty (codes "meta") (attribute (codes "name") (codes "viewport") ++ (attribute (codes "content") (codes "width=device-width, initial-scale=1") ++ []))

charset_content : IsContent charset
charset_content = alone (codes "meta") (attribute (codes "charset") (codes "utf-8") ++ []) (one_tag (codes "meta") (codes "charset") (codes "utf-8") refl refl (bare (codes "utf-8") refl))

policy_content : IsContent policy
policy_content =
    alone (codes "meta")
    (attribute (codes "http-equiv") (codes "Content-Security-Policy") ++ (attribute (codes "content") (codes "default-src 'none'; style-src 'unsafe-inline'; img-src data:") ++ []))
    (two_tag (codes "meta") (codes "http-equiv") (codes "Content-Security-Policy") (codes "content") (codes "default-src 'none'; style-src 'unsafe-inline'; img-src data:")
    refl refl (bare (codes "Content-Security-Policy") refl) refl (bare (codes "default-src 'none'; style-src 'unsafe-inline'; img-src data:") refl) refl)

viewport_content : IsContent viewport
viewport_content =
    alone (codes "meta") (attribute (codes "name") (codes "viewport") ++ (attribute (codes "content") (codes "width=device-width, initial-scale=1") ++ []))
    (two_tag (codes "meta") (codes "name") (codes "viewport") (codes "content") (codes "width=device-width, initial-scale=1")
    refl refl (bare (codes "viewport") refl) refl (bare (codes "width=device-width, initial-scale=1") refl) refl)

look_text : IsText look
unfolding look
look_text = bare look refl

abbrev metas : List ℕ
metas = (charset ++ codes "\n") ++ (policy ++ codes "\n") ++ (viewport ++ codes "\n")

metas_content : IsContent metas
metas_content =
    joined ((charset ++ codes "\n") ++ (policy ++ codes "\n")) (viewport ++ codes "\n")
    (joined (charset ++ codes "\n") (policy ++ codes "\n") (fed charset charset_content) (fed policy policy_content)) (fed viewport viewport_content)

-- The content of the head and of the body of a page.
abbrev head_inside : List ℕ → List ℕ
head_inside t = codes "\n" ++ (metas ++ ((element (codes "style") [] look ++ codes "\n") ++ (element (codes "title") [] t ++ codes "\n")))

abbrev main_inside : List ℕ → List ℕ → List ℕ
main_inside t parts = codes "\n" ++ ((element (codes "h1") [] t ++ codes "\n") ++ parts)

abbrev body_inside : List ℕ → List ℕ → List ℕ
body_inside t parts = codes "\n" ++ (element (codes "main") [] (main_inside t parts) ++ codes "\n")

abbrev page_inside : List ℕ → List ℕ → List ℕ
page_inside t parts = codes "\n" ++ ((element (codes "head") [] (head_inside t) ++ codes "\n") ++ (element (codes "body") [] (body_inside t parts) ++ codes "\n"))

head_content : (t : List ℕ) → IsText t → IsContent (head_inside t)
head_content t is =
    let style : List ℕ = element (codes "style") [] look ++ codes "\n" in
    let title : List ℕ = element (codes "title") [] t ++ codes "\n" in
    led (metas ++ (style ++ title))
    (joined metas (style ++ title) metas_content
    (joined style title (fed (element (codes "style") [] look) (worded (codes "style") look refl look_text)) (fed (element (codes "title") [] t) (worded (codes "title") t refl is))))

main_content : (t parts : List ℕ) → IsText t → IsContent parts → IsContent (main_inside t parts)
main_content t parts is c =
    led ((element (codes "h1") [] t ++ codes "\n") ++ parts)
    (joined (element (codes "h1") [] t ++ codes "\n") parts (fed (element (codes "h1") [] t) (worded (codes "h1") t refl is)) c)

body_content : (t parts : List ℕ) → IsText t → IsContent parts → IsContent (body_inside t parts)
body_content t parts is c =
    led (element (codes "main") [] (main_inside t parts) ++ codes "\n")
    (fed (element (codes "main") [] (main_inside t parts)) (nested (codes "main") [] (main_inside t parts) (bare_tag (codes "main") refl) (main_content t parts is c)))

page_content : (t parts : List ℕ) → IsText t → IsContent parts → IsContent (page_inside t parts)
page_content t parts is c =
    let head : List ℕ = element (codes "head") [] (head_inside t) in
    let body : List ℕ = element (codes "body") [] (body_inside t parts) in
    led ((head ++ codes "\n") ++ (body ++ codes "\n"))
    (joined (head ++ codes "\n") (body ++ codes "\n")
    (fed head (nested (codes "head") [] (head_inside t) (bare_tag (codes "head") refl) (head_content t is)))
    (fed body (nested (codes "body") [] (body_inside t parts) (bare_tag (codes "body") refl) (body_content t parts is c))))

abbrev in_english : List ℕ
in_english = attribute (codes "lang") (codes "en") ++ []

abbrev whole : List ℕ → List ℕ → List ℕ
whole t parts = element (codes "html") in_english (page_inside t parts)

page_parts : (d o h m so style sc to t tc hc bo mo ho hx parts mc bc oc feed : List ℕ)
    → (((d ++ feed) ++ o ++ feed ++ h ++ feed ++ m ++ so) ++ style ++ (sc ++ feed ++ to) ++ t ++ (tc ++ feed ++ hc ++ feed ++ bo ++ feed ++ mo ++ feed ++ ho) ++ t ++ (hx ++ feed)) ++ parts
    ++ (mc ++ feed ++ bc ++ feed ++ oc ++ feed)
    ≡ (d ++ feed) ++ (o ++ (feed ++ (((h ++ (feed ++ (m ++ (((so ++ style ++ sc) ++ feed) ++ ((to ++ t ++ tc) ++ feed)))) ++ hc) ++ feed)
    ++ ((bo ++ (feed ++ ((mo ++ (feed ++ (((ho ++ t ++ hx) ++ feed) ++ parts)) ++ mc) ++ feed)) ++ bc) ++ feed))) ++ oc) ++ feed
page_parts d o h m so style sc to t tc hc bo mo ho hx parts mc bc oc feed = simp append_assoc

page_whole : (title parts : List ℕ) → page title parts ≡ codes "<!DOCTYPE html>\n" ++ whole (shown title) parts ++ codes "\n"
unfolding preamble
page_whole title parts =
    page_parts (codes "<!DOCTYPE html>") (codes "<html lang=\"en\">") (codes "<head>") metas (codes "<style>") look (codes "</style>") (codes "<title>") (shown title) (codes "</title>")
    (codes "</head>") (codes "<body>") (codes "<main>") (codes "<h1>") (codes "</h1>") parts (codes "</main>") (codes "</body>") (codes "</html>") (codes "\n")

page_element : (t parts : List ℕ) → IsText t → IsContent parts → IsElement (whole t parts)
page_element t parts is c = record {
  name = codes "html";
  attributes = in_english;
  content = page_inside t parts;
  tag = one_tag (codes "html") (codes "lang") (codes "en") refl refl (bare (codes "en") refl);
  inside = page_content t parts is c;
  whole = refl;
}

pub proved_pages_are_elements : PagesAreElements
proved_pages_are_elements title parts c = (whole (shown title) parts, page_element (shown title) parts (shown_text title) c, page_whole title parts)
