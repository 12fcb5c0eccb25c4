-- Defines an HTML page byte by byte (HTML Living Standard, section 13.1). Apart from its first line the page is also
-- one XML element. Untrusted text in it is made visible and escaped.
use Rattle.std.specs.Prelude.{ℕ, List, ◌++◌, codes}
use Rattle.std.specs.Str.{chars, encode_utf8_all}
use Rattle.html.specs.Escaped.{escaped}
use Rattle.html.specs.Visible.{visible}
use Rattle.html.specs.declared.sheet.Sheet.{Sheet}
use Rattle.html.specs.declared.sheet.Sheet.TheVariants.{Large, Several, Small}

-- Returns untrusted text as a page shows it: first hidden characters are made visible, then markup is escaped.
abbrev pub shown : List ℕ → List ℕ
shown text = encode_utf8_all (escaped (visible (chars text)))

-- The text of a page before its style sheet. It says that the page is in English, and allows only the page's own styles
-- and embedded pictures.
unfoldable pub preamble : List ℕ
preamble =
    codes "<!DOCTYPE html>\n<html lang=\"en\">\n<head>\n<meta charset=\"utf-8\"/>\n"
    ++ codes "<meta http-equiv=\"Content-Security-Policy\" content=\"default-src 'none'; style-src 'unsafe-inline'; "
    ++ codes "img-src data:\"/>\n<meta name=\"viewport\" content=\"width=device-width, initial-scale=1\"/>\n<style>"

-- The style sheet of a page. A picture may be as wide as the window. On paper it and its legend are on one sheet, unless
-- it has the class `several`.
unfoldable pub look : List ℕ
look =
    codes ":root{color-scheme:light dark}body{margin:0;background:#fff;color:#111;font:16px/1.5 sans-serif}"
    ++ codes "main{padding:1rem}h1{font-size:1.4rem}h2{font-size:1.15rem;margin-top:2rem}"
    ++ codes "pre{margin:.5rem 0;padding-left:.6rem;border-left:3px solid #8a8a8a;font:13px/1.45 monospace;"
    ++ codes "white-space:pre-wrap;overflow-wrap:anywhere}ul{list-style:none;margin:.2rem 0 .2rem .3rem;"
    ++ codes "padding-left:.8rem;border-left:1px solid #8a8a8a}table{border-collapse:collapse;table-layout:fixed;"
    ++ codes "width:100%}th:nth-child(-n+2){width:4.5rem}th,td{border:1px solid #8a8a8a;padding:.2rem .3rem;"
    ++ codes "text-align:left;vertical-align:top;overflow-wrap:anywhere}summary{padding:.4rem 0;font-weight:bold;"
    ++ codes "cursor:pointer}li summary{padding:.1rem 0;font-weight:normal}h1,h2,p,pre,table,details{max-width:68rem;"
    ++ codes "margin-left:auto;margin-right:auto}figure{max-width:max-content;margin:auto;overflow-x:auto}"
    ++ codes "summary:focus-visible,figure:focus-visible{outline:3px solid #0b5fa5;outline-offset:2px}"
    ++ codes "@media(prefers-color-scheme:dark){body{background:#111;color:#eee}"
    ++ codes "summary:focus-visible,figure:focus-visible{outline-color:#6cb8f5}}"
    ++ codes "@page large{size:A3 landscape;margin:5mm}@media print{body{background:#fff;color:#000}main{padding:0}"
    ++ codes "h1,h2,p,pre,table,details,figure{max-width:none}figure{overflow:visible;break-inside:avoid}"
    ++ codes ".large{page:large}.large::after{content:'';display:block;break-after:page}h2,summary{break-after:avoid}"
    ++ codes "summary{list-style:none}svg{height:auto;max-width:100%;max-height:calc(100vh - 6rem)}"
    ++ codes ".several svg{max-height:none}details::details-content{content-visibility:visible;block-size:auto}}"

abbrev pub look_end : List ℕ
look_end = codes "</style>\n<title>"

abbrev pub head_middle : List ℕ
head_middle = codes "</title>\n</head>\n<body>\n<main>\n<h1>"

abbrev pub head_end : List ℕ
head_end = codes "</h1>\n"

abbrev pub page_start : List ℕ → List ℕ
page_start title = preamble ++ look ++ look_end ++ shown title ++ head_middle ++ shown title ++ head_end

abbrev pub page_end : List ℕ
page_end = codes "</main>\n</body>\n</html>\n"

-- Returns the page with this title, where `parts` is its content.
abbrev pub page : List ℕ → List ℕ → List ℕ
page title parts = page_start title ++ parts ++ page_end

-- ---- parts

abbrev pub heading : List ℕ → List ℕ
heading text = codes "<h2>" ++ shown text ++ codes "</h2>\n"

abbrev pub paragraph : List ℕ → List ℕ
paragraph text = codes "<p>" ++ shown text ++ codes "</p>\n"

-- Returns a preformatted text, in which a browser keeps the lines. The line feed before it is not shown.
abbrev pub lines : List ℕ → List ℕ
lines text = codes "<pre>\n" ++ shown text ++ codes "</pre>\n"

-- Returns a preformatted text in which each line begins with a line feed. A browser does not show the first line feed.
abbrev pub begun_lines : List ℕ → List ℕ
begun_lines text = codes "<pre>" ++ shown text ++ codes "</pre>\n"

-- Returns the start of a fold, content that the reader can open and close. Its summary is always shown.
abbrev pub fold_start : List ℕ → List ℕ
fold_start summary = codes "<details>\n<summary>" ++ shown summary ++ codes "</summary>\n"

abbrev pub fold_end : List ℕ
fold_end = codes "</details>\n"

abbrev pub fold : List ℕ → List ℕ → List ℕ
fold summary parts = fold_start summary ++ parts ++ fold_end

-- A picture, which is not changed, with a name for screen readers. It can be scrolled by keyboard. Its classes say on
-- which sheet it is printed.
unfoldable pub picture_tag : Sheet → List ℕ
picture_tag Small = codes "<figure tabindex=\"0\" aria-label=\""
picture_tag Large = codes "<figure class=\"large\" tabindex=\"0\" aria-label=\""
picture_tag Several = codes "<figure class=\"large several\" tabindex=\"0\" aria-label=\""

abbrev pub picture_start : Sheet → List ℕ → List ℕ
picture_start sheet name = picture_tag sheet ++ shown name ++ codes "\">\n"

abbrev pub picture_end : List ℕ
picture_end = codes "</figure>\n"

abbrev pub picture : Sheet → List ℕ → List ℕ → List ℕ
picture sheet name svg = picture_start sheet name ++ svg ++ picture_end

-- An HTML list. Each item is a text or contains other parts, such as a fold.
abbrev pub list_start : List ℕ
list_start = codes "<ul>\n"

abbrev pub list_end : List ℕ
list_end = codes "</ul>\n"

abbrev pub list : List ℕ → List ℕ
list items = list_start ++ items ++ list_end

abbrev pub text_item : List ℕ → List ℕ
text_item text = codes "<li>" ++ shown text ++ codes "</li>\n"

abbrev pub item_start : List ℕ
item_start = codes "<li>\n"

abbrev pub item_end : List ℕ
item_end = codes "</li>\n"

abbrev pub item : List ℕ → List ℕ
item parts = item_start ++ parts ++ item_end

-- An HTML table, which consists of rows of cells. The cells of a header row name the columns.
abbrev pub table_start : List ℕ
table_start = codes "<table>\n"

abbrev pub table_end : List ℕ
table_end = codes "</table>\n"

abbrev pub table : List ℕ → List ℕ
table rows = table_start ++ rows ++ table_end

abbrev pub row_start : List ℕ
row_start = codes "<tr>"

abbrev pub row_end : List ℕ
row_end = codes "</tr>\n"

abbrev pub row : List ℕ → List ℕ
row cells = row_start ++ cells ++ row_end

unfoldable pub head_start : List ℕ
head_start = codes "<th scope=\"col\">"

abbrev pub head : List ℕ → List ℕ
head text = head_start ++ shown text ++ codes "</th>"

abbrev pub cell : List ℕ → List ℕ
cell text = codes "<td>" ++ shown text ++ codes "</td>"
