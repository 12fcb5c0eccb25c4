-- Diagrams are XML elements.
use Rattle.std.proofs.Common.{ℕ, ◌+◌, ◌*◌, ◌≡◌, Bool, true, false, List, [], ◌∷◌, ◌++◌, Option, Some, None, refl, subst, append_assoc}
use Rattle.std.proofs.lemmas.Bool.{cond_both}
use Rattle.std.specs.Prelude.{codes, ◌==◌, nat_lt, min}
use Rattle.std.specs.Fmt.{decimal}
use Rattle.std.specs.List.{flat_map, range_with_len}
use Rattle.html.specs.Grammar.{IsText, no_text, IsContent, text, joined}
use Rattle.html.specs.Tags.{element}
use Rattle.html.proofs.TextLemmas.{bare_text, decimal_text, text-flat_map}
use Rattle.board.specs.Board.{Access}
use Rattle.book.specs.Explained.{dotted}
use Rattle.round.specs.Scenario.{Scenario}
use Rattle.world.specs.Chronicle.{Chronicle}
use Rattle.world.specs.declared.verdict.Verdict.{Verdict}
use Rattle.show_diagram.specs.declared.mark.DiagramMarks.{DiagramMarks}
use Rattle.show_diagram.specs.declared.stroke.Stroke.{Stroke}
use Rattle.show_diagram.specs.Bands.{accesses_from, lives, round_words}
use Rattle.show_diagram.specs.Foot.{alike_words, decided_all, obeyed_words}
use Rattle.show_diagram.specs.Layout.{column, fan_top, height, path_of, row_top, rows_top, top_of, width}
use Rattle.show_diagram.specs.Left.{cut_words, is_cut, mores}
use Rattle.show_diagram.specs.Legend.{foot_height, marks_of, shape_key}
use Rattle.show_diagram.specs.Shapes.{line, mark, said_if, text_at, title}
use Rattle.show_diagram.specs.Svg.{campaign_words, heads, key_end, look}
use Rattle.show_diagram.specs.Words.{copied_words, in_full, kind, outline}
use Rattle.show_diagram.proofs.SvgLaws.{accesses_content, alike_text, all, attributes, bent_content, campaign_text, copied_text, cut_text, decisions_content, described_content, feed, full_text, group_content, heads_content, kind_text, legend_of_content, line_content, lives_content, look_content, many, mark_content, mores_content, name, numbered, obeyed_text, outline_text, picture_is, round_text, said_text, shape_key_text, small, svg_tag, text_content, three_texts, title_content}
use Rattle.signed.specs.Chains.{Chain}
use Rattle.show_chains.specs.Bands.{band, bands, drawn, inside, row, stroke_line}
use Rattle.show_chains.specs.Foot.{bound_words, foot, verdict_lines}
use Rattle.show_chains.specs.Laws.{SignedDiagramsAreElements}
use Rattle.show_chains.specs.Legend.{differs_meaning, legend, missing_meaning, sent_meaning, wide_meaning}
use Rattle.show_chains.specs.Strokes.{Drawn, bare, strokes_of, with_rows}
use Rattle.show_chains.specs.Svg.{description, head, headline, key_start, signed_svg, signed_words, stroke_key}
use Rattle.show_chains.specs.Words.{chain_words, chains_words, count_words, differs_words, first_words, further_words, lead_words, row_words, sends_words, several_words, short_words, stroke_words, withholds_words}

-- ---- words

dotted_text : (gs : List ℕ) → IsText (dotted gs)
dotted_text [] = no_text
dotted_text (g ∷ gs) =
    many (decimal g) (flat_map (λ h. codes "." ++ decimal h) gs) (decimal_text g)
    (text-flat_map (λ h. codes "." ++ decimal h) gs (λ h. numbered (codes ".") h (bare_text (codes ".") refl)))

chain_text : (ch : Chain) → IsText (chain_words ch)
chain_text ch =
    many (decimal ch.order ++ codes " signed ") (dotted ch.signers) (many (decimal ch.order) (codes " signed ") (decimal_text ch.order) (bare_text (codes " signed ") refl)) (dotted_text ch.signers)

further_text : (ch : Chain) → IsText (further_words ch)
further_text ch = many (codes ", ") (chain_words ch) (bare_text (codes ", ") refl) (chain_text ch)

chains_text : (chains : List Chain) → IsText (chains_words chains)
chains_text [] = no_text
chains_text (ch ∷ chains) = many (chain_words ch) (flat_map further_words chains) (chain_text ch) (text-flat_map further_words chains further_text)

sends_text : (g p : ℕ) → IsText (sends_words g p)
unfolding sends_words
sends_text g p =
    many (codes "general ") (decimal g ++ (codes " sends general " ++ (decimal p ++ codes ": "))) (bare_text (codes "general ") refl)
    (many (decimal g) (codes " sends general " ++ (decimal p ++ codes ": ")) (decimal_text g)
    (many (codes " sends general ") (decimal p ++ codes ": ") (bare_text (codes " sends general ") refl) (many (decimal p) (codes ": ") (decimal_text p) (bare_text (codes ": ") refl))))

withholds_text : (g p : ℕ) → IsText (withholds_words g p)
unfolding withholds_words
withholds_text g p =
    many (codes "general ") (decimal g ++ (codes " does not send general " ++ (decimal p ++ codes ": "))) (bare_text (codes "general ") refl)
    (many (decimal g) (codes " does not send general " ++ (decimal p ++ codes ": ")) (decimal_text g)
    (many (codes " does not send general ") (decimal p ++ codes ": ") (bare_text (codes " does not send general ") refl) (many (decimal p) (codes ": ") (decimal_text p) (bare_text (codes ": ") refl))))

lead_text : (g p : ℕ) (told : Option ℕ) → IsText (lead_words g p told)
lead_text g p None = withholds_text g p
lead_text g p (Some order) = sends_text g p

differs_text : (differs : Bool) (told : Option ℕ) → IsText (differs_words differs told)
differs_text false told = no_text
differs_text true None = bare_text (codes "; a loyal general would") refl
differs_text true (Some order) = bare_text (codes "; a loyal general would not") refl

stroke_text : (x : Drawn) → IsText (stroke_words x)
stroke_text x =
    let st : Stroke = x.stroke in
    many (lead_words st.teller st.receiver st.told ++ chains_words x.chains) (differs_words st.differs st.told)
    (many (lead_words st.teller st.receiver st.told) (chains_words x.chains) (lead_text st.teller st.receiver st.told) (chains_text x.chains))
    (differs_text st.differs st.told)

short_text : (ch : Chain) → IsText (short_words ch)
short_text ch =
    many (decimal ch.order ++ codes " by ") (dotted ch.signers) (many (decimal ch.order) (codes " by ") (decimal_text ch.order) (bare_text (codes " by ") refl)) (dotted_text ch.signers)

first_text : (chains : List Chain) → IsText (first_words chains)
first_text [] = no_text
first_text (ch ∷ chains) = short_text ch

count_text : (chains : ℕ) → IsText (count_words chains)
count_text chains =
    cond_both (chains == 1) [] (codes " (" ++ decimal chains ++ codes ")") IsText (λ _. no_text)
    (λ _. many (codes " (" ++ decimal chains) (codes ")") (numbered (codes " (") chains (bare_text (codes " (") refl)) (bare_text (codes ")") refl))

row_text : (x : Drawn) → IsText (row_words x)
row_text x =
    many (first_words x.chains) (count_words x.stroke.labels) (first_text x.chains) (count_text x.stroke.labels)

bound_text : (b : Bool) → IsText (bound_words b)
bound_text true = bare_text (codes "The bound holds: there are few enough traitors.") refl
bound_text false = bare_text (codes "The bound does not hold: too many traitors. No promise.") refl

signed_text : (s : Scenario) → IsText (signed_words s)
signed_text s =
    many (campaign_words s.generals s.bound s.commander s.order) (codes "; signed messages") (campaign_text s.generals s.bound s.commander s.order) (bare_text (codes "; signed messages") refl)

-- ---- bands

drawn_content : (n : ℕ) (accesses : List Access) (round : ℕ) (x : Drawn) → IsContent (drawn n accesses round x)
drawn_content n accesses round x =
    let st : Stroke = x.stroke in
    let top : ℕ = fan_top accesses round in
    let below : ℕ = rows_top n accesses round in
    let t : List ℕ = title (stroke_words x) in
    let m : List ℕ = mark (kind st) (outline st) in
    let w : List ℕ = text_at (codes "small") 12 4 (row_words x) in
    cond_both (st.round == round) (stroke_line n top below x ++ row below x) [] IsContent
    (λ _. joined (stroke_line n top below x) (row below x)
    (bent_content (kind st) (min st.labels 5) (path_of n top below st) (stroke_words x) (kind_text st.differs st.told) (stroke_text x))
    (group_content (column st.receiver) (row_top below st.row) (t ++ m ++ w)
    (joined (t ++ m) w (joined t m (title_content (stroke_words x) (stroke_text x)) (mark_content (kind st) (outline st) (kind_text st.differs st.told) (outline_text st.differs st.told)))
    (text_content (codes "small") 12 4 (row_words x) small (row_text x)))))
    (λ _. text [] no_text)

rule_content : (wide : ℕ) → IsContent (line (codes "rule") 16 0 wide 0)
rule_content wide = line_content (codes "rule") 16 0 wide 0 (bare_text (codes "rule") refl)

inside_content : (n : ℕ) (strokes : List Drawn) (accesses : List Access) (wide high r : ℕ) → IsContent (inside n strokes accesses wide high r)
inside_content n strokes accesses wide high r =
    let a : List ℕ = line (codes "rule") 16 0 wide 0 in
    let b : List ℕ = text_at (codes "round") 16 24 (round_words r) in
    let c : List ℕ = lives n accesses high in
    let d : List ℕ = accesses_from n accesses r 0 accesses in
    let e : List ℕ = flat_map (drawn n accesses r) strokes in
    joined (a ++ b ++ c ++ d) e
    (joined (a ++ b ++ c) d
    (joined (a ++ b) c (joined a b (rule_content wide) (text_content (codes "round") 16 24 (round_words r) (bare_text (codes "round") refl) (round_text r))) (lives_content n accesses high))
    (accesses_content n accesses r 0 accesses))
    (all (drawn n accesses r) strokes (drawn_content n accesses r))

band_content : (n : ℕ) (strokes : List Drawn) (plain : List Stroke) (accesses : List Access) (wide before : ℕ) → IsContent (band n strokes plain accesses wide before)
band_content n strokes plain accesses wide before =
    let high : ℕ = height n plain accesses (before + 1) in
    group_content 0 (top_of n plain accesses before) (inside n strokes accesses wide high (before + 1)) (inside_content n strokes accesses wide high (before + 1))

-- ---- the foot and the head

verdict_content : (v : Verdict) → IsContent (verdict_lines v)
verdict_content v =
    let a : List ℕ = text_at (codes "name") 120 64 (alike_words v.alike) in
    let b : List ℕ = text_at (codes "name") 120 84 (obeyed_words v.obeyed) in
    joined (a ++ b) (text_at (codes "name") 120 104 (bound_words v.bound))
    (joined a b (text_content (codes "name") 120 64 (alike_words v.alike) name (alike_text v.alike)) (text_content (codes "name") 120 84 (obeyed_words v.obeyed) name (obeyed_text v.obeyed)))
    (text_content (codes "name") 120 104 (bound_words v.bound) name (bound_text v.bound))

legend_content : (marks : DiagramMarks) → IsContent (legend marks)
unfolding sent_meaning differs_meaning missing_meaning wide_meaning
legend_content marks =
    legend_of_content marks sent_meaning differs_meaning missing_meaning wide_meaning (bare_text sent_meaning refl) (bare_text differs_meaning refl)
    (bare_text missing_meaning refl) (bare_text wide_meaning refl)

foot_content : (c : Chronicle) (marks : DiagramMarks) (wide top : ℕ) → IsContent (foot c marks wide top)
foot_content c marks wide top =
    let a : List ℕ = line (codes "rule") 16 0 wide 0 in
    let b : List ℕ = text_at (codes "round") 16 28 (codes "decisions") in
    let d : List ℕ = decided_all c.scenario c.decisions in
    group_content 0 top (a ++ b ++ d ++ verdict_lines c.verdict ++ legend marks)
    (joined (a ++ b ++ d ++ verdict_lines c.verdict) (legend marks)
    (joined (a ++ b ++ d) (verdict_lines c.verdict)
    (joined (a ++ b) d
    (joined a b (rule_content wide) (text_content (codes "round") 16 28 (codes "decisions") (bare_text (codes "round") refl) (bare_text (codes "decisions") refl)))
    (decisions_content c.scenario c.decisions))
    (verdict_content c.verdict))
    (legend_content marks))

abbrev key_words : List ℕ
key_words =
    codes "There is a column for each general, and a band for each round, from above. In a band a line leads "
    ++ codes "from the sender of chains to their receiver, one line for each order. The width of the line is its number "
    ++ codes "of chains. Below, in the column of the receiver, is what he received: the order and its signers, the "
    ++ codes "commander first and the sender last."

stroke_key_text : (marks : DiagramMarks) → IsText (stroke_key marks)
stroke_key_text marks =
    let one : List ℕ = codes " Circle and plain line: a loyal general in place of the sender would send the same." in
    let two : List ℕ = codes " Diamond and dashes: a loyal general would not send this." in
    let three : List ℕ = codes " Cross and dots: not sent, but a loyal general would send it." in
    three_texts marks.circle marks.diamond marks.cross one two three (bare_text one refl) (bare_text two refl) (bare_text three refl)

several_text : (strokes : List Drawn) → IsText (flat_map several_words strokes)
several_text strokes =
    text-flat_map several_words strokes
    (λ x. cond_both (nat_lt 1 x.stroke.labels) (in_full (stroke_words x)) [] IsText (λ _. full_text (stroke_words x) (stroke_text x)) (λ _. no_text))

five_words : (start a b c d e end : List ℕ) → start ++ (a ++ b ++ c ++ d ++ e) ++ end ≡ start ++ a ++ b ++ c ++ d ++ e ++ end
five_words start a b c d e end = simp append_assoc

description_content : (strokes : List Drawn) (accesses : List Access) (marks : DiagramMarks) (cut : Bool) → IsContent (description strokes accesses marks cut)
unfolding key_start
description_content strokes accesses marks cut =
    let a : List ℕ = stroke_key marks in
    let b : List ℕ = shape_key marks in
    let c : List ℕ = said_if cut cut_words in
    let d : List ℕ = flat_map several_words strokes in
    let e : List ℕ = flat_map copied_words accesses in
    subst IsContent (five_words key_start a b c d e key_end)
    (described_content key_words (a ++ b ++ c ++ d ++ e) (bare_text key_words refl)
    (many (a ++ b ++ c ++ d) e
    (many (a ++ b ++ c) d (many (a ++ b) c (many a b (stroke_key_text marks) (shape_key_text marks)) (said_text cut cut_words cut_text)) (several_text strokes)) (copied_text accesses)))

head_content : (s : Scenario) (strokes : List Drawn) (accesses : List Access) (marks : DiagramMarks) (cut : Bool) → IsContent (head s strokes accesses marks cut)
head_content s strokes accesses marks cut =
    let w : List ℕ = signed_words s in
    let n : List ℕ = campaign_words s.generals s.bound s.commander s.order in
    let d : List ℕ = description strokes accesses marks cut in
    joined (title w ++ d ++ look) (headline s) (joined (title w ++ d) look (joined (title w) d (title_content w (signed_text s)) (description_content strokes accesses marks cut)) look_content)
    (joined (text_at (codes "head") 16 28 n ++ text_at (codes "small") 16 58 (codes "signed")) (text_at (codes "small") 16 72 (codes "messages"))
    (joined (text_at (codes "head") 16 28 n) (text_at (codes "small") 16 58 (codes "signed"))
    (text_content (codes "head") 16 28 n (bare_text (codes "head") refl) (campaign_text s.generals s.bound s.commander s.order))
    (text_content (codes "small") 16 58 (codes "signed") small (bare_text (codes "signed") refl)))
    (text_content (codes "small") 16 72 (codes "messages") small (bare_text (codes "messages") refl)))

-- ---- the whole

pub proved_signed_diagrams_are_elements : SignedDiagramsAreElements
unfolding signed_svg
proved_signed_diagrams_are_elements c =
    let s : Scenario = c.scenario in
    let plain : List Stroke = bare (strokes_of c) in
    let drawn : List Drawn = with_rows (strokes_of c) in
    let shown : List Stroke = bare drawn in
    let bottom : ℕ = top_of s.generals shown c.accesses (s.bound + 1) in
    let wide : ℕ = width s.generals c.accesses in
    let w : ℕ = wide + 16 in
    let marks : DiagramMarks = marks_of s c.accesses shown in
    let h : ℕ = bottom + foot_height marks in
    let a : List ℕ = head s drawn c.accesses marks (is_cut plain) in
    let b : List ℕ = heads s c.accesses in
    let d : List ℕ = bands s.generals drawn shown c.accesses wide (s.bound + 1) in
    let m : List ℕ = mores s.generals plain shown c.accesses (s.bound + 1) in
    let e : List ℕ = foot c marks wide bottom in
    let parts : List ℕ = a ++ b ++ d ++ m ++ e in
    let is : IsContent parts =
    joined (a ++ b ++ d ++ m) e
    (joined (a ++ b ++ d) m
    (joined (a ++ b) d (joined a b (head_content s drawn c.accesses marks (is_cut plain)) (heads_content s c.accesses)) (all (band s.generals drawn shown c.accesses wide) (range_with_len 0 (s.bound + 1)) (band_content s.generals drawn shown c.accesses wide)))
    (mores_content s.generals plain shown c.accesses (s.bound + 1)))
    (foot_content c marks wide bottom) in (
      element (codes "svg") (attributes (decimal w) (decimal h)) (codes "\n" ++ parts),
      record {
        name = codes "svg";
        attributes = attributes (decimal w) (decimal h);
        content = codes "\n" ++ parts;
        tag = svg_tag w h;
        inside = joined (codes "\n") parts feed is;
        whole = refl;
      },
      picture_is w h parts,
    )
