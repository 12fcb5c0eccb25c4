-- The pages of campaigns are XML elements.
use Rattle.std.proofs.Common.{ℕ, zero, suc, ◌≡◌, ◌==◌, nat_lt, Bool, false, List, [], ◌∷◌, ◌++◌, length, Option, None, Some, codes, encode_utf8, refl, subst, sym}
use Rattle.std.specs.Prelude.{if◌then◌else◌}
use Rattle.std.specs.Fmt.{decimal}
use Rattle.std.specs.List.{AllByRecursion, flat_map, list_all, range_with_len}
use Rattle.std.proofs.lemmas.Bool.{cond_both}
use Rattle.std.proofs.lemmas.List.Elements.{All-from_recursion}
use Rattle.html.specs.Grammar.{IsContent, IsElement, joined, no_text, text}
use Rattle.html.proofs.TagLaws.{proved_elements_are_elements}
use Rattle.html.proofs.TextLemmas.{bare_text}
use Rattle.html.specs.Page.{begun_lines, cell, fold, item, lines, list, paragraph, picture, table, text_item}
use Rattle.html.specs.Laws.{IsFilled}
use Rattle.html.specs.declared.sheet.Sheet.{Sheet}
use Rattle.html.specs.Sections.{Section, sections_in}
use Rattle.html.proofs.PageLaws.{proved_pages_are_elements, proved_parts_are_content}
use Rattle.html.proofs.SectionLaws.{proved_sections_are_fitted}
use Rattle.board.specs.Board.{Access}
use Rattle.book.specs.Decisions.{decision_of}
use Rattle.book.specs.Explained.{explained_one}
use Rattle.book.specs.Table.{MessageTable}
use Rattle.show_diagram.specs.Foot.{bound_words}
use Rattle.show_diagram.specs.Svg.{svg_text}
use Rattle.show_diagram.proofs.SvgLaws.{proved_diagrams_are_elements}
use Rattle.show_diagram.specs.Words.{answered_words, asked_words}
use Rattle.show_tree.specs.Shown.{deeper, is_open}
use Rattle.show_tree.specs.Words.{said}
use Rattle.show_tree.specs.declared.node.Node.{Node}
use Rattle.show_tree.specs.declared.node.View.{View}
use Rattle.explain.specs.Explained.{explained_at}
use Rattle.campaign_orders.specs.Text.{schedule_text}
use Rattle.label.specs.Labels.{on, others}
use Rattle.insn.specs.declared.insn.Insn.{Insn}
use Rattle.insn.specs.Program.{slots_of}
use Rattle.show_table.specs.Retold.{traitors_of}
use Rattle.round.specs.Scenario.{Scenario, program_of}
use Rattle.trace.specs.Text.{chronicle_text}
use Rattle.world.specs.Chronicle.{Chronicle}
use Rattle.world.specs.declared.schedule.Repeat.{Repeat}
use Rattle.world.specs.declared.verdict.Verdict.{Verdict}
use Rattle.show_page.specs.Account.{access_heads, access_row, accesses_heading, accesses_section, accesses_told, behind_words, bound_told, chronicle_heading, chronicle_section, course_told, diagram_section, each_lieutenant, each_program, elsewhere_words, explained_told, general_name, hinted, lieutenant_part, lieutenant_told, lieutenant_words, lieutenants_heading, lieutenants_roomed, no_programs, outcome_words, parts, picture_heading, picture_hint, picture_name, picture_section, program_if, program_part, programs_section, programs_told, recorded_words, scenario_instead, scenario_section, schedule_heading, schedule_section, sections, sheet_of, story_told, title, unscheduled_words, verdict_part, verdict_told, view_of, why_part}
use Rattle.show_page.specs.Calls.{named_calls}
use Rattle.show_page.specs.Printers.{accesses_printer, chronicle_printer, lieutenants_printer, picture_printer, programs_printer, scenario_printer, schedule_printer}
use Rattle.show_page.specs.Room.{fitted, lines_told, over, over_words, room_for_accesses, room_for_chronicle, room_for_lieutenants, room_for_picture, room_for_programs, room_for_scenario, room_for_schedule, room_for_sections, room_for_story, room_for_units, roomed, share, units_words}
use Rattle.show_page.specs.Story.{behind_story, story}
use Rattle.show_page.specs.Trees.{item_by, items_below, label_item, node_by, root_told, tree_told}
use Rattle.show_page.specs.Laws.{CampaignPagesAreElements}

pub all : (f : ℕ → List ℕ) (xs : List ℕ) → ((x : ℕ) → IsContent (f x)) → IsContent (flat_map f xs)
all f [] h = text [] no_text
all f (x ∷ xs) h = joined (f x) (flat_map f xs) (h x) (all f xs h)

-- The paragraph that replaces a section for which there is no room.
over_content : (room : ℕ) (who : List ℕ) → IsContent (over room who)
over_content room who = proved_parts_are_content.paragraph (over_words room who)

fitted_content : (room : ℕ) (who part : List ℕ) → IsContent part → IsContent (fitted room who part)
fitted_content room who part is = cond_both (nat_lt room (length part)) (over room who) part IsContent (λ _. over_content room who) (λ _. is)

lines_content : (room : ℕ) (who words : List ℕ) → IsContent (lines_told room who words)
lines_content room who words =
    cond_both (nat_lt room_for_sections (length words)) (over room who) (lines words) IsContent (λ _. over_content room who) (λ _. proved_parts_are_content.lines words)

-- A section of content, with the paragraph that may replace it.
filled : (title : List ℕ) (room : ℕ) (who told : List ℕ) → IsContent told → IsFilled (roomed title room who told)
filled title room who told is = (is, over_content room who)

story_content : (tale : List ℕ) → IsContent (story_told tale)
story_content [] = text [] no_text
story_content (c ∷ cs) = proved_parts_are_content.lines (c ∷ cs)

instead_content : (words : List ℕ) → IsContent (scenario_instead words)
instead_content words =
    joined (fitted room_for_story scenario_printer (story_told (story words))) (over room_for_scenario scenario_printer)
    (fitted_content room_for_story scenario_printer (story_told (story words)) (story_content (story words))) (over_content room_for_scenario scenario_printer)

pub scenario_filled : (words : List ℕ) → IsFilled (scenario_section words)
scenario_filled words = (
  cond_both (nat_lt room_for_sections (length words)) (scenario_instead words) (story_told (story words) ++ lines (behind_story words)) IsContent (λ _. instead_content words)
      (λ _. joined (story_told (story words)) (lines (behind_story words)) (story_content (story words)) (proved_parts_are_content.lines (behind_story words))),
  instead_content words,
)

course_content : (schedule : Option (List (List Repeat))) → IsContent (course_told schedule)
course_content None = proved_parts_are_content.paragraph recorded_words
course_content (Some schedule) =
    let told : List ℕ = lines_told room_for_schedule schedule_printer (schedule_text schedule) in
    cond_both (list_all (λ line. length line == 0) schedule) (paragraph unscheduled_words) (told ++ paragraph behind_words) IsContent
    (λ _. proved_parts_are_content.paragraph unscheduled_words)
    (λ _. joined told (paragraph behind_words) (lines_content room_for_schedule schedule_printer (schedule_text schedule)) (proved_parts_are_content.paragraph behind_words))

pub schedule_filled : (schedule : Option (List (List Repeat))) → IsFilled (schedule_section schedule)
schedule_filled schedule = filled schedule_heading room_for_schedule schedule_printer (course_told schedule) (course_content schedule)

explained_content : (program : List Insn) → IsContent (explained_told program)
explained_content program =
    let told : List ℕ = explained_at (named_calls program) program in
    let units : ℕ = length (slots_of program) in
    cond_both (nat_lt room_for_units units) (paragraph (units_words units programs_printer)) (begun_lines told) IsContent
    (λ _. proved_parts_are_content.paragraph (units_words units programs_printer)) (λ _. proved_parts_are_content.begun_lines told)

program_content : (room g : ℕ) (program : Option (List Insn)) → IsContent (program_if room g program)
program_content room g None = text [] no_text
program_content room g (Some program) =
    proved_parts_are_content.fold (general_name g) (fitted room programs_printer (explained_told program))
    (fitted_content room programs_printer (explained_told program) (explained_content program))

each_content : (room : ℕ) (s : Scenario) → IsContent (each_program room s)
each_content room s = all (program_part room s) (range_with_len 0 s.generals) (λ g. program_content room g (program_of s g))

told_content : (programs : List ℕ) → IsContent programs → IsContent (programs_told programs)
told_content [] c = proved_parts_are_content.paragraph no_programs
told_content (x ∷ xs) c = c

pub programs_filled : (s : Scenario) → IsFilled (programs_section s)
programs_filled s =
    let told : List ℕ = programs_told (each_program room_for_sections s) in (
      told_content (each_program room_for_sections s) (each_content room_for_sections s),
      cond_both (nat_lt room_for_programs (length told)) (each_program (share s.generals) s) [] IsContent (λ _. each_content (share s.generals) s) (λ _. text [] no_text),
    )

-- A diagram, which is an XML element and a line feed.
pub picture_filled : (sheet : Sheet) (svg element : List ℕ) → IsElement element → svg ≡ element ++ codes "\n" → IsFilled (picture_section sheet svg)
picture_filled sheet svg element is e =
    let drawn : IsContent svg =
    subst IsContent (sym e) (joined element (codes "\n") (proved_elements_are_elements.content element is) (text (codes "\n") (bare_text (codes "\n") refl))) in
    filled picture_heading room_for_picture picture_printer (hinted sheet svg)
    (joined (picture sheet picture_name svg) (paragraph picture_hint) (proved_parts_are_content.picture sheet picture_name svg drawn) (proved_parts_are_content.paragraph picture_hint))

diagram_filled : (t : MessageTable) (c : Chronicle) → IsFilled (diagram_section t c)
diagram_filled t c = let drawn = proved_diagrams_are_elements t c in picture_filled (sheet_of c.scenario c.accesses) (svg_text t c) drawn.0 drawn.1 drawn.2

why_content : (t : MessageTable) (traitors : List ℕ) (g : ℕ) → IsContent (why_part t traitors g)
why_content t traitors g =
    cond_both (nat_lt t.bound 4) (lines (explained_one t traitors g)) (paragraph (elsewhere_words g)) IsContent
    (λ _. proved_parts_are_content.lines (explained_one t traitors g)) (λ _. proved_parts_are_content.paragraph (elsewhere_words g))

node_content : (node : Node) (inside : List ℕ) → IsContent inside → IsContent (label_item node inside)
node_content node inside c =
    cond_both (is_open node.extent) (item (fold (said node) (list inside))) (text_item (said node)) IsContent
    (λ _. proved_parts_are_content.item (fold (said node) (list inside)) (proved_parts_are_content.fold (said node) (list inside) (proved_parts_are_content.list inside c)))
    (λ _. proved_parts_are_content.text_item (said node))

items_content : (t : MessageTable) (traitors : List ℕ) (view : View) (k : ℕ) (w : List ℕ) (p : ℕ) → IsContent (items_below t traitors view k w p)
unfolding items_below
items_content t traitors view zero w p = text [] no_text
items_content t traitors view (suc k) w p =
    all (item_by t traitors view k w p) (others t.generals (p ∷ w))
    (λ j. node_content (node_by t traitors view k w p j) (items_below t traitors (deeper view) k (w ++ j ∷ []) p) (items_content t traitors (deeper view) k (w ++ j ∷ []) p))

root_content : (node : Node) (inside : List ℕ) → IsContent inside → IsContent (root_told node inside)
root_content node inside c =
    joined (paragraph (said node)) (if is_open node.extent then list inside else []) (proved_parts_are_content.paragraph (said node))
    (cond_both (is_open node.extent) (list inside) [] IsContent (λ _. proved_parts_are_content.list inside c) (λ _. text [] no_text))

tree_content : (t : MessageTable) (traitors : List ℕ) (view : View) (p : ℕ) → IsContent (tree_told t traitors view p)
unfolding tree_told
tree_content t traitors view p = root_content _ _ (items_content t traitors (deeper view) t.bound (t.commander ∷ []) p)

lieutenant_content : (t : MessageTable) (traitors : List ℕ) (view : View) (g : ℕ) → IsContent (lieutenant_told t traitors view g)
lieutenant_content t traitors view g =
    let tree : List ℕ = tree_told t traitors view g in
    let why : List ℕ = why_part t traitors g in
    proved_parts_are_content.fold (lieutenant_words g (on traitors g) (decision_of t g)) (tree ++ why) (joined tree why (tree_content t traitors view g) (why_content t traitors g))

one_content : (t : MessageTable) (traitors : List ℕ) (view : View) (g : ℕ) → IsContent (lieutenant_part t traitors view g)
one_content t traitors view g = cond_both (g == t.commander) [] (lieutenant_told t traitors view g) IsContent (λ _. text [] no_text) (λ _. lieutenant_content t traitors view g)

pub lieutenants_filled : (title told : List ℕ) → IsContent told → IsFilled (lieutenants_roomed title told)
lieutenants_filled title told is = filled title room_for_lieutenants lieutenants_printer told is

lieutenants_content : (t : MessageTable) (traitors : List ℕ) (view : View) → IsContent (each_lieutenant t traitors view)
lieutenants_content t traitors view = all (lieutenant_part t traitors view) (range_with_len 0 t.generals) (one_content t traitors view)

heads_content : IsContent access_heads
heads_content =
    proved_parts_are_content.row _
    (joined _ _ (joined _ _ (joined _ _ (proved_parts_are_content.head (codes "Round")) (proved_parts_are_content.head (codes "General"))) (proved_parts_are_content.head (codes "What he does")))
    (proved_parts_are_content.head (codes "What the board answers")))

access_content : (a : Access) → IsContent (access_row a)
access_content a =
    let one : List ℕ = cell (decimal a.round) in
    let two : List ℕ = cell (decimal a.general) in
    let three : List ℕ = cell (asked_words a.request) in
    let four : List ℕ = cell (answered_words a.reply) in
    proved_parts_are_content.row (one ++ two ++ three ++ four)
    (joined (one ++ two ++ three) four
    (joined (one ++ two) three (joined one two (proved_parts_are_content.cell (decimal a.round)) (proved_parts_are_content.cell (decimal a.general))) (proved_parts_are_content.cell (asked_words a.request)))
    (proved_parts_are_content.cell (answered_words a.reply)))

rows_content : (accesses : List Access) → IsContent (flat_map access_row accesses)
rows_content [] = text [] no_text
rows_content (a ∷ accesses) = joined (access_row a) (flat_map access_row accesses) (access_content a) (rows_content accesses)

accesses_content : (accesses : List Access) → IsContent (accesses_told accesses)
accesses_content [] = text [] no_text
accesses_content (a ∷ accesses) =
    let rows : List ℕ = flat_map access_row (a ∷ accesses) in
    proved_parts_are_content.table (access_heads ++ rows) (joined access_heads rows heads_content (rows_content (a ∷ accesses)))

pub accesses_filled : (accesses : List Access) → IsFilled (accesses_section accesses)
accesses_filled accesses = filled accesses_heading room_for_accesses accesses_printer (accesses_told accesses) (accesses_content accesses)

pub chronicle_filled : (words : List ℕ) → IsFilled (chronicle_section words)
chronicle_filled words = filled chronicle_heading room_for_chronicle chronicle_printer (lines_told room_for_chronicle chronicle_printer (flat_map encode_utf8 words)) (lines_content room_for_chronicle chronicle_printer (flat_map encode_utf8 words))

pub verdict_content : (v : Verdict) (bound : List ℕ) → IsContent (verdict_told v bound)
verdict_content v bound =
    let outcome : List ℕ = outcome_words v.alike v.obeyed in
    joined (paragraph outcome) (paragraph bound) (proved_parts_are_content.paragraph outcome) (proved_parts_are_content.paragraph bound)

-- A verdict, and sections with content.
pub sections_content : (ss : List Section) (verdict : List ℕ) → AllByRecursion IsFilled ss → IsContent verdict → IsContent (verdict ++ sections_in room_for_sections ss)
sections_content ss verdict each is =
    joined verdict (sections_in room_for_sections ss) is (proved_sections_are_fitted.content room_for_sections ss (All-from_recursion IsFilled ss each))

parts_content : (words : List ℕ) (schedule : Option (List (List Repeat))) (t : MessageTable) (c : Chronicle) → IsContent (parts words schedule t c)
unfolding parts
parts_content words schedule t c =
    let traitors : List ℕ = traitors_of c.scenario in
    let view : View = view_of c.scenario in
    sections_content (sections words schedule t c) (verdict_part c.verdict) (
      diagram_filled t c,
      (
        lieutenants_filled lieutenants_heading (each_lieutenant t traitors view) (lieutenants_content t traitors view),
        (
          scenario_filled words,
          (
            programs_filled c.scenario,
            (schedule_filled schedule, (accesses_filled c.accesses, (chronicle_filled (chronicle_text c), tt))),
          ),
        ),
      ),
    )
    (verdict_content c.verdict (bound_told c.verdict.bound (bound_words false)))

pub proved_campaign_pages_are_elements : CampaignPagesAreElements
proved_campaign_pages_are_elements words schedule t c =
    proved_pages_are_elements (title c.scenario) (parts words schedule t c) (parts_content words schedule t c)
