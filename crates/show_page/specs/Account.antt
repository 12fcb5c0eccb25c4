-- The page of a campaign with oral messages in HTML, section by section.
use Rattle.std.specs.Prelude.{ℕ, ◌==◌, nat_lt, Bool, true, false, if◌then◌else◌, List, [], ◌∷◌, ◌++◌, length, flat_map, codes, encode_utf8, Option, None, Some}
use Rattle.std.specs.Fmt.{decimal}
use Rattle.std.specs.List.{list_all, range_with_len}
use Rattle.board.specs.Board.{Access}
use Rattle.book.specs.Decisions.{decision_of}
use Rattle.book.specs.Explained.{explained_one}
use Rattle.book.specs.Table.{MessageTable}
use Rattle.show_diagram.specs.Foot.{bound_words}
use Rattle.show_diagram.specs.Layout.{width}
use Rattle.show_diagram.specs.Svg.{campaign_words, svg_text}
use Rattle.show_diagram.specs.Words.{answered_words, asked_words}
use Rattle.show_tree.specs.declared.node.View.{View}
use Rattle.explain.specs.Explained.{explained_at}
use Rattle.campaign_orders.specs.Text.{schedule_text}
use Rattle.insn.specs.declared.insn.Insn.{Insn}
use Rattle.insn.specs.Program.{slots_of}
use Rattle.label.specs.Labels.{on}
use Rattle.html.specs.Page.{begun_lines, cell, fold, head, lines, page, paragraph, picture, row, table}
use Rattle.html.specs.Sections.{Section, sections_in}
use Rattle.html.specs.declared.sheet.Sheet.{Sheet}
use Rattle.html.specs.declared.sheet.Sheet.TheVariants.{Large, Several, Small}
use Rattle.show_table.specs.Retold.{traitors_of}
use Rattle.round.specs.Scenario.{Scenario, program_of}
use Rattle.trace.specs.Text.{chronicle_text}
use Rattle.world.specs.Chronicle.{Chronicle}
use Rattle.world.specs.declared.schedule.Repeat.{Repeat}
use Rattle.world.specs.declared.verdict.Verdict.{Verdict}
use Rattle.show_page.specs.Calls.{named_calls}
use Rattle.show_page.specs.Printers.{accesses_printer, chronicle_printer, lieutenants_printer, picture_printer, programs_printer, scenario_printer, schedule_printer}
use Rattle.show_page.specs.Room.{fitted, lines_told, large_sheet, over, room_for_accesses, room_for_chronicle, room_for_lieutenants, room_for_picture, room_for_programs, room_for_scenario, room_for_schedule, room_for_sections, room_for_story, room_for_units, roomed, share, small_sheet, units_words}
use Rattle.show_page.specs.Story.{behind_story, story}
use Rattle.show_page.specs.Trees.{tree_told}

-- ---- headings

-- Writes the heading of the scenario's section, which mentions the story unless it is empty.
unfoldable pub scenario_heading : List ℕ → List ℕ
scenario_heading [] = codes "Scenario"
scenario_heading (c ∷ cs) = codes "Story and scenario"

unfoldable pub picture_heading : List ℕ
picture_heading = codes "Who sent what to whom"

unfoldable pub chronicle_heading : List ℕ
chronicle_heading = codes "Chronicle"

unfoldable pub programs_heading : List ℕ
programs_heading = codes "Programs of the traitors"

unfoldable pub lieutenants_heading : List ℕ
lieutenants_heading = codes "What each lieutenant received, and why he decides so"

unfoldable pub accesses_heading : List ℕ
accesses_heading = codes "Accesses to the board"

unfoldable pub schedule_heading : List ℕ
schedule_heading = codes "Who acts when"

unfoldable pub recorded_words : List ℕ
recorded_words = codes "As in the chronicle: the accesses to the board are made in its order."

unfoldable pub unscheduled_words : List ℕ
unscheduled_words =
    codes "Without a schedule: in each round the loyal generals write, and then each traitor acts until he ends, in "
    ++ codes "the order of their numbers."

unfoldable pub behind_words : List ℕ
behind_words =
    codes "After a round's line, and in a round without one, the loyal generals who have not written do so, and "
    ++ codes "then each traitor acts until he ends, in the order of their numbers."

unfoldable pub picture_name : List ℕ
picture_name = codes "Space-time diagram"

unfoldable pub picture_hint : List ℕ
picture_hint =
    codes "byzlab draw, with --schedule or --chronicle as here, writes this picture as a file of its own, to enlarge or "
    ++ codes "to print at any size."

-- ---- sections

-- Writes the lines of a story, or nothing if there is no story.
abbrev pub story_told : List ℕ → List ℕ
story_told [] = []
story_told (c ∷ cs) = lines (c ∷ cs)

-- Writes what replaces a scenario for which the page has no room: the story, if there is room for it, and where to find
-- the text.
abbrev pub scenario_instead : List ℕ → List ℕ
scenario_instead text =
    fitted room_for_story scenario_printer (story_told (story text)) ++ over room_for_scenario scenario_printer

-- Writes a scenario: its story, and then its other lines. If the text is longer than all sections together may be,
-- writes what replaces it.
abbrev pub scenario_told : List ℕ → List ℕ
scenario_told text =
    if nat_lt room_for_sections (length text)
    then scenario_instead text
    else story_told (story text) ++ lines (behind_story text)

abbrev pub scenario_section : List ℕ → Section
scenario_section text = record {
  title = scenario_heading (story text);
  told = scenario_told text;
  room = room_for_scenario;
  instead = scenario_instead text;
}

-- Writes a schedule: its lines, and a paragraph on what happens in a round after its line. If the schedule has no
-- entries, writes a paragraph that says so.
abbrev pub schedule_told : List (List Repeat) → List ℕ
schedule_told schedule =
    if list_all (λ line. length line == 0) schedule
    then paragraph unscheduled_words
    else lines_told room_for_schedule schedule_printer (schedule_text schedule) ++ paragraph behind_words

abbrev pub course_told : Option (List (List Repeat)) → List ℕ
course_told None = paragraph recorded_words
course_told (Some schedule) = schedule_told schedule

abbrev pub schedule_section : Option (List (List Repeat)) → Section
schedule_section schedule = roomed schedule_heading room_for_schedule schedule_printer (course_told schedule)

-- Writes a general's name, such as `General 2`. The definitions after it write the program of a traitor, and what the
-- verifier knows about it if it is short enough.
abbrev pub general_name : ℕ → List ℕ
general_name g = codes "General " ++ decimal g

abbrev pub explained_told : List Insn → List ℕ
explained_told program =
    if nat_lt room_for_units (length (slots_of program))
    then paragraph (units_words (length (slots_of program)) programs_printer)
    else begun_lines (explained_at (named_calls program) program)

abbrev pub program_told : ℕ → ℕ → List Insn → List ℕ
program_told room g program = fold (general_name g) (fitted room programs_printer (explained_told program))

abbrev pub program_if : ℕ → ℕ → Option (List Insn) → List ℕ
program_if room g None = []
program_if room g (Some program) = program_told room g program

abbrev pub program_part : ℕ → Scenario → ℕ → List ℕ
program_part room s g = program_if room g (program_of s g)

-- Writes the programs of all traitors. If the explanation of a program has more than `room` bytes, a paragraph in its
-- place says where to find it.
abbrev pub each_program : ℕ → Scenario → List ℕ
each_program room s = flat_map (program_part room s) (range_with_len 0 s.generals)

unfoldable pub no_programs : List ℕ
no_programs = codes "None: all generals are loyal."

abbrev pub programs_told : List ℕ → List ℕ
programs_told [] = paragraph no_programs
programs_told (c ∷ cs) = c ∷ cs

-- Writes what replaces the programs, which have `bytes` bytes, if there is no room for them. In the replacement each
-- program has its share of the room.
abbrev pub programs_shared : Scenario → ℕ → List ℕ
programs_shared s bytes = if nat_lt room_for_programs bytes then each_program (share s.generals) s else []

abbrev pub programs_roomed : Scenario → List ℕ → Section
programs_roomed s told = record {
  title = programs_heading;
  told = told;
  room = room_for_programs;
  instead = programs_shared s (length told);
}

abbrev pub programs_section : Scenario → Section
programs_section s = programs_roomed s (programs_told (each_program room_for_sections s))

-- Returns the paper for a diagram of the width w, on which its letters can be read.
abbrev pub sheet_for : ℕ → Sheet
sheet_for w = if nat_lt large_sheet w then Several else if nat_lt small_sheet w then Large else Small

abbrev pub sheet_of : Scenario → List Access → Sheet
sheet_of s accesses = sheet_for (width s.generals accesses)

abbrev pub hinted : Sheet → List ℕ → List ℕ
hinted sheet svg = picture sheet picture_name svg ++ paragraph picture_hint

abbrev pub picture_section : Sheet → List ℕ → Section
picture_section sheet svg = roomed picture_heading room_for_picture picture_printer (hinted sheet svg)

abbrev pub diagram_section : MessageTable → Chronicle → Section
diagram_section t c = picture_section (sheet_of c.scenario c.accesses) (svg_text t c)

-- Returns how a page shows the trees of the lieutenants: with two levels of labels below the commander's. The labels
-- below a label are left out if the lieutenant received the same for it and for all of them, and none is known to be a
-- lie.
abbrev pub view_of : Scenario → View
view_of s = record { depth = 2; folds = true; order = Some s.order }

abbrev pub traitor_words : Bool → List ℕ
traitor_words is_traitor = if is_traitor then codes ", a traitor," else []

unfoldable pub lieutenant_words : ℕ → Bool → ℕ → List ℕ
lieutenant_words g is_traitor order =
    codes "Lieutenant " ++ (decimal g ++ (traitor_words is_traitor ++ (codes " decides " ++ decimal order)))

-- Writes the words that say how to print the lists by which a lieutenant decides. In a campaign of five rounds he may
-- have more than a thousand lists, so a page omits them.
unfoldable pub elsewhere_words : ℕ → List ℕ
elsewhere_words g =
    codes "With five rounds a page leaves out the lists by which he decides: byzlab play, with --schedule as here, "
    ++ codes "or byzlab audit of the chronicle prints them with --explain --of " ++ (decimal g ++ codes ".")

abbrev pub why_part : MessageTable → List ℕ → ℕ → List ℕ
why_part t traitors g = if nat_lt t.bound 4 then lines (explained_one t traitors g) else paragraph (elsewhere_words g)

abbrev pub lieutenant_told : MessageTable → List ℕ → View → ℕ → List ℕ
lieutenant_told t traitors view g =
    fold (lieutenant_words g (on traitors g) (decision_of t g)) (tree_told t traitors view g ++ why_part t traitors g)

abbrev pub lieutenant_part : MessageTable → List ℕ → View → ℕ → List ℕ
lieutenant_part t traitors view g = if g == t.commander then [] else lieutenant_told t traitors view g

abbrev pub each_lieutenant : MessageTable → List ℕ → View → List ℕ
each_lieutenant t traitors view = flat_map (lieutenant_part t traitors view) (range_with_len 0 t.generals)

-- Returns the section about the lieutenants with this title and this HTML.
abbrev pub lieutenants_roomed : List ℕ → List ℕ → Section
lieutenants_roomed title told = roomed title room_for_lieutenants lieutenants_printer told

abbrev pub lieutenants_section : MessageTable → Scenario → Section
lieutenants_section t s = lieutenants_roomed lieutenants_heading (each_lieutenant t (traitors_of s) (view_of s))

-- Writes the heads of the columns in the table of accesses. The table has a row for each access, in the order in which
-- the board received them. There is no table if there are no accesses.
abbrev pub access_heads : List ℕ
access_heads = row (head (codes "Round") ++ head (codes "General") ++ head (codes "What he does")
    ++ head (codes "What the board answers"))

abbrev pub access_row : Access → List ℕ
access_row a = row (cell (decimal a.round) ++ cell (decimal a.general) ++ cell (asked_words a.request)
    ++ cell (answered_words a.reply))

abbrev pub access_table : List Access → List ℕ
access_table accesses = table (access_heads ++ flat_map access_row accesses)

abbrev pub accesses_told : List Access → List ℕ
accesses_told [] = []
accesses_told (a ∷ accesses) = access_table (a ∷ accesses)

abbrev pub accesses_section : List Access → Section
accesses_section accesses = roomed accesses_heading room_for_accesses accesses_printer (accesses_told accesses)

-- Returns the section with the chronicle, in which each byte is the Unicode character with this number.
abbrev pub chronicle_section : List ℕ → Section
chronicle_section text =
    roomed chronicle_heading room_for_chronicle chronicle_printer
    (lines_told room_for_chronicle chronicle_printer (flat_map encode_utf8 text))

-- Writes the outcome of a campaign in a sentence: whether the loyal lieutenants decide alike (IC1), and whether they obey
-- a loyal commander (IC2). None means that the commander is a traitor.
unfoldable pub outcome_words : Bool → Option Bool → List ℕ
outcome_words true (Some true) = codes "The loyal lieutenants decide alike, and obey the loyal commander."
outcome_words true (Some false) = codes "The loyal lieutenants decide alike, but do not obey the loyal commander."
outcome_words false (Some true) = codes "The loyal lieutenants do not decide alike, but obey the loyal commander."
outcome_words false (Some false) =
    codes "The loyal lieutenants do not decide alike, and do not all obey the loyal commander."
outcome_words true None =
    codes "The loyal lieutenants decide alike; the commander is a traitor, so nobody has to obey him."
outcome_words false None =
    codes "The loyal lieutenants do not decide alike; the commander is a traitor, so nobody has to obey him."

-- The words for what the algorithm promises if the bound holds (TOPLAS 1982, IC1 and IC2).
unfoldable pub promise_words : List ℕ
promise_words =
    codes "The bound holds: there are few enough traitors, so that loyal lieutenants decide alike, and obey a loyal "
    ++ codes "commander, whatever the traitors do."

-- Writes the words for what the algorithm promises if the bound holds, and otherwise the words `without`.
abbrev pub bound_told : Bool → List ℕ → List ℕ
bound_told bound without = if bound then promise_words else without

-- Writes the verdict on a campaign: its outcome, and the words `bound` on what the algorithm promises.
abbrev pub verdict_told : Verdict → List ℕ → List ℕ
verdict_told v bound = paragraph (outcome_words v.alike v.obeyed) ++ paragraph bound

abbrev pub verdict_part : Verdict → List ℕ
verdict_part v = verdict_told v (bound_told v.bound (bound_words false))

-- Returns all sections of a page. `t` is the message table of the chronicle's letters, `text` is the text of the
-- chronicle's scenario, and `schedule` is the schedule by which the campaign was played, if there is one.
abbrev pub sections : List ℕ → Option (List (List Repeat)) → MessageTable → Chronicle → List Section
sections text schedule t c =
    diagram_section t c ∷ lieutenants_section t c.scenario ∷ scenario_section text ∷ programs_section c.scenario
    ∷ schedule_section schedule ∷ accesses_section c.accesses ∷ chronicle_section (chronicle_text c) ∷ []

-- Writes the verdict, and then all sections, as far as there is room for them.
unfoldable pub parts : List ℕ → Option (List (List Repeat)) → MessageTable → Chronicle → List ℕ
parts text schedule t c = verdict_part c.verdict ++ sections_in room_for_sections (sections text schedule t c)

-- Writes the description of a campaign, with the same words as its diagram.
abbrev pub title : Scenario → List ℕ
title s = campaign_words s.generals s.bound s.commander s.order

-- Writes the page of a campaign, with the campaign's description as its title.
abbrev pub page_text : List ℕ → Option (List (List Repeat)) → MessageTable → Chronicle → List ℕ
page_text text schedule t c = page (title c.scenario) (parts text schedule t c)
