-- The length of a page is limited.
use Rattle.std.proofs.Common.{ℕ, zero, suc, ◌+◌, ◌*◌, ◌^◌, ◌<◌, ◌≤◌, ◌≡◌, Bool, true, false, List, [], ◌∷◌, ◌++◌, length, length-append, refl, arith, codes, encode_utf8, Option, None, Some}
use Rattle.std.specs.Prelude.{nat_le, nat_lt}
use Rattle.std.specs.Fmt.{decimal}
use Rattle.std.specs.List.{All, flat_map, range_with_len}
use Rattle.std.proofs.lemmas.Bool.{agree_below_at, cond_both, leb-true, ltb-false, ltb-true}
use Rattle.std.proofs.lemmas.Fmt.{length-decimal-le}
use Rattle.std.proofs.lemmas.List.Elements.{All-from_recursion}
use Rattle.board.specs.Board.{Access}
use Rattle.book.specs.Table.{MessageTable}
use Rattle.show_diagram.specs.Foot.{bound_words}
use Rattle.show_diagram.specs.Svg.{campaign_words, svg_text}
use Rattle.insn.specs.declared.insn.Insn.{Insn}
use Rattle.html.specs.Laws.{IsRoomy}
use Rattle.html.specs.Page.{fold_end, fold_start, head_end, head_middle, heading, look, look_end, page, page_end, page_start, paragraph, preamble, shown}
use Rattle.html.specs.declared.sheet.Sheet.{Sheet}
use Rattle.html.specs.Sections.{Section, heading_bytes, rooms, sections_in}
use Rattle.html.proofs.SectionLaws.{proved_sections_are_fitted}
use Rattle.show_table.specs.Retold.{traitors_of}
use Rattle.round.specs.Scenario.{IsScenario, Scenario, program_of}
use Rattle.trace.specs.Text.{chronicle_text}
use Rattle.world.specs.Chronicle.{Chronicle}
use Rattle.world.specs.declared.schedule.Repeat.{Repeat}
use Rattle.world.specs.declared.verdict.Verdict.{Verdict}
use Rattle.show_page.specs.Account.{accesses_heading, accesses_section, accesses_told, bound_told, chronicle_heading, chronicle_section, course_told, each_lieutenant, each_program, explained_told, general_name, hinted, lieutenants_heading, lieutenants_roomed, outcome_words, parts, picture_heading, picture_section, program_if, program_part, programs_heading, programs_section, programs_told, promise_words, scenario_heading, scenario_section, schedule_heading, schedule_section, sections, sheet_of, story_told, title, verdict_part, verdict_told, view_of}
use Rattle.show_page.specs.Laws.{CampaignPagesAreShort}
use Rattle.show_page.specs.Printers.{accesses_printer, chronicle_printer, lieutenants_printer, picture_printer, programs_printer, scenario_printer, schedule_printer}
use Rattle.show_page.specs.Room.{fitted, lines_told, over, over_words, room_for_sections, roomed, share}
use Rattle.show_page.specs.Story.{story}
use Rattle.show_page.proofs.ShortLemmas.{both, known, shown_short}

-- The length of a text between two fixed texts.
pub paragraph_short : (text : List ℕ) (n : ℕ) → length text ≤ n → length (paragraph text) ≤ 9 * n + 8
paragraph_short text n short =
    let start : length (codes "<p>") ≤ 3 = known (codes "<p>") 3 refl in
    let end : length (codes "</p>\n") ≤ 5 = known (codes "</p>\n") 5 refl in
    let told = shown_short text n short in
    omega (arith, length-append (codes "<p>" ++ shown text) (codes "</p>\n"), length-append (codes "<p>") (shown text))

pub heading_short : (text : List ℕ) (n : ℕ) → length text ≤ n → length (heading text) ≤ 9 * n + 10
heading_short text n short =
    let start : length (codes "<h2>") ≤ 4 = known (codes "<h2>") 4 refl in
    let end : length (codes "</h2>\n") ≤ 6 = known (codes "</h2>\n") 6 refl in
    let told = shown_short text n short in
    omega (arith, length-append (codes "<h2>" ++ shown text) (codes "</h2>\n"), length-append (codes "<h2>") (shown text))

-- The length of the text that replaces a section for which there is no room.
over_words_short : (room : ℕ) (who : List ℕ) → room < 10 ^ 6 → length who ≤ 130 → length (over_words room who) ≤ 200
unfolding over_words
over_words_short room who low short =
    let digits : length (decimal room) ≤ 6 = length-decimal-le 6 room (omega arith) low (omega arith) in
    let start : length (codes "This part is longer than its share, ") ≤ 40 = known (codes "This part is longer than its share, ") 40 refl in
    let middle : length (codes " bytes of HTML: ") ≤ 20 = known (codes " bytes of HTML: ") 20 refl in
    omega (arith, length-append (codes "This part is longer than its share, ") (decimal room ++ (codes " bytes of HTML: " ++ who)), length-append (decimal room) (codes " bytes of HTML: " ++ who), length-append (codes " bytes of HTML: ") who)

over_short : (room : ℕ) (who : List ℕ) → room < 10 ^ 6 → length who ≤ 130 → length (over room who) ≤ 2000
over_short room who low short = let told = paragraph_short (over_words room who) 200 (over_words_short room who low short) in omega arith

fitted_short : (room : ℕ) (who part : List ℕ) → 2000 ≤ room → room < 10 ^ 6 → length who ≤ 130 → length (fitted room who part) ≤ room
fitted_short room who part high low short =
    cond_both (nat_lt room (length part)) (over room who) part (λ xs. length xs ≤ room) (λ _. let told = over_short room who low short in omega arith) (λ e. ltb-false room (length part) e)

lower : (n middle m : ℕ) → n ≤ middle → middle ≤ m → n ≤ m
lower n middle m one two = omega arith

roomy : (title : List ℕ) (room : ℕ) (who told : List ℕ) → 2000 ≤ room → room < 10 ^ 6 → length who ≤ 130 → IsRoomy (roomed title room who told)
roomy title room who told high low short = lower (length (over room who)) 2000 room (over_short room who low short) high

-- ---- the replacement of each section has room

pub scenario_roomy : (words : List ℕ) → IsRoomy (scenario_section words)
unfolding scenario_printer
scenario_roomy words =
    let his : length scenario_printer ≤ 130 = known scenario_printer 130 refl in
    let tale : List ℕ = fitted 20000 scenario_printer (story_told (story words)) in
    lower (length (tale ++ over 151000 scenario_printer)) 22000 151000
    (both tale (over 151000 scenario_printer) 20000 2000 (fitted_short 20000 scenario_printer (story_told (story words)) (omega arith) (omega arith) his) (over_short 151000 scenario_printer (omega arith) his))
    (omega arith)

pub schedule_roomy : (schedule : Option (List (List Repeat))) → IsRoomy (schedule_section schedule)
unfolding schedule_printer
schedule_roomy schedule = roomy schedule_heading 31000 schedule_printer (course_told schedule) (omega arith) (omega arith) (known schedule_printer 130 refl)

name_short : (g : ℕ) → g < 10 ^ 2 → length (general_name g) ≤ 10
name_short g low = both (codes "General ") (decimal g) 8 2 (known (codes "General ") 8 refl) (length-decimal-le 2 g (omega arith) low (omega arith))

program_short : (room g : ℕ) (program : Option (List Insn)) → 2000 ≤ room → room < 10 ^ 6 → g < 10 ^ 2 → length (program_if room g program) ≤ room + 140
unfolding programs_printer
program_short room g None high low few = omega arith
program_short room g (Some program) high low few =
    let name : List ℕ = general_name g in
    let told : List ℕ = fitted room programs_printer (explained_told program) in
    let his : length (shown name) ≤ 90 = shown_short name 10 (name_short g few) in
    let short : length told ≤ room = fitted_short room programs_printer (explained_told program) high low (known programs_printer 130 refl) in
    let one = both (codes "<details>\n<summary>") (shown name) 19 90 (known (codes "<details>\n<summary>") 19 refl) his in
    let two = both (codes "<details>\n<summary>" ++ shown name) (codes "</summary>\n") 109 11 one (known (codes "</summary>\n") 11 refl) in
    let three = both (fold_start name) told 120 room two short in
    let four = both (fold_start name ++ told) fold_end (120 + room) 11 three (known fold_end 11 refl) in
    omega arith

-- The sum of n equal numbers.
times : ℕ → ℕ → ℕ
times zero k = 0
times (suc n) k = k + times n k

each_short : (room : ℕ) (s : Scenario) (first n : ℕ) → 2000 ≤ room → room < 10 ^ 6 → first + n ≤ 13 → length (flat_map (program_part room s) (range_with_len first n)) ≤ times n (room + 140)
unfolding times
each_short room s first zero high low few = omega arith
each_short room s first (suc n) high low few =
    both (program_part room s first) (flat_map (program_part room s) (range_with_len (first + 1) n)) (room + 140) (times n (room + 140))
    (program_short room first (program_of s first) high low (omega arith)) (each_short room s (first + 1) n high low (omega arith))

shares_high : (n : ℕ) → n < 14 → 2000 ≤ share n
shares_high n few = leb-true 2000 (share n) (agree_below_at (λ x. nat_le 2000 (share x)) (λ _. true) 14 n refl few)

shares_low : (n : ℕ) → n < 14 → share n < 10 ^ 6
shares_low n few = ltb-true (share n) 1000000 (agree_below_at (λ x. nat_lt (share x) 1000000) (λ _. true) 14 n refl few)

shares_short : (n : ℕ) → n < 14 → times n (share n + 140) ≤ 150000
unfolding times
shares_short n few = leb-true (times n (share n + 140)) 150000 (agree_below_at (λ x. nat_le (times x (share x + 140)) 150000) (λ _. true) 14 n refl few)

shared_short : (s : Scenario) → IsScenario s → length (each_program (share s.generals) s) ≤ 150000
shared_short s is =
    let n : ℕ = s.generals in
    let few : n < 14 = omega arith in
    let all = each_short (share n) s 0 n (shares_high n few) (shares_low n few) (omega arith) in
    let whole = shares_short n few in
    omega arith

pub programs_roomy : (s : Scenario) → IsScenario s → IsRoomy (programs_section s)
programs_roomy s is =
    cond_both (nat_lt 150000 (length (programs_told (each_program room_for_sections s)))) (each_program (share s.generals) s) [] (λ xs. length xs ≤ 150000)
    (λ _. shared_short s is) (λ _. omega arith)

pub picture_roomy : (sheet : Sheet) (svg : List ℕ) → IsRoomy (picture_section sheet svg)
unfolding picture_printer
picture_roomy sheet svg = roomy picture_heading 600000 picture_printer (hinted sheet svg) (omega arith) (omega arith) (known picture_printer 130 refl)

pub lieutenants_roomy : (title told : List ℕ) → IsRoomy (lieutenants_roomed title told)
unfolding lieutenants_printer
lieutenants_roomy title told = roomy title 525000 lieutenants_printer told (omega arith) (omega arith) (known lieutenants_printer 130 refl)

pub accesses_roomy : (accesses : List Access) → IsRoomy (accesses_section accesses)
unfolding accesses_printer
accesses_roomy accesses = roomy accesses_heading 130000 accesses_printer (accesses_told accesses) (omega arith) (omega arith) (known accesses_printer 130 refl)

pub chronicle_roomy : (words : List ℕ) → IsRoomy (chronicle_section words)
unfolding chronicle_printer
chronicle_roomy words = roomy chronicle_heading 400000 chronicle_printer (lines_told 400000 chronicle_printer (flat_map encode_utf8 words)) (omega arith) (omega arith) (known chronicle_printer 130 refl)

-- ---- the headings of the sections

pub scenario_headed : (tale : List ℕ) → length (heading (scenario_heading tale)) ≤ 487
unfolding scenario_heading
scenario_headed [] = heading_short (scenario_heading []) 53 (known (scenario_heading []) 53 refl)
scenario_headed (c ∷ cs) = heading_short (scenario_heading (c ∷ cs)) 53 (known (scenario_heading (c ∷ cs)) 53 refl)

pub schedule_headed : length (heading schedule_heading) ≤ 487
unfolding schedule_heading
schedule_headed = heading_short schedule_heading 53 (known schedule_heading 53 refl)

pub programs_headed : length (heading programs_heading) ≤ 487
unfolding programs_heading
programs_headed = heading_short programs_heading 53 (known programs_heading 53 refl)

pub picture_headed : length (heading picture_heading) ≤ 487
unfolding picture_heading
picture_headed = heading_short picture_heading 53 (known picture_heading 53 refl)

lieutenants_headed : length (heading lieutenants_heading) ≤ 487
unfolding lieutenants_heading
lieutenants_headed = heading_short lieutenants_heading 53 (known lieutenants_heading 53 refl)

pub accesses_headed : length (heading accesses_heading) ≤ 487
unfolding accesses_heading
accesses_headed = heading_short accesses_heading 53 (known accesses_heading 53 refl)

pub chronicle_headed : length (heading chronicle_heading) ≤ 487
unfolding chronicle_heading
chronicle_headed = heading_short chronicle_heading 53 (known chronicle_heading 53 refl)

-- ---- the verdict

outcome_short : (b : Bool) (o : Option Bool) → length (outcome_words b o) ≤ 120
unfolding outcome_words
outcome_short true (Some true) = known (outcome_words true (Some true)) 120 refl
outcome_short true (Some false) = known (outcome_words true (Some false)) 120 refl
outcome_short false (Some true) = known (outcome_words false (Some true)) 120 refl
outcome_short false (Some false) = known (outcome_words false (Some false)) 120 refl
outcome_short true None = known (outcome_words true None) 120 refl
outcome_short false None = known (outcome_words false None) 120 refl

promise_short : length promise_words ≤ 200
unfolding promise_words
promise_short = known promise_words 200 refl

pub bound_short : (b : Bool) (without : List ℕ) → length without ≤ 200 → length (bound_told b without) ≤ 200
bound_short true without short = promise_short
bound_short false without short = short

pub verdict_short : (v : Verdict) (bound : List ℕ) → length bound ≤ 200 → length (verdict_told v bound) ≤ 4000
verdict_short v bound short =
    let outcome : List ℕ = outcome_words v.alike v.obeyed in
    let one = paragraph_short outcome 120 (outcome_short v.alike v.obeyed) in
    let two = paragraph_short bound 200 short in
    let whole = both (paragraph outcome) (paragraph bound) 1088 1808 (omega arith) (omega arith) in
    omega arith

-- The length of the campaign's description.
words_short : (n m c order : ℕ) → n < 10 ^ 2 → m < 10 ^ 2 → c < 10 ^ 2 → order < 10 ^ 10 → length (campaign_words n m c order) ≤ 100
unfolding campaign_words
words_short n m c order hn hm hc ho =
    let d1 = length-decimal-le 2 n (omega arith) hn (omega arith) in
    let d2 = length-decimal-le 2 m (omega arith) hm (omega arith) in
    let d3 = length-decimal-le 2 c (omega arith) hc (omega arith) in
    let d4 = length-decimal-le 10 order (omega arith) ho (omega arith) in
    let t1 = both (codes " was given order ") (decimal order) 17 10 (known (codes " was given order ") 17 refl) d4 in
    let t2 = both (decimal c) (codes " was given order " ++ decimal order) 2 27 d3 t1 in
    let t3 = both (codes "; commander ") (decimal c ++ (codes " was given order " ++ decimal order)) 12 29 (known (codes "; commander ") 12 refl) t2 in
    let t4 = both (decimal m) (codes "; commander " ++ (decimal c ++ (codes " was given order " ++ decimal order))) 2 41 d2 t3 in
    let t5 = both (codes " generals, traitors provided for: ") (decimal m ++ (codes "; commander " ++ (decimal c ++ (codes " was given order " ++ decimal order)))) 34 43 (known (codes " generals, traitors provided for: ") 34 refl) t4 in
    let t6 = both (decimal n) (codes " generals, traitors provided for: " ++ (decimal m ++ (codes "; commander " ++ (decimal c ++ (codes " was given order " ++ decimal order))))) 2 77 d1 t5 in
    omega arith

pub title_short : (s : Scenario) → IsScenario s → length (title s) ≤ 100
title_short s is = words_short s.generals s.bound s.commander s.order (omega arith) (omega arith) (omega arith) (omega arith)

-- The length of a page without its sections.
preamble_short : length preamble ≤ 500
unfolding preamble
preamble_short = known preamble 500 refl

look_short : length look ≤ 2000
unfolding look
look_short = known look 2000 refl

start_short : (title : List ℕ) → length title ≤ 150 → length (page_start title) ≤ 5400
start_short title short =
    let his = shown_short title 150 short in
    let a : List ℕ = preamble ++ look in
    let b : List ℕ = a ++ look_end in
    let c : List ℕ = b ++ shown title in
    let d : List ℕ = c ++ head_middle in
    let e : List ℕ = d ++ shown title in
    let s1 = both preamble look 500 2000 preamble_short look_short in
    let s2 = both a look_end 2500 50 s1 (known look_end 50 refl) in
    let s3 = both b (shown title) 2550 1350 s2 his in
    let s4 = both c head_middle 3900 50 s3 (known head_middle 50 refl) in
    let s5 = both d (shown title) 3950 1350 s4 his in
    both e head_end 5300 100 s5 (known head_end 100 refl)

pub page_short : (title parts : List ℕ) (n : ℕ) → length title ≤ 150 → length parts ≤ n → length (page title parts) ≤ n + 5500
page_short title parts n short few =
    let start = start_short title short in
    let end : length page_end ≤ 100 = known page_end 100 refl in
    omega (arith, length-append (page_start title ++ parts) page_end, length-append (page_start title) parts)

-- The length of the verdict and the sections.
pub sections_short : (ss : List Section) (verdict : List ℕ) → rooms ss ≤ 1987000 → All IsRoomy ss → heading_bytes ss ≤ 3500 → length verdict ≤ 4000 → length (verdict ++ sections_in 1987000 ss) ≤ 1994500
sections_short ss verdict low each few short =
    let all = proved_sections_are_fitted.short 1987000 ss low each in
    omega (arith, length-append verdict (sections_in 1987000 ss))

parts_short : (words : List ℕ) (schedule : Option (List (List Repeat))) (t : MessageTable) (c : Chronicle) → IsScenario c.scenario → length (parts words schedule t c) ≤ 1994500
unfolding parts
parts_short words schedule t c is =
    let ss : List Section = sections words schedule t c in
    let each : All IsRoomy ss =
    All-from_recursion IsRoomy ss (
      picture_roomy (sheet_of c.scenario c.accesses) (svg_text t c),
      (
        lieutenants_roomy lieutenants_heading (each_lieutenant t (traitors_of c.scenario) (view_of c.scenario)),
        (
          scenario_roomy words,
          (
            programs_roomy c.scenario is,
            (schedule_roomy schedule, (accesses_roomy c.accesses, (chronicle_roomy (chronicle_text c), tt))),
          ),
        ),
      ),
    ) in
    let h1 = scenario_headed (story words) in
    let h2 = schedule_headed in
    let h3 = programs_headed in
    let h4 = picture_headed in
    let h5 = lieutenants_headed in
    let h6 = accesses_headed in
    let h7 = chronicle_headed in
    let headed : length (heading picture_heading) + (length (heading lieutenants_heading) + (length (heading (scenario_heading (story words))) + (length (heading programs_heading)
    + (length (heading schedule_heading) + (length (heading accesses_heading) + (length (heading chronicle_heading) + 0)))))) ≤ 3500 = omega arith in
    sections_short ss (verdict_part c.verdict) (leb-true (rooms ss) 1987000 refl) each headed
    (verdict_short c.verdict (bound_told c.verdict.bound (bound_words false)) (bound_short c.verdict.bound (bound_words false) (known (bound_words false) 200 refl)))

pub proved_campaign_pages_are_short : CampaignPagesAreShort
proved_campaign_pages_are_short words schedule t c is =
    let whole = page_short (title c.scenario) (parts words schedule t c) 1994500 (let his = title_short c.scenario is in omega arith) (parts_short words schedule t c is) in omega arith
