-- The length of a signed campaign's page is limited.
use Rattle.std.proofs.Common.{◌+◌, ◌≤◌, ℕ, Bool, true, false, List, ◌++◌, length, refl, arith, codes, Option}
use Rattle.std.specs.List.{All}
use Rattle.std.proofs.lemmas.Bool.{leb-true}
use Rattle.std.proofs.lemmas.List.Elements.{All-from_recursion}
use Rattle.html.specs.Laws.{IsRoomy}
use Rattle.html.specs.Page.{heading}
use Rattle.html.specs.Sections.{Section, rooms}
use Rattle.round.specs.Scenario.{IsScenario, Scenario}
use Rattle.show_chains.specs.Foot.{bound_words}
use Rattle.show_chains.specs.Svg.{signed_svg, signed_words}
use Rattle.trace.specs.SignedText.{signed_text}
use Rattle.world.specs.Chronicle.{Chronicle}
use Rattle.world.specs.declared.schedule.Repeat.{Repeat}
use Rattle.show_page.specs.Account.{accesses_heading, bound_told, chronicle_heading, picture_heading, programs_heading, scenario_heading, schedule_heading, sheet_of, title}
use Rattle.show_page.proofs.ShortLemmas.{both, known}
use Rattle.show_page.proofs.ShortLaws.{accesses_headed, accesses_roomy, chronicle_headed, chronicle_roomy, heading_short, lieutenants_roomy, page_short, picture_headed, picture_roomy, programs_headed, programs_roomy, bound_short, scenario_headed, scenario_roomy, schedule_headed, schedule_roomy, sections_short, title_short, verdict_short}
use Rattle.show_page.specs.Story.{story}
use Rattle.show_page.specs.SignedAccount.{each_lieutenant, lieutenants_heading, parts, sections, verdict_part}
use Rattle.show_page.specs.SignedLaws.{SignedPagesAreShort}

lieutenants_headed : length (heading lieutenants_heading) ≤ 487
unfolding lieutenants_heading
lieutenants_headed = heading_short lieutenants_heading 53 (known lieutenants_heading 53 refl)

title_signed : (s : Scenario) → IsScenario s → length (signed_words s) ≤ 150
title_signed s is =
    let numbers = title_short s is in
    let more : length (codes "; signed messages") ≤ 50 = known (codes "; signed messages") 50 refl in
    both (title s) (codes "; signed messages") 100 50 numbers more

parts_short : (words : List ℕ) (schedule : Option (List (List Repeat))) (c : Chronicle) → IsScenario c.scenario → length (parts words schedule c) ≤ 1994500
unfolding parts
parts_short words schedule c is =
    let ss : List Section = sections words schedule c in
    let each : All IsRoomy ss =
    All-from_recursion IsRoomy ss (
      picture_roomy (sheet_of c.scenario c.accesses) (signed_svg c),
      (
        lieutenants_roomy lieutenants_heading (each_lieutenant c),
        (
          scenario_roomy words,
          (
            programs_roomy c.scenario is,
            (schedule_roomy schedule, (accesses_roomy c.accesses, (chronicle_roomy (signed_text c), tt))),
          ),
        ),
      ),
    ) in
    let h1 = scenario_headed (story words) in
    let h2 = schedule_headed in
    let h3 = programs_headed in
    let h4 = picture_headed in
    let h5 = lieutenants_headed in
    let h6 = accesses_headed in
    let h7 = chronicle_headed in
    let headed : length (heading picture_heading) + (length (heading lieutenants_heading) + (length (heading (scenario_heading (story words))) + (length (heading programs_heading)
    + (length (heading schedule_heading) + (length (heading accesses_heading) + (length (heading chronicle_heading) + 0)))))) ≤ 3500 = omega arith in
    sections_short ss (verdict_part c.verdict) (leb-true (rooms ss) 1987000 refl) each headed
    (verdict_short c.verdict (bound_told c.verdict.bound (bound_words false)) (bound_short c.verdict.bound (bound_words false) (known (bound_words false) 200 refl)))

pub proved_signed_pages_are_short : SignedPagesAreShort
proved_signed_pages_are_short words schedule c is =
    let whole = page_short (signed_words c.scenario) (parts words schedule c) 1994500 (title_signed c.scenario is) (parts_short words schedule c is) in omega arith
