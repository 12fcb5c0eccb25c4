-- The page of a campaign with signed messages in HTML, section by section.
use Rattle.std.specs.Prelude.{ℕ, ◌==◌, Bool, true, false, if◌then◌else◌, List, [], ◌∷◌, ◌++◌, flat_map, codes, slice_get, Option, None, Some}
use Rattle.std.specs.Fmt.{decimal}
use Rattle.std.specs.List.{range_with_len}
use Rattle.show_diagram.specs.Foot.{place_of}
use Rattle.html.specs.Page.{fold, lines, page}
use Rattle.html.specs.Sections.{Section, sections_in}
use Rattle.round.specs.Scenario.{Scenario, is_traitor}
use Rattle.signed.specs.Explained.{acceptance_of}
use Rattle.show_chains.specs.Foot.{bound_words}
use Rattle.show_chains.specs.Svg.{signed_svg, signed_words}
use Rattle.show_chains.specs.Unaccepted.{unaccepted_lines}
use Rattle.trace.specs.SignedText.{signed_text}
use Rattle.world.specs.Chronicle.{Chronicle}
use Rattle.world.specs.declared.schedule.Repeat.{Repeat}
use Rattle.world.specs.declared.verdict.Verdict.{Verdict}
use Rattle.show_page.specs.Account.{accesses_section, bound_told, chronicle_section, lieutenant_words, lieutenants_roomed, picture_section, programs_section, scenario_section, schedule_section, sheet_of, verdict_told}
use Rattle.show_page.specs.Room.{room_for_sections}

-- Returns the section with the space-time diagram of a signed campaign.
abbrev pub diagram_section : Chronicle → Section
diagram_section c = picture_section (sheet_of c.scenario c.accesses) (signed_svg c)

-- The heading of the section that says which orders each lieutenant accepted, by which chains, and what he decides.
unfoldable pub lieutenants_heading : List ℕ
lieutenants_heading = codes "What each lieutenant accepted, and why he decides so"

-- Writes a lieutenant's name and his decision, such as `Lieutenant 2 decides 1`. Without a decision, it is only the
-- name.
abbrev pub deciding_words : ℕ → Bool → Option ℕ → List ℕ
deciding_words g is_traitor None = codes "Lieutenant " ++ decimal g
deciding_words g is_traitor (Some order) = lieutenant_words g is_traitor order

abbrev pub lieutenant_heading : Chronicle → ℕ → List ℕ
lieutenant_heading c g =
    deciding_words g (is_traitor c.scenario g) (slice_get c.decisions (place_of c.scenario.commander g))

-- Writes by which chains a lieutenant accepts orders, by which he accepts none, and why.
abbrev pub lieutenant_told : Chronicle → ℕ → List ℕ
lieutenant_told c g = fold (lieutenant_heading c g) (lines (acceptance_of c g ++ unaccepted_lines c g))

abbrev pub lieutenant_part : Chronicle → ℕ → List ℕ
lieutenant_part c g = if g == c.scenario.commander then [] else lieutenant_told c g

abbrev pub each_lieutenant : Chronicle → List ℕ
each_lieutenant c = flat_map (lieutenant_part c) (range_with_len 0 c.scenario.generals)

abbrev pub lieutenants_section : Chronicle → Section
lieutenants_section c = lieutenants_roomed lieutenants_heading (each_lieutenant c)

-- Writes the verdict, and what the algorithm promises if the bound holds (TOPLAS 1982, Theorem 2).
abbrev pub verdict_part : Verdict → List ℕ
verdict_part v = verdict_told v (bound_told v.bound (bound_words false))

-- Returns all sections of the page. `text` is the text of the chronicle's scenario, and `schedule` is the schedule by
-- which the campaign was played, if there is one.
abbrev pub sections : List ℕ → Option (List (List Repeat)) → Chronicle → List Section
sections text schedule c =
    diagram_section c ∷ lieutenants_section c ∷ scenario_section text ∷ programs_section c.scenario
    ∷ schedule_section schedule ∷ accesses_section c.accesses ∷ chronicle_section (signed_text c) ∷ []

-- Writes the verdict, and then all sections, as far as there is room for them.
unfoldable pub parts : List ℕ → Option (List (List Repeat)) → Chronicle → List ℕ
parts text schedule c =
    verdict_part c.verdict ++ sections_in room_for_sections (sections text schedule c)

-- Writes the page of a signed campaign, with the campaign's description, in the words of its diagram, as its title.
abbrev pub signed_page_text : List ℕ → Option (List (List Repeat)) → Chronicle → List ℕ
signed_page_text text schedule c = page (signed_words c.scenario) (parts text schedule c)
