-- The pages of signed campaigns are XML elements.
use Rattle.std.proofs.Common.{ℕ, ◌==◌, false, List, [], ◌++◌, Option}
use Rattle.std.specs.List.{range_with_len}
use Rattle.std.proofs.lemmas.Bool.{cond_both}
use Rattle.html.specs.Grammar.{IsContent, joined, no_text, text}
use Rattle.html.specs.Laws.{IsFilled}
use Rattle.html.specs.Page.{lines}
use Rattle.html.proofs.PageLaws.{proved_pages_are_elements, proved_parts_are_content}
use Rattle.signed.specs.Explained.{acceptance_of}
use Rattle.show_chains.specs.Foot.{bound_words}
use Rattle.show_chains.specs.Svg.{signed_svg, signed_words}
use Rattle.show_chains.specs.Unaccepted.{unaccepted_lines}
use Rattle.show_chains.proofs.PictureLaws.{proved_signed_diagrams_are_elements}
use Rattle.trace.specs.SignedText.{signed_text}
use Rattle.world.specs.Chronicle.{Chronicle}
use Rattle.world.specs.declared.schedule.Repeat.{Repeat}
use Rattle.show_page.specs.Account.{bound_told, sheet_of}
use Rattle.show_page.proofs.AccountLaws.{accesses_filled, all, chronicle_filled, lieutenants_filled, picture_filled, programs_filled, scenario_filled, schedule_filled, sections_content, verdict_content}
use Rattle.show_page.specs.SignedAccount.{diagram_section, each_lieutenant, lieutenant_heading, lieutenant_part, lieutenant_told, lieutenants_heading, parts, sections, verdict_part}
use Rattle.show_page.specs.SignedLaws.{SignedPagesAreElements}

diagram_filled : (c : Chronicle) → IsFilled (diagram_section c)
diagram_filled c = let drawn = proved_signed_diagrams_are_elements c in picture_filled (sheet_of c.scenario c.accesses) (signed_svg c) drawn.0 drawn.1 drawn.2

lieutenant_content : (c : Chronicle) (g : ℕ) → IsContent (lieutenant_part c g)
lieutenant_content c g =
    cond_both (g == c.scenario.commander) [] (lieutenant_told c g) IsContent (λ _. text [] no_text)
    (λ _.
    let told : List ℕ = acceptance_of c g ++ unaccepted_lines c g in proved_parts_are_content.fold (lieutenant_heading c g) (lines told) (proved_parts_are_content.lines told))

lieutenants_content : (c : Chronicle) → IsContent (each_lieutenant c)
lieutenants_content c = all (lieutenant_part c) (range_with_len 0 c.scenario.generals) (lieutenant_content c)

parts_content : (words : List ℕ) (schedule : Option (List (List Repeat))) (c : Chronicle) → IsContent (parts words schedule c)
unfolding parts
parts_content words schedule c =
    sections_content (sections words schedule c) (verdict_part c.verdict) (
      diagram_filled c,
      (
        lieutenants_filled lieutenants_heading (each_lieutenant c) (lieutenants_content c),
        (
          scenario_filled words,
          (
            programs_filled c.scenario,
            (schedule_filled schedule, (accesses_filled c.accesses, (chronicle_filled (signed_text c), tt))),
          ),
        ),
      ),
    )
    (verdict_content c.verdict (bound_told c.verdict.bound (bound_words false)))

pub proved_signed_pages_are_elements : SignedPagesAreElements
proved_signed_pages_are_elements words schedule c =
    proved_pages_are_elements (signed_words c.scenario) (parts words schedule c) (parts_content words schedule c)
