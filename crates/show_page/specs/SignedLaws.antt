-- Laws of the pages of campaigns with signed messages. Each is the contract of a function of this crate.
use Rattle.std.specs.Prelude.{ℕ, ◌≡◌, ◌≤◌, List, ◌++◌, length, Option, codes}
use Rattle.html.specs.Grammar.{IsElement}
use Rattle.round.specs.Scenario.{IsScenario}
use Rattle.world.specs.Chronicle.{Chronicle}
use Rattle.world.specs.declared.schedule.Repeat.{Repeat}
use Rattle.show_page.specs.Room.{longest_page}
use Rattle.show_page.specs.SignedAccount.{signed_page_text}

-- States that the page of a signed campaign consists of the document type line, one XML element, and a line feed,
-- whatever the scenario's text, the schedule and the chronicle contain.
abbrev pub SignedPagesAreElements : Type 0
SignedPagesAreElements =
    (scenario : List ℕ) (schedule : Option (List (List Repeat))) (c : Chronicle)
    → (text : List ℕ) × IsElement text
    × (signed_page_text scenario schedule c ≡ codes "<!DOCTYPE html>\n" ++ text ++ codes "\n")

-- States that the page of a signed campaign within its limits has at most `longest_page` bytes, whatever the scenario's
-- text, the schedule and the letters contain.
abbrev pub SignedPagesAreShort : Type 0
SignedPagesAreShort =
    (scenario : List ℕ) (schedule : Option (List (List Repeat))) (c : Chronicle)
    → IsScenario c.scenario → length (signed_page_text scenario schedule c) ≤ longest_page
