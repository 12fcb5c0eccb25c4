-- Laws of the pages of campaigns with oral messages. Each is the contract of a function of this crate.
use Rattle.std.specs.Prelude.{ℕ, ◌≡◌, ◌≢◌, ◌<◌, ◌≤◌, List, ◌++◌, length, Option, codes}
use Rattle.std.specs.List.{All}
use Rattle.html.specs.Grammar.{IsElement}
use Rattle.book.specs.Table.{MessageTable}
use Rattle.show_tree.specs.Shown.{nodes_of}
use Rattle.show_tree.specs.Words.{said}
use Rattle.show_tree.specs.declared.node.Node.{Node}
use Rattle.html.specs.Laws.{StandsIn}
use Rattle.html.specs.Page.{shown}
use Rattle.show_table.specs.Retold.{traitors_of}
use Rattle.round.specs.Scenario.{IsScenario}
use Rattle.world.specs.Chronicle.{Chronicle}
use Rattle.world.specs.declared.schedule.Repeat.{Repeat}
use Rattle.show_page.specs.Account.{each_lieutenant, page_text, view_of}
use Rattle.show_page.specs.Room.{longest_page, room_for_lieutenants}

-- States that the page of a campaign consists of the document type line, one XML element, and a line feed, whatever the
-- scenario's text, the schedule, the table and the chronicle contain.
abbrev pub CampaignPagesAreElements : Type 0
CampaignPagesAreElements =
    (scenario : List ℕ) (schedule : Option (List (List Repeat))) (t : MessageTable) (c : Chronicle)
    → (text : List ℕ) × IsElement text
    × (page_text scenario schedule t c ≡ codes "<!DOCTYPE html>\n" ++ text ++ codes "\n")

-- States that the page of a campaign within its limits has at most `longest_page` bytes, whatever the scenario's text,
-- the schedule, the table and the letters contain.
abbrev pub CampaignPagesAreShort : Type 0
CampaignPagesAreShort =
    (scenario : List ℕ) (schedule : Option (List (List Repeat))) (t : MessageTable) (c : Chronicle)
    → IsScenario c.scenario → length (page_text scenario schedule t c) ≤ longest_page

-- States that the text of a page contains the words for a node of a tree: its label, and what was received for it.
abbrev pub IsShownIn : List ℕ → Node → Type 0
IsShownIn text node = StandsIn (shown (said node)) text

-- States that a page with room for the lieutenants contains the words for every label that a lieutenant's tree shows.
-- Labels in a closed fold are included.
abbrev pub FoldsHideNothing : Type 0
FoldsHideNothing =
    (scenario : List ℕ) (schedule : Option (List (List Repeat))) (t : MessageTable) (c : Chronicle) (p : ℕ)
    → p < t.generals → p ≢ t.commander
    → length (each_lieutenant t (traitors_of c.scenario) (view_of c.scenario)) ≤ room_for_lieutenants
    → All (IsShownIn (page_text scenario schedule t c)) (nodes_of t (traitors_of c.scenario) (view_of c.scenario) p)
