-- Defines what `page` prints: an HTML page about a campaign.
use Rattle.std.specs.Prelude.{ℕ, ◌≡◌, ◌≤◌, List, length, Option, None, Some, Ok}
use Rattle.book.specs.Grammar.{table_told}
use Rattle.book.specs.Table.{MessageTable}
use Rattle.show_page.specs.Account.{page_text}
use Rattle.show_page.specs.Room.{longest_page}
use Rattle.show_diagram.specs.Laws.{BlamesTraitors}
use Rattle.show_table.specs.Retold.{table_of}
use Rattle.scenario.specs.declared.messages.Campaign.{Campaign}
use Rattle.scenario.specs.declared.messages.Campaign.TheVariants.{Oral, Signed}
use Rattle.show_page.specs.SignedAccount.{signed_page_text}
use Rattle.trace.specs.Laws.{IsSoundText}
use Rattle.trace.specs.Names.{chronicle_told}
use Rattle.trace.specs.SignedAudit.{IsSoundSignedText, signed_chronicle_told}
use Rattle.world.specs.declared.schedule.Repeat.{Repeat}
use Rattle.world.specs.Chronicle.{Chronicle}
use Rattle.cli_tasks.specs.Schedules.{played, signed_played}
use Rattle.cli_tasks.specs.Diagrams.{BlamesSignedTraitors}
use Rattle.cli_tasks.specs.Promises.{KeepsPromises, KeepsSignedPromises}

-- States that the page shows the chronicle of an oral campaign, the message table that its letters give, the scenario's
-- text, and the schedule, if there is one. The page is not longer than `longest_page` bytes. Its picture draws every
-- message of a loyal general as one that follows the protocol.
abbrev pub IsPage : List ℕ → Option (List (List Repeat)) → Chronicle → List ℕ → Type 0
IsPage text schedule c page =
    (table : MessageTable) × (table_told (table_of c) ≡ Ok table) × BlamesTraitors c.scenario table
    × (page ≡ page_text text schedule table c) × (length page ≤ longest_page)

-- States that the page shows the chronicle of a signed campaign, the scenario's text, and the schedule, if there is
-- one. The page is not longer than `longest_page` bytes. Its picture draws every message of a loyal general as one that
-- follows the protocol.
abbrev pub IsSignedPage : List ℕ → Option (List (List Repeat)) → Chronicle → List ℕ → Type 0
IsSignedPage text schedule c page =
    BlamesSignedTraitors c × (page ≡ signed_page_text text schedule c) × (length page ≤ longest_page)

-- States that the page shows the scenario's text, and the chronicle of the campaign when it is played by the schedule.
-- The decisions in this chronicle agree as the theorems promise, and its verdict is correct.
abbrev pub IsCampaignPaged : Campaign → List ℕ → List (List Repeat) → List ℕ → Type 0
IsCampaignPaged (Oral s) text schedule page =
    IsPage text (Some schedule) (played s schedule) page × KeepsPromises s (played s schedule)
IsCampaignPaged (Signed s) text schedule page =
    IsSignedPage text (Some schedule) (signed_played s schedule) page
    × KeepsSignedPromises s (signed_played s schedule)

-- States that `bytes` are the text of a chronicle of the campaign, and that the page shows this chronicle and the
-- scenario's text. The decisions in the chronicle agree as the theorems promise, and its verdict is correct.
abbrev pub IsRecordTold : Campaign → List ℕ → List ℕ → List ℕ → Type 0
IsRecordTold (Oral s) text bytes page =
    IsSoundText s bytes × IsPage text None (chronicle_told s bytes) page × KeepsPromises s (chronicle_told s bytes)
IsRecordTold (Signed s) text bytes page =
    IsSoundSignedText s bytes × IsSignedPage text None (signed_chronicle_told s bytes) page
    × KeepsSignedPromises s (signed_chronicle_told s bytes)
