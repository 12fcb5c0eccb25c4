-- Defines what `draw` prints: a space-time diagram of a campaign.
use Rattle.std.specs.Prelude.{ℕ, ◌≡◌, false, List, Ok}
use Rattle.std.specs.List.{All}
use Rattle.book.specs.Grammar.{table_told}
use Rattle.book.specs.Table.{MessageTable}
use Rattle.show_diagram.specs.Laws.{BlamesTraitors, IsDrawnHonest}
use Rattle.show_diagram.specs.Svg.{svg_text}
use Rattle.show_table.specs.Retold.{table_of}
use Rattle.round.specs.Scenario.{is_traitor}
use Rattle.scenario.specs.declared.messages.Campaign.{Campaign}
use Rattle.scenario.specs.declared.messages.Campaign.TheVariants.{Oral, Signed}
use Rattle.show_chains.specs.Strokes.{strokes_of}
use Rattle.show_chains.specs.Svg.{signed_svg}
use Rattle.trace.specs.Laws.{IsSoundText}
use Rattle.trace.specs.Names.{chronicle_told}
use Rattle.trace.specs.SignedAudit.{IsSoundSignedText, signed_chronicle_told}
use Rattle.world.specs.declared.schedule.Repeat.{Repeat}
use Rattle.world.specs.Chronicle.{Chronicle}
use Rattle.cli_tasks.specs.Schedules.{played, signed_played}
use Rattle.cli_tasks.specs.Promises.{KeepsPromises, KeepsSignedPromises}

-- States that the picture shows the chronicle of an oral campaign, and the message table that its letters give. Every
-- message of a loyal general is drawn as one that follows the protocol.
abbrev pub IsDiagram : Chronicle → List ℕ → Type 0
IsDiagram c picture =
    (table : MessageTable) × (table_told (table_of c) ≡ Ok table) × BlamesTraitors c.scenario table
    × (picture ≡ svg_text table c)

-- States that in the picture of a signed campaign every message of a loyal general is drawn as one that follows the
-- protocol.
pub record BlamesSignedTraitors (c : Chronicle) : Type 0 where
  pub honest :
      All (λ drawn. is_traitor c.scenario drawn.stroke.teller ≡ false → IsDrawnHonest drawn.stroke) (strokes_of c)

-- States that the picture shows the chronicle of a signed campaign, and that every message of a loyal general is drawn
-- as one that follows the protocol.
abbrev pub IsSignedDiagram : Chronicle → List ℕ → Type 0
IsSignedDiagram c picture = BlamesSignedTraitors c × (picture ≡ signed_svg c)

-- States that the picture shows the chronicle of the campaign when it is played by the schedule. The decisions in this
-- chronicle agree as the theorems promise, and its verdict is correct.
abbrev pub IsCampaignDrawn : Campaign → List (List Repeat) → List ℕ → Type 0
IsCampaignDrawn (Oral s) schedule picture = IsDiagram (played s schedule) picture × KeepsPromises s (played s schedule)
IsCampaignDrawn (Signed s) schedule picture =
    IsSignedDiagram (signed_played s schedule) picture × KeepsSignedPromises s (signed_played s schedule)

-- States that `bytes` are the text of a chronicle of the campaign, and that the picture shows it. The decisions in this
-- chronicle agree as the theorems promise, and its verdict is correct.
abbrev pub IsRecordDrawn : Campaign → List ℕ → List ℕ → Type 0
IsRecordDrawn (Oral s) bytes picture =
    IsSoundText s bytes × IsDiagram (chronicle_told s bytes) picture × KeepsPromises s (chronicle_told s bytes)
IsRecordDrawn (Signed s) bytes picture =
    IsSoundSignedText s bytes × IsSignedDiagram (signed_chronicle_told s bytes) picture
    × KeepsSignedPromises s (signed_chronicle_told s bytes)
