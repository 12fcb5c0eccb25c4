-- Defines why a task rejects its only or first file.
use Rattle.std.specs.Prelude.{ℕ, false, true, List, Some, None, string_bytes}
use Rattle.cli_words.specs.declared.tasks.Accesses.TheVariants.{OfChronicle, Listed}
use Rattle.cli_words.specs.declared.tasks.Task.{Task}
use Rattle.cli_words.specs.declared.tasks.Task.TheVariants.{Check, Assemble, AssemblePartly, Disassemble, DisassemblePartly, Book, ExplainDecisions, Form, Refute, Exhaust, Certify, Play, Muster, Audit, Explore, Tree, Draw, Page, Retrace}
use Rattle.cli_tasks.specs.Schedules.{is_chronicle}
use Rattle.cli_tasks.specs.declared.refusal.InputRefusal.{InputRefusal}
use Rattle.cli_tasks.specs.ProgramRefusals.{RefusesAssembly, RefusesCheckIn, RefusesNotation, RefusesLines, RefusesParts}
use Rattle.cli_tasks.specs.TableRefusals.{RefusesForm, RefusesFilled, RefusesTable, RefusesNaming, RefusesTree}
use Rattle.cli_tasks.specs.Refusals.{RefusesScenario, RefusesCampaign, RefusesText}
use Rattle.cli_tasks.specs.Explained.{RefusesExplained}
use Rattle.cli_tasks.specs.CampaignRefusals.{RefusesListed}
use Rattle.cli_tasks.specs.RuleCertificates.{RefusesRule}
use Rattle.cli_tasks.specs.Searches.{RefusesSearch}
use Rattle.cli_tasks.specs.Staging.{RefusesShown}

-- States that the task rejects its only or first file, which has the bytes `bytes`, with this refusal.
abbrev pub Refuses : Task → List ℕ → InputRefusal → Type 0
Refuses (Check file notation context explained traced) bytes refusal = RefusesCheckIn notation bytes refusal
Refuses (Assemble file spelling target explained) bytes refusal = RefusesText RefusesAssembly bytes refusal
Refuses (AssemblePartly file spelling target explained) bytes refusal = RefusesText RefusesLines bytes refusal
Refuses (Disassemble file notation units explained) bytes refusal = RefusesNotation notation bytes refusal
Refuses (DisassemblePartly file notation explained) bytes refusal = RefusesParts notation bytes refusal
Refuses (Book file) bytes refusal = RefusesText RefusesTable bytes refusal
Refuses (ExplainDecisions file traitors) bytes refusal = RefusesText (RefusesNaming traitors.items) bytes refusal
Refuses (Form n m c None) bytes refusal = RefusesForm (string_bytes n) (string_bytes m) (string_bytes c) refusal
Refuses (Form n m c (Some filling)) bytes refusal =
    RefusesFilled (string_bytes n) (string_bytes m) (string_bytes c) filling.liar refusal
Refuses (Refute n m c rule story staged) bytes refusal =
    RefusesShown staged (string_bytes n) (string_bytes m) (string_bytes c) refusal
Refuses (Exhaust generals bound traitors commander rule staged) bytes refusal =
    RefusesSearch generals bound traitors commander staged refusal
Refuses (Certify file notation generals) bytes refusal = RefusesRule notation bytes refusal
Refuses (Play scenario schedule account explained) bytes refusal =
    RefusesText (RefusesExplained (is_chronicle account) explained) bytes refusal
Refuses (Muster scenario explained) bytes refusal = RefusesText (RefusesExplained true explained) bytes refusal
Refuses (Audit scenario chronicle explained) bytes refusal =
    RefusesText (RefusesExplained true explained) bytes refusal
Refuses (Explore scenario most folder) bytes refusal = RefusesText RefusesScenario bytes refusal
Refuses (Tree file general traitors drawing depth folded) bytes refusal =
    RefusesText (RefusesTree general traitors.items) bytes refusal
Refuses (Draw scenario course) bytes refusal = RefusesText RefusesCampaign bytes refusal
Refuses (Page scenario course target) bytes refusal = RefusesText RefusesCampaign bytes refusal
Refuses (Retrace scenario (OfChronicle file)) bytes refusal = RefusesText RefusesCampaign bytes refusal
Refuses (Retrace scenario (Listed list)) bytes refusal = RefusesText (RefusesListed (string_bytes list)) bytes refusal
