-- Defines the result of a task on its first file: what it prints, or what it needs for the second file.
use Rattle.std.specs.Prelude.{ℕ, ◌≡◌, false, true, List, None, Some, string_bytes}
use Rattle.semantics.specs.Run.{IsSound}
use Rattle.cli_words.specs.declared.tasks.Spelling.TheVariants.{Hex, Raw}
use Rattle.cli_words.specs.declared.tasks.Task.{Task}
use Rattle.cli_words.specs.declared.tasks.Task.TheVariants.{Check, Assemble, AssemblePartly, Disassemble, DisassemblePartly, Book, ExplainDecisions, Form, Refute, Exhaust, Certify, Play, Muster, Audit, Explore, Tree, Draw, Page, Retrace}
use Rattle.cli_words.specs.declared.tasks.Accesses.TheVariants.{OfChronicle, Listed}
use Rattle.cli_words.specs.declared.tasks.Course.TheVariants.{Scheduled, Recorded}
use Rattle.scenario.specs.Reading.{TellsAny}
use Rattle.book.specs.Answers.{DecidesTable, ExplainsTable, IsFilled, IsFormOf}
use Rattle.verify.specs.Judgement.{judged}
use Rattle.cli_tasks.specs.Exploring.{Explores}
use Rattle.cli_tasks.specs.Programs.{HasProgram}
use Rattle.cli_tasks.specs.Explained.{TellsAsked}
use Rattle.cli_tasks.specs.Schedules.{is_chronicle}
use Rattle.cli_tasks.specs.Parts.{AssemblesPartly, AssemblesPartlyRaw, DisassemblesPartly}
use Rattle.cli_tasks.specs.Picturing.{Pictures, is_toml}
use Rattle.cli_tasks.specs.Retracing.{Arranges}
use Rattle.cli_tasks.specs.RuleCertificates.{Certifies}
use Rattle.cli_tasks.specs.Searches.{Exhausts}
use Rattle.cli_tasks.specs.Staging.{ShowsRefutation}
use Rattle.cli_tasks.specs.Strangers.{KnowsAll, KnowsLiar, KnowsTree}
use Rattle.cli_tasks.specs.declared.first_answer.FirstAnswer.{FirstAnswer}
use Rattle.cli_tasks.specs.declared.first_answer.FirstAnswer.TheVariants as answer
use Rattle.cli_tasks.specs.Answers.{IsChecked, AssemblesRaw, Assembles, Disassembles}

-- States that the task prints `text` for a first file with these bytes, and needs no second file.
abbrev pub Prints : Task → List ℕ → List ℕ → Type 0
Prints (Check file notation None explained traced) first text = IsChecked notation explained traced first text
Prints (Assemble file Hex target explained) first text = Assembles first text
Prints (Assemble file Raw target explained) first text = AssemblesRaw first text
Prints (AssemblePartly file Hex target explained) first text = AssemblesPartly first text
Prints (AssemblePartly file Raw target explained) first text = AssemblesPartlyRaw first text
Prints (Disassemble file notation units explained) first text = Disassembles notation units first text
Prints (DisassemblePartly file notation explained) first text = DisassemblesPartly notation first text
Prints (Book file) first text = DecidesTable first text
Prints (ExplainDecisions file traitors) first text =
    KnowsAll first traitors.items × ExplainsTable first traitors.items text
Prints (Form n m c None) first text = IsFormOf (string_bytes n) (string_bytes m) (string_bytes c) text
Prints (Form n m c (Some filling)) first text =
    KnowsLiar (string_bytes n) (string_bytes m) (string_bytes c) filling.liar
    × IsFilled (string_bytes n) (string_bytes m) (string_bytes c) filling.order filling.liar text
Prints (Refute n m c rule story staged) first text =
    ShowsRefutation staged (string_bytes n) (string_bytes m) (string_bytes c) rule story text
Prints (Exhaust generals bound traitors commander rule staged) first text =
    Exhausts generals bound traitors commander rule staged text
Prints (Certify file notation generals) first text = Certifies notation generals first text
Prints (Explore scenario most folder) first text = Explores most first text
Prints (Tree file general traitors drawing depth folded) first text =
    KnowsTree (is_toml first) first general traitors.items
    × Pictures general traitors.items drawing depth folded first text
Prints (Retrace scenario (Listed list)) first text = Arranges (string_bytes list) first text
Prints _ first text = ⊥

-- States that the task accepts a first file with these bytes and needs the given result for its second file: a verified
-- program, and whether its steps are printed, or a campaign.
abbrev pub GoesOn : Task → List ℕ → FirstAnswer → Type 0
GoesOn (Check file notation (Some context) explained traced) first (answer.Trial program told) =
    HasProgram notation first program × (judged program ≡ None) × IsSound program × (told ≡ traced)
GoesOn (Play scenario schedule account explained) first (answer.Play c told why) =
    TellsAsked (is_chronicle account) explained first c × (told ≡ account) × (why ≡ explained)
GoesOn (Muster scenario explained) first (answer.Muster c why) =
    TellsAsked true explained first c × (why ≡ explained)
GoesOn (Audit scenario chronicle explained) first (answer.Audit c why) =
    TellsAsked true explained first c × (why ≡ explained)
GoesOn (Draw scenario (Scheduled file)) first (answer.Draw c) = TellsAny first c
GoesOn (Draw scenario (Recorded file)) first (answer.DrawRecorded c) = TellsAny first c
GoesOn (Page scenario (Scheduled file) target) first (answer.Page c text) =
    TellsAny first c × (string_bytes text ≡ first)
GoesOn (Page scenario (Recorded file) target) first (answer.PageRecorded c text) =
    TellsAny first c × (string_bytes text ≡ first)
GoesOn (Retrace scenario (OfChronicle file)) first (answer.Retrace c) = TellsAny first c
GoesOn _ first _ = ⊥

-- States that this is the task's result on a first file with these bytes: a text or bytes to print, or a program or a
-- campaign that it needs for the second file.
abbrev pub ComesTo : Task → List ℕ → FirstAnswer → Type 0
ComesTo task first (answer.Text text) = Prints task first (string_bytes text)
ComesTo task first (answer.Bytes bytes) = Prints task first bytes.items
ComesTo task first more = GoesOn task first more

-- States that the result on the first file is not yet the whole answer.
abbrev pub IsUnfinished : FirstAnswer → Type 0
IsUnfinished (answer.Text text) = ⊥
IsUnfinished (answer.Bytes bytes) = ⊥
IsUnfinished _ = Unit {0}
