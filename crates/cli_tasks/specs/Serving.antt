-- Defines how a task ends for given files: with an answer or with an error. The bytes of a file and the content of a
-- stream may be unknown (`None`).
use Rattle.std.specs.Prelude.{ℕ, ◌≡◌, ◌≢◌, ◌⊎◌, Bool, true, false, List, [], ◌∷◌, ◌++◌, Option, None, Some, IfSome, IsSomeAnd, codes, option_map, string_bytes, unwrap_or}
use Rattle.std.specs.Io.KnownBytes.{Appends}
use Rattle.cli_words.specs.Tasks.{file_of, second_of}
use Rattle.cli_words.specs.declared.tasks.Account.{Account}
use Rattle.cli_words.specs.declared.tasks.Lieutenants.{Lieutenants}
use Rattle.cli_words.specs.declared.tasks.Notation.{Notation}
use Rattle.cli_words.specs.declared.tasks.Task.{Task}
use Rattle.insn.specs.declared.insn.Insn.{Insn}
use Rattle.label.specs.declared.shape.Shape.{Shape}
use Rattle.scenario.specs.declared.messages.Campaign.{Campaign}
use Rattle.world.specs.declared.schedule.Repeat.{Repeat}
use Rattle.cli_tasks.specs.declared.refusal.InputRefusal.{InputRefusal}
use Rattle.cli_tasks.specs.declared.refusal.InputRefusal.TheVariants.{NotText, Memory}
use Rattle.cli_tasks.specs.declared.first_answer.FirstAnswer.{FirstAnswer}
use Rattle.cli_tasks.specs.declared.first_answer.FirstAnswer.TheVariants as answer
use Rattle.cli_tasks.specs.TaskAnswers.{ComesTo, GoesOn}
use Rattle.cli_tasks.specs.Answers.{IsTriedAt}
use Rattle.cli_tasks.specs.Campaigns.{IsAudited, IsMustered, IsPlayed}
use Rattle.cli_tasks.specs.Schedules.{IsSchedule}
use Rattle.cli_tasks.specs.Diagrams.{IsCampaignDrawn, IsRecordDrawn}
use Rattle.cli_tasks.specs.Pages.{IsCampaignPaged, IsRecordTold}
use Rattle.cli_tasks.specs.Retracing.{IsScheduleFor}
use Rattle.streams.specs.Names.{shown}
use Rattle.streams.specs.Reading.{AreBytes}
use Rattle.cli_tasks.specs.Hints.{hint_behind}
use Rattle.cli_tasks.specs.TaskHints.{IsHint, explained_in}
use Rattle.cli_tasks.specs.declared.hint.Hint.{Hint}
use Rattle.cli_tasks.specs.ErrorText.{refusal_text}
use Rattle.cli_tasks.specs.Whys.{Role, TellsWhyOf, is_explained}
use Rattle.cli_tasks.specs.Whys as role
use Rattle.cli_tasks.specs.TaskRefusals.{Refuses}
use Rattle.cli_tasks.specs.Refusals.{RefusesChronicle, RefusesSchedule, RefusesText}
use Rattle.cli_tasks.specs.CampaignRefusals.{RefusesMuster}
use Rattle.cli_tasks.specs.ProgramRefusals.{RefusesSetting}

-- The bytes of a task's files. `first` are the bytes of the only or first file, if they are known. `second` is `None`
-- if there is no second file, and otherwise has its bytes, if they are known.
pub record Files : Type 0 where
  pub first : Option (List ℕ)
  pub second : Option (Option (List ℕ))

-- Returns the bytes of a first file and of a second file, if there is one. `bytes` gives the bytes of a file, if they
-- are known.
abbrev pub files : {R : Type 0} → (R → Option (List ℕ)) → R → Option R → Files
files bytes first second = record { first = bytes first; second = option_map bytes second }

-- Returns the name of the task's only or first file, or an empty name if it reads no file.
abbrev pub first_name : Task → List ℕ
first_name task = unwrap_or (file_of task) []

-- Returns the name of the task's second file, or an empty name if there is none.
abbrev pub second_name : Task → List ℕ
second_name task = unwrap_or (second_of task) []

-- States that `second` has the bytes of the second file, as far as they are known, and is `None` if there is no second
-- file.
abbrev pub AreSecond : Option (Option (List ℕ)) → Option (List ℕ) → Type 0
AreSecond None second = second ≡ None
AreSecond (Some known) second = IsSomeAnd second (AreBytes known)

-- States that `bytes` are the bytes of the second file, as far as they are known. If there is no second file, `bytes`
-- is empty.
abbrev pub AreSecondBytes : Option (Option (List ℕ)) → List ℕ → Type 0
AreSecondBytes None bytes = bytes ≡ []
AreSecondBytes (Some known) bytes = AreBytes known bytes

-- States that this is the schedule in the second file. If there is no second file, the schedule is empty.
abbrev pub IsScheduleOf : Option (Option (List ℕ)) → List (List Repeat) → Type 0
IsScheduleOf known schedule = (second : Option (List ℕ)) × AreSecond known second × IsSchedule second schedule

-- States that `text` is what `play` prints about the campaign when it is played by the schedule in the second file.
abbrev pub IsPlayedBy : Option (Option (List ℕ)) → Campaign → Account → Option Lieutenants → List ℕ → Type 0
IsPlayedBy known c account explained text =
    (schedule : List (List Repeat)) × IsScheduleOf known schedule × IsPlayed c schedule account explained text

-- States that `text` is what `audit` prints about the second file as a chronicle of the campaign.
abbrev pub IsAuditOf : Option (Option (List ℕ)) → Campaign → Option Lieutenants → List ℕ → Type 0
IsAuditOf known c explained text = (bytes : List ℕ) × AreSecondBytes known bytes × IsAudited c explained bytes text

-- States that the picture shows the campaign when it is played by the schedule in the second file.
abbrev pub IsDrawnBy : Option (Option (List ℕ)) → Campaign → List ℕ → Type 0
IsDrawnBy known c picture =
    (schedule : List (List Repeat)) × IsScheduleOf known schedule × IsCampaignDrawn c schedule picture

-- States that the picture shows the campaign in the course that the chronicle in the second file records.
abbrev pub IsDrawnAs : Option (Option (List ℕ)) → Campaign → List ℕ → Type 0
IsDrawnAs known c picture = (bytes : List ℕ) × AreSecondBytes known bytes × IsRecordDrawn c bytes picture

-- States that the page shows the campaign when it is played by the schedule in the second file. `text` is the text of
-- the campaign's scenario.
abbrev pub IsPagedBy : Option (Option (List ℕ)) → Campaign → List ℕ → List ℕ → Type 0
IsPagedBy known c text page =
    (schedule : List (List Repeat)) × IsScheduleOf known schedule × IsCampaignPaged c text schedule page

-- States that the page shows the campaign in the course that the chronicle in the second file records. `text` is the
-- text of the campaign's scenario.
abbrev pub IsPagedAs : Option (Option (List ℕ)) → Campaign → List ℕ → List ℕ → Type 0
IsPagedAs known c text page = (bytes : List ℕ) × AreSecondBytes known bytes × IsRecordTold c text bytes page

-- States that `lines` are a schedule by which the campaign has the chronicle in the second file.
abbrev pub IsRetracedBy : Option (Option (List ℕ)) → Campaign → List ℕ → Type 0
IsRetracedBy known c lines = (bytes : List ℕ) × AreSecondBytes known bytes × IsScheduleFor c bytes lines

-- States that `text` describes the program's trial in the setting that the second file describes, and that `place` says
-- for which general and round the program ran.
abbrev pub IsTrialAt : Option (Option (List ℕ)) → Bool → Option Notation → List ℕ → List Insn → List ℕ → Option Shape →
    Type 0
IsTrialAt known traced asked first program text place =
    (bytes : List ℕ) × AreSecondBytes known bytes
    × ((shape : Shape) × IsTriedAt shape traced asked first bytes program text × (place ≡ Some shape))

-- States that `text` is what a task prints whose result on its first file is `more`. `known` are the bytes of its
-- second file. The task must not try a program.
abbrev pub IsTextAfter : Option (Option (List ℕ)) → FirstAnswer → List ℕ → Type 0
IsTextAfter known (answer.Text all) text = text ≡ string_bytes all
IsTextAfter known (answer.Bytes all) text = text ≡ all.items
IsTextAfter known (answer.Play c account explained) text = IsPlayedBy known c account explained text
IsTextAfter known (answer.Muster c explained) text = IsMustered c explained text
IsTextAfter known (answer.Audit c explained) text = IsAuditOf known c explained text
IsTextAfter known (answer.Draw c) text = IsDrawnBy known c text
IsTextAfter known (answer.DrawRecorded c) text = IsDrawnAs known c text
IsTextAfter known (answer.Page c scenario) text = IsPagedBy known c (string_bytes scenario) text
IsTextAfter known (answer.PageRecorded c scenario) text = IsPagedAs known c (string_bytes scenario) text
IsTextAfter known (answer.Retrace c) text = IsRetracedBy known c text
IsTextAfter known _ text = ⊥

-- States that `text` is what a task prints whose result on its first file is `more`. `known` are the bytes of its
-- second file. If the task tries a program in the setting of the second file, `place` says for which general and round,
-- and otherwise it is `None`.
abbrev pub EndsIn : Task → List ℕ → Option (Option (List ℕ)) → FirstAnswer → List ℕ → Option Shape → Type 0
EndsIn task first known (answer.Trial program told) text place =
    IsTrialAt known told (explained_in task) first program text place
EndsIn task first known more text place = IsTextAfter known more text × (place ≡ None)

-- States that the task prints `text` for these files. If the task tries a program in the setting of its second file,
-- `place` says for which general and round, and otherwise it is `None`.
abbrev pub IsPlacedAnswer : Task → Files → List ℕ → Option Shape → Type 0
IsPlacedAnswer task files text place =
    (first : List ℕ) × AreBytes files.first first
    × ((more : FirstAnswer) × ComesTo task first more × EndsIn task first files.second more text place)

-- States that the task prints `text` for these files.
abbrev pub IsAnswer : Task → Files → List ℕ → Type 0
IsAnswer task files text = (place : Option Shape) × IsPlacedAnswer task files text place

-- States that the task has an answer for these files, and that `stands` holds of its text.
abbrev pub HasAnswer : (List ℕ → Type 0) → Task → Files → Type 0
HasAnswer stands task files = (text : List ℕ) × IsAnswer task files text × stands text

-- States that a stream contained `old` and now contains `new`, which is `old` followed by the task's whole answer for
-- these files.
abbrev pub IsPrinted : Task → Files → Option (List ℕ) → Option (List ℕ) → Type 0
IsPrinted task files old new = (text : List ℕ) × IsAnswer task files text × Appends old new text

-- States that the task rejects its only or first file with this refusal and prints this hint. The refusal is not that
-- memory ran out.
abbrev pub IsRefused : Task → Option (List ℕ) → InputRefusal → Option Hint → Type 0
IsRefused task known refusal hint =
    (refusal ≢ Memory) × ((bytes : List ℕ) × AreBytes known bytes × Refuses task bytes refusal)
    × IfSome known (λ all. IsHint refusal task all hint)

-- States that the task accepts its first file, and that `more` is what it needs for the second file.
abbrev pub IsTaken : Task → Option (List ℕ) → FirstAnswer → Type 0
IsTaken task known more = (bytes : List ℕ) × AreBytes known bytes × GoesOn task bytes more

-- States that the second file is rejected with this refusal because it is not a setting. The refusal is not that memory
-- ran out.
abbrev pub IsSettingRefused : Option (Option (List ℕ)) → InputRefusal → Type 0
IsSettingRefused known refusal =
    (refusal ≢ Memory) × ((bytes : List ℕ) × AreSecondBytes known bytes × RefusesText RefusesSetting bytes refusal)

-- States that there is a second file, and that it is rejected with this refusal because it is not a schedule. The
-- refusal is not that memory ran out.
abbrev pub IsScheduleRefused : Option (Option (List ℕ)) → InputRefusal → Type 0
IsScheduleRefused known refusal =
    (refusal ≢ Memory) × ((bytes : List ℕ) × AreSecond known (Some bytes) × RefusesText RefusesSchedule bytes refusal)

-- States that the second file is rejected with this refusal because it is not a chronicle of the campaign. The refusal
-- is not that memory ran out.
abbrev pub IsChronicleRefused : Campaign → Option (Option (List ℕ)) → InputRefusal → Type 0
IsChronicleRefused c known refusal =
    (refusal ≢ Memory) × ((bytes : List ℕ) × AreSecondBytes known bytes
    × RefusesText (RefusesChronicle c) bytes refusal)

-- States that a run with threads made no chronicle, which the refusal says. The refusal is not that memory ran out.
abbrev pub IsUnmustered : InputRefusal → Type 0
IsUnmustered refusal = (refusal ≢ Memory) × RefusesMuster refusal

-- States that a task whose result on its first file is the given one then fails with this refusal, because of its
-- second file or because its threads made no chronicle.
abbrev pub IsRefusedLater : FirstAnswer → Option (Option (List ℕ)) → InputRefusal → Type 0
IsRefusedLater (answer.Trial program told) known refusal = IsSettingRefused known refusal
IsRefusedLater (answer.Play c account explained) known refusal = IsScheduleRefused known refusal
IsRefusedLater (answer.Muster c explained) known refusal = IsUnmustered refusal
IsRefusedLater (answer.Audit c explained) known refusal = IsChronicleRefused c known refusal
IsRefusedLater (answer.Draw c) known refusal = IsScheduleRefused known refusal
IsRefusedLater (answer.DrawRecorded c) known refusal = IsChronicleRefused c known refusal
IsRefusedLater (answer.Page c text) known refusal = IsScheduleRefused known refusal
IsRefusedLater (answer.PageRecorded c text) known refusal = IsChronicleRefused c known refusal
IsRefusedLater (answer.Retrace c) known refusal = IsChronicleRefused c known refusal
IsRefusedLater _ known refusal = ⊥

-- States that `P` holds of the second file's bytes, if they are known. If there is no second file, `P` must hold of no
-- bytes.
abbrev pub IfKnown : Option (Option (List ℕ)) → (List ℕ → Type 0) → Type 0
IfKnown None P = P []
IfKnown (Some known) P = IfSome known P

-- States that this is the hint for the refusal of the second file, which has the name `name`. If an explanation is
-- asked for, the hint is the report on the fault, and otherwise there is no hint.
abbrev pub IsHintLater : Bool → List ℕ → Option (Option (List ℕ)) → Role → InputRefusal → Option Hint → Type 0
IsHintLater false name known of refusal hint = hint ≡ None
IsHintLater true name known of refusal hint = IfKnown known (λ all. TellsWhyOf refusal of name all (hint_behind hint))

-- Returns what the second file should be for a task whose result on its first file is the given one: a schedule, a
-- chronicle, or anything else.
abbrev pub role_behind : FirstAnswer → Role
role_behind (answer.Play c account explained) = role.Schedule
role_behind (answer.Audit c explained) = role.Chronicle c
role_behind (answer.Draw c) = role.Schedule
role_behind (answer.Page c text) = role.Schedule
role_behind _ = role.Nothing

-- States that a task whose result on its first file is `more` then fails with this refusal and prints this hint.
abbrev pub IsToldLater : Bool → List ℕ → Option (Option (List ℕ)) → FirstAnswer → InputRefusal → Option Hint → Type 0
IsToldLater explained name known more refusal hint =
    IsRefusedLater more known refusal × IsHintLater explained name known (role_behind more) refusal hint

-- States that the second file is rejected with this refusal because it is not a schedule, and that the task prints this
-- hint.
abbrev pub IsScheduleTold : Bool → List ℕ → Option (Option (List ℕ)) → InputRefusal → Option Hint → Type 0
IsScheduleTold explained name known refusal hint =
    IsScheduleRefused known refusal × IsHintLater explained name known role.Schedule refusal hint

-- States that a stream contained `old` and now contains `new`, which is `old` followed by this line, or that writing to
-- it failed.
abbrev pub Tells : Type 0 → Option (List ℕ) → Option (List ℕ) → List ℕ → Type 0
Tells fails old new line = fails ⊎ Appends old new (line ++ 10 ∷ [])

-- States that the text of `words` and the name of a file, as it is printed, fulfils `tells`. A name with a control
-- character is printed in quotation marks, as in Rust. If such a name also has characters beyond ASCII, nothing is
-- stated.
abbrev pub TellsName : (List ℕ → Type 0) → List ℕ → List ℕ → Type 0
TellsName tells words name = IfSome (shown name) (λ told. tells (words ++ told))

-- States that the error about a rejected file with this name fulfils `tells`. It is the code of the fault and where it
-- is, followed by the hint.
abbrev pub TellsRefusal : List ℕ → (List ℕ → Type 0) → InputRefusal → Option Hint → Type 0
TellsRefusal name tells NotText hint = TellsName tells (codes "fault text ") name
TellsRefusal name tells refusal hint = tells (codes "refused " ++ refusal_text refusal ++ hint_behind hint)

-- States that the file with this name could not be read because its reader failed, or that it is rejected, and that the
-- error about this fulfils `tells`.
abbrev pub IsTurnedDown : Type 0 → (InputRefusal → Option Hint → Type 0) → List ℕ → (List ℕ → Type 0) → Type 0
IsTurnedDown unread refused name tells =
    (unread × TellsName tells (codes "fault read ") name)
    ⊎ ((refusal : InputRefusal) × ((hint : Option Hint) × refused refusal hint × TellsRefusal name tells refusal hint))

-- States that the task has an answer but the output failed, and that the error `fault write` fulfils `tells`. `begun`
-- holds of the answer, and says which part of it was written.
abbrev pub IsUnwritten : Type 0 → (List ℕ → Type 0) → Task → Files → (List ℕ → Type 0) → Type 0
IsUnwritten unwritten begun task files tells = unwritten × HasAnswer begun task files × tells (codes "fault write")

-- States why a task failed, and that the error about it fulfils `tells`. Either the first file is at fault, or the
-- first file is accepted and the second file or the run with threads is at fault. In these cases `kept` holds, which
-- says that nothing is printed. Or the output failed, and `begun` says which part of the answer was written.
abbrev pub IsFault : Type 0 → Type 0 → Type 0 → (List ℕ → Type 0) → Task → Files → Type 0 → (List ℕ → Type 0) → Type 0
IsFault unread second_unread unwritten begun task files kept tells =
    (kept × (IsTurnedDown unread (IsRefused task files.first) (first_name task) tells
    ⊎ ((more : FirstAnswer) × IsTaken task files.first more
    × IsTurnedDown second_unread (IsToldLater (is_explained task) (second_name task) files.second more)
    (second_name task) tells)))
    ⊎ IsUnwritten unwritten begun task files tells
