-- Defines the law of reports: each refusal has a report with a sentence, and the place in the report is within the file
-- (own).
use Rattle.std.specs.Prelude.{ℕ, ◌≡◌, ◌≢◌, ◌⊎◌, ◌+◌, ◌≤◌, List, [], Option, None, Some, IfSome, codes, length, option_and_then, take, unwrap_or}
use Rattle.hex.specs.Hex.{encode_lower}
use Rattle.asm.specs.declared.fault.AsmFault.{AsmFault}
use Rattle.codec.specs.declared.fault.CodecFault.{CodecFault}
use Rattle.book.specs.declared.fault.TableFault.{TableFault}
use Rattle.trace.specs.declared.fault.TraceFault.{TraceFault}
use Rattle.scenario.specs.Origins.{seat}
use Rattle.scenario.specs.Sources.{source_by}
use Rattle.scenario.specs.declared.fault.ProgramFault.{ProgramFault}
use Rattle.scenario.specs.declared.fault.ScenarioError.{ScenarioError}
use Rattle.scenario.specs.declared.fault.ScenarioError.TheVariants as errors
use Rattle.trial.specs.declared.fault.SettingError.{SettingError}
use Rattle.trial.specs.declared.fault.SettingError.TheVariants as setting
use Rattle.std.specs.Str.{IsUtf8}
use Rattle.toml.specs.Data.{Members}
use Rattle.toml.specs.Parse.{parse_document}
use Rattle.cli_report.specs.Assembly.{assembly_told}
use Rattle.cli_report.specs.Bytecode.{bytecode_told, unit_at}
use Rattle.cli_report.specs.Chronicles.{chronicle_told, schedule_told}
use Rattle.cli_report.specs.Errors.{ReportsScenario, TellsSetting}
use Rattle.cli_report.specs.Keys.{Found}
use Rattle.cli_report.specs.Lines.{line_at, trimmed}
use Rattle.cli_report.specs.Made.{ReportsMade, assembly_of, file_shown, own_line}
use Rattle.cli_report.specs.Lieutenants.{stranger_told}
use Rattle.cli_report.specs.Messages.{table_told}
use Rattle.cli_report.specs.Musters.{muster_sentence}
use Rattle.object.specs.Sentences.{sentence_of}
use Rattle.object.specs.declared.fault.ObjectFault.{ObjectFault}
use Rattle.threads.specs.declared.error.MusterError.{MusterError}
use Rattle.cli_report.specs.Report.{Mark, report_text}

-- States that the mark is a part of a line of the text, or that the text has no line with its number and the mark is
-- empty.
pub record IsInText (text : List ℕ) (m : Mark) : Type 0 where
  pub line : m.line ≡ trimmed (unwrap_or (line_at text m.number) [])
  pub part : m.from + m.size ≤ length m.line

-- States that the mark is a part of the hex digits of a unit of these bytes.
pub record IsInUnit (bytes : List ℕ) (m : Mark) : Type 0 where
  pub unit : m.line ≡ encode_lower (unit_at bytes m.number)
  pub some : m.line ≢ []
  pub part : m.from + m.size ≤ length m.line

-- States that `told` is a report with a sentence, for the file `name`. If it marks a place, this place satisfies
-- `IsIn`.
pub record IsReport (IsIn : Mark → Type 0) (name told : List ℕ) : Type 0 where
  pub sentence : List ℕ
  pub place : Option Mark
  pub help : Option (List ℕ)
  pub is : told ≡ report_text name sentence place help
  pub says : sentence ≢ []
  pub within : IfSome place IsIn

-- States that the error is a fault in a general's program, for which the scenario names an assembly file, and that
-- `told` is a report at a place in the text of that file, under the name of that file.
pub record IsReportOfFile (own : List ℕ) (made : Option Members) (error : ScenarioError) (told : List ℕ) : Type 0 where
  pub general : ℕ
  pub fault : ProgramFault
  pub key : Found
  pub program : error ≡ errors.Program general fault
  pub named : own_line (seat general (parse_document own)) (codes "asm_file") own ≡ Some key
  pub report : IsReport (IsInText (assembly_of (option_and_then (source_by general) made))) (file_shown key) told

-- States that each refusal of each kind of file has a report. An error that a text is not TOML has one if the text is
-- UTF-8 and not TOML. A fault of an object or of a muster has only a sentence, and no line. An error of a scenario that
-- names files has a report at a place in the scenario or in one of these files.
pub record RefusalsAreTold : Type 0 where
  pub assembly : (name text : List ℕ) (fault : AsmFault) (line : ℕ) →
      IsReport (IsInText text) name (assembly_told name text fault line)
  pub bytecode : (name bytes : List ℕ) (fault : CodecFault) (unit : ℕ) →
      IsReport (IsInUnit bytes) name (bytecode_told name bytes fault unit)
  pub table : (name text : List ℕ) (fault : TableFault) (line : ℕ) →
      IsReport (IsInText text) name (table_told name text fault line)
  pub stranger : (name text : List ℕ) (general generals : ℕ) →
      IsReport (IsInText text) name (stranger_told name text general generals)
  pub schedule : (name text : List ℕ) (line : ℕ) →
      IsReport (IsInText (take 1048576 text)) name (schedule_told name text line)
  pub chronicle : (name text : List ℕ) (fault : TraceFault) (line : ℕ) (wanted : Option (List ℕ)) →
      IsReport (IsInText text) name (chronicle_told name text fault line wanted)
  pub object : (fault : ObjectFault) → sentence_of fault ≢ []
  pub muster : (error : MusterError) → muster_sentence error ≢ []
  pub scenario : (name text told : List ℕ) (error : ScenarioError) →
      (error ≡ errors.Toml → IsUtf8 text × (parse_document text ≡ None))
      → ReportsScenario name text error told → IsReport (IsInText text) name told
  pub files : (name own told : List ℕ) (made : Option Members) (error : ScenarioError) →
      (error ≡ errors.Toml → IsUtf8 own × (parse_document own ≡ None))
      → ReportsMade name own made error told → IsReport (IsInText own) name told ⊎ IsReportOfFile own made error told
  pub setting : (name text told : List ℕ) (error : SettingError) →
      (error ≡ setting.Toml → IsUtf8 text × (parse_document text ≡ None))
      → TellsSetting name text error told → IsReport (IsInText text) name told
