-- Defines the report of an error of a scenario that names files, at a line of the scenario or of one of these files
-- (own). `own` is the scenario's own text. The resolved text has the contents of the files in place of their names.
use Rattle.std.specs.Prelude.{ℕ, ◌≡◌, ◌+◌, ◌*◌, true, false, nat_le, if◌then◌else◌, List, [], ◌++◌, Option, None, Some, codes, drop, take, option_and_then, option_map, string_bytes}
use Rattle.toml.specs.Data.{Members}
use Rattle.toml.specs.Parse.{parse_document}
use Rattle.asm.specs.declared.fault.AsmFault.{AsmFault}
use Rattle.codec.specs.declared.fault.CodecFault.{CodecFault}
use Rattle.scenario.specs.Origins.{origin, seat}
use Rattle.scenario.specs.Names.{text_of}
use Rattle.scenario.specs.Sources.{source_by}
use Rattle.scenario.specs.Tables.{Source, Assembly, Hex}
use Rattle.scenario.specs.declared.fault.ScenarioFault.{ScenarioFault}
use Rattle.scenario.specs.declared.fault.ProgramFault.{ProgramFault}
use Rattle.scenario.specs.declared.fault.ProgramFault.TheVariants as programs
use Rattle.scenario.specs.declared.fault.ScenarioError.{ScenarioError}
use Rattle.scenario.specs.declared.fault.ScenarioError.TheVariants as errors
use Rattle.scenario.specs.declared.place.ScenarioKey.{ScenarioKey}
use Rattle.scenario.specs.declared.place.ScenarioKey.TheVariants as names
use Rattle.scenario.specs.declared.place.ScenarioPlace.{ScenarioPlace}
use Rattle.scenario.specs.declared.place.ScenarioPlace.TheVariants as places
use Rattle.verify.specs.declared.reason.Reason.{Reason}
use Rattle.cli_report.specs.Assembly.{assembly_sentence, assembly_told, unit_mark, whole}
use Rattle.cli_report.specs.Bytecode.{unit_sentence}
use Rattle.cli_report.specs.Errors.{memory_told}
use Rattle.cli_report.specs.Judged.{IsExplainedBy, judged_of}
use Rattle.cli_report.specs.Keys.{Found, entry_line, found, or_else, quoted_value, shown_at}
use Rattle.cli_report.specs.Lines.{line_at}
use Rattle.cli_report.specs.Report.{Mark, report_text, shown_line}
use Rattle.cli_report.specs.Scenarios.{IsUnitShown, code_line_told, is_of_value, place_mark, place_sentence, text_told, unknown_told, verifier_sentence}
use Rattle.cli_report.specs.Strategies.{strategy_help}
use Rattle.cli_report.specs.Toml.{TellsToml}
use Rattle.cli_report.specs.Units.{IsUnitLine}

-- ---- a fault at a place

-- Returns the place in the scenario's own text from which a place in the resolved text comes. Several tables of the
-- resolved text can come from one table.
abbrev pub own_place : Option Members → ScenarioPlace → ScenarioPlace
own_place own (places.Table index) = places.Table (origin index own)
own_place own (places.Entry index name) = places.Entry (origin index own) name
own_place own place = place

-- Returns the key that a table may have in place of this one: `generals`, `asm_file` or `code_file`. Any other key is
-- returned unchanged.
abbrev pub other_key : ScenarioKey → List ℕ
other_key names.General = codes "generals"
other_key names.Asm = codes "asm_file"
other_key names.Code = codes "code_file"
other_key name = text_of name

-- Returns the key itself if its line is found, and otherwise the key that a table may have in its place.
abbrev pub word_if : Option Found → ScenarioKey → List ℕ
word_if None name = other_key name
word_if (Some f) name = text_of name

-- Returns the key that table `index` of the scenario's own text has: `name` itself, or a key that may replace it, such
-- as `asm_file` for `asm`.
abbrev pub own_word : ℕ → ScenarioKey → List ℕ → List ℕ
own_word index name own = word_if (found (index + 1) (text_of name) own) name

-- Marks the key `word` or its value in table `index` of the scenario's own text.
abbrev pub word_shown : ScenarioFault → ℕ → List ℕ → List ℕ → Option Mark
word_shown f index word own = option_map (shown_at (is_of_value f) word) (entry_line index word own)

-- Marks a place in the scenario's own text.
unfoldable pub own_mark : ScenarioFault → ScenarioPlace → List ℕ → Option Mark
own_mark f (places.Entry index name) own = word_shown f index (own_word index name own) own
own_mark f place own = place_mark f place own

-- Returns the report of a fault at a place in the scenario's own text, which is in the file `name`.
unfoldable pub own_place_told : List ℕ → List ℕ → ScenarioFault → ScenarioPlace → List ℕ
own_place_told name own f place =
    report_text name (place_sentence f place) (own_mark f place own) (strategy_help f place own)

-- Returns the number of the table in the scenario's own text from which table `at` of the resolved text comes.
abbrev pub own_index : Option Members → Option ℕ → Option ℕ
own_index own at = option_map (λ index. origin index own) at

-- ---- a program

-- Returns the line of the key `word` in table `table` of the scenario's own text, or `None` if the table has no such
-- key.
abbrev pub own_line : Option ℕ → List ℕ → List ℕ → Option Found
own_line table word own = option_and_then (λ index. found (index + 1) word own) table

-- Returns the name of the file that this line names, with control characters escaped.
abbrev pub file_shown : Found → List ℕ
file_shown f = shown_line (quoted_value f)

-- Returns the assembly of a program, or an empty text if the program is not written in assembly.
abbrev pub assembly_of : Option Source → List ℕ
assembly_of (Some (Assembly text)) = text
assembly_of source = []

-- Returns the hex digits of a program, or an empty text if the program is not written in hex digits.
abbrev pub digits_of : Option Source → List ℕ
digits_of (Some (Hex text)) = text
digits_of source = []

-- Returns the report of a fault in line `number` of an assembly file. `key` is the line of the scenario that names this
-- file. If it is `None`, the report has no excerpt.
abbrev pub file_told : List ℕ → AsmFault → ℕ → Option Source → Option Found → List ℕ
file_told name f number source None = report_text name (assembly_sentence f []) None None
file_told name f number source (Some key) = assembly_told (file_shown key) (assembly_of source) f number

-- Returns the report of a fault in line `number` of a traitor's assembly. The last argument is the line of the key
-- `asm`. If the table has no such key, the assembly is in a file.
abbrev pub asm_told : List ℕ → List ℕ → AsmFault → ℕ → Option Source → Option ℕ → Option Found → List ℕ
asm_told name own f number source table (Some line) = text_told name own f number (Some line)
asm_told name own f number source table None = file_told name f number source (own_line table (codes "asm_file") own)

-- Returns the hex digits of unit `unit`, counted from 0: at most 16. A unit past 4096 has none.
abbrev pub unit_digits : List ℕ → ℕ → List ℕ
unit_digits digits unit = if nat_le unit 4096 then take 16 (drop (16 * unit) digits) else []

-- Marks the name of the object file in this line, if there is one.
abbrev pub object_shown : Option Found → Option Mark
object_shown line = option_map (shown_at true (codes "elf")) line

-- Marks the name of the bytecode file in the first line or, if there is none, the name of the object file in the
-- second.
abbrev pub file_key_shown : Option Found → Option Found → Option Mark
file_key_shown (Some line) object = Some (shown_at true (codes "code_file") line)
file_key_shown None object = object_shown object

-- Marks the name of the bytecode file in table `table` of the scenario or, if it has none, the name of the object file.
abbrev pub bytes_shown : Option ℕ → List ℕ → Option Mark
bytes_shown table own = file_key_shown (own_line table (codes "code_file") own) (own_line table (codes "elf") own)

-- Returns the report of a fault in unit `unit` of a traitor's bytecode. The last argument is the line of the key
-- `code`. If the table has no such key, the bytecode is in a file.
abbrev pub unit_told : List ℕ → List ℕ → CodecFault → ℕ → Option Source → Option ℕ → Option Found → List ℕ
unit_told name own f unit source table (Some line) = code_line_told name f unit (Some line)
unit_told name own f unit source table None =
    report_text name (unit_sentence f (unit_digits (digits_of source) unit)) (bytes_shown table own) None

-- ---- a program that the verifier rejects

-- Marks the statement in line `number` of an assembly text, or returns `None` if there is no such line.
abbrev pub line_shown : List ℕ → ℕ → Option Mark
line_shown text number = option_map (λ line. unit_mark (whole number line)) (line_at text number)

-- States that `told` is the report of a program in an assembly file that the verifier rejects, at the line of unit
-- `unit`.
abbrev pub IsUnitTold : List ℕ → Reason → ℕ → List ℕ → List ℕ → Type 0
IsUnitTold file reason unit text told =
    (number : ℕ) × IsUnitLine text unit number
    × (told ≡ report_text file (verifier_sentence reason unit) (line_shown text number) None)

-- Returns the report of a program that the verifier rejects. `mark` is the part to mark in the scenario's own text.
abbrev pub key_told : List ℕ → Reason → ℕ → Option Mark → List ℕ
key_told name reason unit mark = report_text name (verifier_sentence reason unit) mark None

-- Marks the key `code` in table `table` of the scenario or, if it has none, the name of the bytecode file or object
-- file.
abbrev pub code_shown : Option ℕ → List ℕ → Option Found → Option Mark
code_shown table own (Some line) = Some (shown_at false (codes "code") line)
code_shown table own None = bytes_shown table own

-- States that `told` is the report of a program that the verifier rejects and whose assembly is not in the scenario.
-- `key` is the line that names the assembly file, if there is one.
abbrev pub IsRefusedFile : List ℕ → List ℕ → Reason → ℕ → Option Source → Option ℕ → Option Found → List ℕ → Type 0
IsRefusedFile name own reason unit source table (Some key) told =
    IsUnitTold (file_shown key) reason unit (assembly_of source) told
IsRefusedFile name own reason unit source table None told =
    told ≡ key_told name reason unit (code_shown table own (own_line table (codes "code") own))

-- States that `told` is the report of a program that the verifier rejects and whose assembly is in the scenario. `line`
-- is the line of the program's key.
abbrev pub IsOwnUnitTold : List ℕ → List ℕ → Reason → ℕ → List ℕ → Found → List ℕ → Type 0
IsOwnUnitTold name own reason unit text line told =
    (mark : Option Mark) × IsUnitShown own unit text (Some line) mark × (told ≡ key_told name reason unit mark)

-- States that `told` is the report of a program that the verifier rejects. `line` is the line of the key `asm`, if the
-- table has one.
abbrev pub IsRefusedTold : List ℕ → List ℕ → Reason → ℕ → Option Source → Option ℕ → Option Found → List ℕ → Type 0
IsRefusedTold name own reason unit source table (Some line) told =
    IsOwnUnitTold name own reason unit (assembly_of source) line told
IsRefusedTold name own reason unit source table None told =
    IsRefusedFile name own reason unit source table (own_line table (codes "asm_file") own) told

-- ---- all of it

-- Returns the report of a scenario's bytecode that is not an even number of hex digits. `table` is the number of the
-- table with this bytecode.
abbrev pub hex_told : List ℕ → List ℕ → Option ℕ → List ℕ
hex_told name own table =
    report_text name (codes "bytecode must be an even number of hex digits, without spaces")
    (option_map (shown_at true (codes "code")) (own_line table (codes "code") own)) None

-- States that `told` is the report of a fault in a traitor's program, which is `source`. `table` is the number of his
-- table in the scenario's own text.
abbrev pub ReportsProgram : List ℕ → List ℕ → Option Source → Option ℕ → ProgramFault → List ℕ → Type 0
ReportsProgram name own source table (programs.Asm f number) told =
    told ≡ asm_told name own f number source table (own_line table (codes "asm") own)
ReportsProgram name own source table programs.Hex told = told ≡ hex_told name own table
ReportsProgram name own source table (programs.Code f unit) told =
    told ≡ unit_told name own f unit source table (own_line table (codes "code") own)
ReportsProgram name own source table (programs.Verifier reason unit) told =
    IsRefusedTold name own reason unit source table (own_line table (codes "asm") own) told

-- States that `told` is the report of an error that was found in the resolved text of a scenario, which is `made`,
-- parsed.
abbrev pub ReportsMade : List ℕ → List ℕ → Option Members → ScenarioError → List ℕ → Type 0
ReportsMade name own made errors.Toml told = TellsToml name own told
ReportsMade name own made (errors.Unknown at key) told =
    told ≡ unknown_told name own (own_index (parse_document own) at) (string_bytes key)
ReportsMade name own made (errors.At f place) told =
    told ≡ own_place_told name own f (own_place (parse_document own) place)
ReportsMade name own made (errors.Program g fault) told =
    ReportsProgram name own (option_and_then (source_by g) made) (seat g (parse_document own)) fault told
ReportsMade name own made errors.Memory told = told ≡ memory_told name

-- A made-up line 0, after which the text of an assembly file begins. The lines of the file are counted from it.
abbrev pub in_file : Found
in_file = record { number = 0; line = codes "asm='''"; tables = 0 }

-- Returns the line from which the lines of a program are counted: a made-up line 0 if `key` names an assembly file, and
-- otherwise the line `bytes`.
abbrev pub file_line : Option Found → Option Found → Option Found
file_line None bytes = bytes
file_line (Some key) bytes = Some in_file

-- Returns the line from which a program's lines are counted, if its assembly is not in the scenario: a made-up line 0
-- for an assembly file, or the line of the key of its bytecode.
abbrev pub file_source : Option ℕ → List ℕ → Option Found
file_source table own =
    file_line (own_line table (codes "asm_file") own)
    (or_else (own_line table (codes "code") own)
    (or_else (own_line table (codes "code_file") own) (own_line table (codes "elf") own)))

-- Returns the line from which the lines of a program in table `table` are counted: the line of the program's key, or a
-- made-up line 0 for an assembly file.
abbrev pub own_source : Option ℕ → List ℕ → Option Found
own_source table own = or_else (own_line table (codes "asm") own) (file_source table own)

-- States that `behind`, which follows a report, is the explanation of this general's program, or empty if there is no
-- such general.
abbrev pub IsMadeJudged : List ℕ → Option Members → Option ℕ → List ℕ → Type 0
IsMadeJudged own made None behind = behind ≡ []
IsMadeJudged own made (Some g) behind =
    IsExplainedBy (option_and_then (source_by g) made) (own_source (seat g (parse_document own)) own) behind

-- States that `told` is what follows the refusal line for an error of a scenario: the report, and the explanation of a
-- rejected program. `own` is the scenario's own text, and `made` is its resolved text.
abbrev pub TellsMade : List ℕ → List ℕ → List ℕ → ScenarioError → List ℕ → Type 0
TellsMade name own made error told =
    (report : List ℕ) × ReportsMade name own (parse_document made) error report
    × ((behind : List ℕ) × IsMadeJudged own (parse_document made) (judged_of error) behind × (told ≡ report ++ behind))
