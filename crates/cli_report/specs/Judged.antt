-- Defines what follows the report of a traitor's program that the verifier rejects: its explanation, as
-- `check --explain` prints it, with each unit's line in the scenario's own text (own).
use Rattle.std.specs.Prelude.{ℕ, ◌≡◌, ◌≢◌, ◌⊎◌, ◌-◌, ◌==◌, Bool, true, false, if◌then◌else◌, List, [], ◌++◌, Option, None, Some, Result, Ok, Err, String, codes, drop, length, map, option_and_then, replicate, string_bytes}
use Rattle.std.specs.Str.{IsUtf8}
use Rattle.std.specs.declared.alloc.AllocError.{AllocError}
use Rattle.std.specs.declared.alloc.Global.{Global}
use Rattle.toml.specs.Parse.{parse_document}
use Rattle.insn.specs.declared.insn.Insn.{Insn}
use Rattle.insn.specs.Program.{slots_of}
use Rattle.asm.specs.Places.{AreWritten, line_text, statements_of}
use Rattle.asm.specs.Program.{lines_of, nothing, read_on}
use Rattle.explain.specs.Explained.{explained_at}
use Rattle.explain.specs.Units.{in_lists}
use Rattle.scenario.specs.Sources.{source_by}
use Rattle.scenario.specs.Tables.{Source, Assembly, Hex}
use Rattle.scenario.specs.Reading.{IsFaultOf, IsProgramOf}
use Rattle.scenario.specs.declared.fault.ProgramFault.{ProgramFault}
use Rattle.scenario.specs.declared.fault.ProgramFault.TheVariants as programs
use Rattle.scenario.specs.declared.fault.ScenarioError.{ScenarioError}
use Rattle.scenario.specs.declared.fault.ScenarioError.TheVariants as scenario
use Rattle.cli_report.specs.Keys.{Found, value_end}
use Rattle.cli_report.specs.Lines.{trimmed}
use Rattle.cli_report.specs.Scenarios.{is_long, source_line}

-- Returns how many lines of a file are before the first line of a program, which is a TOML string over several lines.
-- If nothing follows the opening quotation marks on the line of the program's key, the program begins on the next line.
abbrev pub lines_before : Found → ℕ
lines_before f = if length (trimmed (drop 3 (value_end f.line))) == 0 then f.number else f.number - 1

-- Returns `lines` empty lines and then the text. This gives the text's lines the numbers that they have in a file.
abbrev pub pushed_down : ℕ → List ℕ → List ℕ
pushed_down lines text = replicate lines 10 ++ text

-- States that the list has for each unit of a program its place in a file, as the text `line N`. The flag says whether
-- the program is a TOML string over several lines. If not, all units have the place of the key.
abbrev pub ArePlacedFrom : Bool → List ℕ → Found → List Insn → List (List ℕ) → Type 0
ArePlacedFrom true text f program places =
    AreWritten (read_on nothing 1 (lines_of (pushed_down (lines_before f) text))) places
ArePlacedFrom false text f program places = places ≡ replicate (length (slots_of program)) (line_text f.number)

-- States that the list has for each unit of a program its place, if the second argument is the line of the program's
-- key. Without that line, the list is empty. Bytecode is on one line.
abbrev pub ArePlaced : Source → Option Found → List Insn → List (List ℕ) → Type 0
ArePlaced source None program places = places ≡ []
ArePlaced (Assembly text) (Some f) program places = ArePlacedFrom (is_long (value_end f.line)) text f program places
ArePlaced (Hex text) (Some f) program places = ArePlacedFrom false text f program places

-- States that the list has for each unit of a program its statement in assembly. It is empty for bytecode.
abbrev pub AreStated : Source → List (List ℕ) → Type 0
AreStated (Assembly text) statements = statements ≡ statements_of text
AreStated (Hex text) statements = statements ≡ []

-- States that the second result has the program of the first one, or `None` if the source had a fault. The second
-- result fails if the first one ran out of memory.
abbrev pub IsMadeBy : {T : Type 0} → Result T ScenarioError → Result (Option T) AllocError → Type 0
IsMadeBy (Ok program) (Ok (Some own)) = own ≡ program
IsMadeBy (Err error) (Ok None) = error ≢ scenario.Memory
IsMadeBy (Err error) (Err _) = error ≡ scenario.Memory
IsMadeBy _ _ = ⊥

-- States that this is the program that the source gives, or that it is `None` and the source has a fault.
abbrev pub GivesProgram : Source → Option (List Insn) → Type 0
GivesProgram source (Some program) = IsProgramOf source program
GivesProgram source None = (fault : ProgramFault) × IsFaultOf fault source

-- States that `told` is an empty line and the explanation of the program that the source gives, or that it is empty and
-- the source has a fault.
abbrev pub IsExplainedOf : Source → Option Found → List ℕ → Type 0
IsExplainedOf source line told =
    ((program : List Insn) × IsProgramOf source program
    × ((places statements : List (String Global)) × ArePlaced source line program (map string_bytes places)
    × AreStated source (map string_bytes statements)
    × (told ≡ codes "\n" ++ explained_at (in_lists places statements) program)))
    ⊎ ((fault : ProgramFault) × IsFaultOf fault source × (told ≡ []))

-- States that `told` is an empty line and the explanation of the program that the source gives. It is empty if there is
-- no source, or if the source has a fault.
abbrev pub IsExplainedBy : Option Source → Option Found → List ℕ → Type 0
IsExplainedBy None line told = told ≡ []
IsExplainedBy (Some source) line told = IsExplainedOf source line told

-- States that, if the scenario's text is UTF-8, `told` is an empty line and the explanation of general `g`'s program in
-- it. If he has no such program, `told` is empty.
abbrev pub IsExplained : List ℕ → ℕ → List ℕ → Type 0
IsExplained text g told =
    IsUtf8 text → IsExplainedBy (option_and_then (source_by g) (parse_document text)) (source_line g text) told

-- Returns the general whose program the verifier rejects, or `None` for another error.
abbrev pub judged_of : ScenarioError → Option ℕ
judged_of (scenario.Program g (programs.Verifier reason unit)) = Some g
judged_of error = None

-- States that `behind`, which follows a report, is the explanation of the program of this general, or empty if there is
-- no such general.
abbrev pub IsJudged : List ℕ → Option ℕ → List ℕ → Type 0
IsJudged text None behind = behind ≡ []
IsJudged text (Some g) behind = IsExplained text g behind
