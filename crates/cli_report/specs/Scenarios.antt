-- Defines the report of a fault of a scenario: the sentence for each code, and the place in the text (own).
use Rattle.std.specs.Prelude.{ℕ, suc, zero, ◌≡◌, ◌⊎◌, List, [], ◌∷◌, ◌++◌, Bool, true, false, ◌+◌, ◌-◌, ◌*◌, ◌^◌, ◌==◌, ◌&&◌, ◌||◌, nat_eq, nat_le, nat_lt, if◌then◌else◌, Option, None, Some, Result, Ok, Err, codes, drop, length, option_and_then, option_map, take}
use Rattle.std.specs.Fmt.{decimal}
use Rattle.std.specs.List.{starts_with}
use Rattle.std.specs.Str.{IsUtf8, bytes_eq}
use Rattle.std.specs.declared.alloc.AllocError.{AllocError}
use Rattle.toml.specs.Data.{Members}
use Rattle.toml.specs.Errors.{IsMemory}
use Rattle.toml.specs.declared.de.error.Error.{Error}
use Rattle.toml.specs.Parse.{parse_document}
use Rattle.asm.specs.declared.fault.AsmFault.{AsmFault}
use Rattle.combine.specs.Names.{rule_names}
use Rattle.codec.specs.declared.fault.CodecFault.{CodecFault}
use Rattle.verify.specs.ErrorText.{code_of}
use Rattle.verify.specs.declared.reason.Reason.{Reason}
use Rattle.scenario.specs.Names.{text_of}
use Rattle.scenario.specs.Sources.{source_by}
use Rattle.scenario.specs.Tables.{Source, Assembly, Hex}
use Rattle.scenario.specs.declared.place.ScenarioKey.{ScenarioKey}
use Rattle.scenario.specs.declared.place.ScenarioKey.TheVariants as names
use Rattle.scenario.specs.declared.place.ScenarioPlace.{ScenarioPlace}
use Rattle.scenario.specs.declared.place.ScenarioPlace.TheVariants as places
use Rattle.scenario.specs.declared.fault.ScenarioFault.{ScenarioFault}
use Rattle.scenario.specs.declared.fault.ScenarioFault.TheVariants as faults
use Rattle.scenario.specs.declared.fault.ProgramFault.{ProgramFault}
use Rattle.scenario.specs.declared.fault.ProgramFault.TheVariants as programs
use Rattle.cli_report.specs.Assembly.{Spot, assembly_sentence, code_told, unit_mark}
use Rattle.cli_report.specs.Bytecode.{unit_place, unit_sentence}
use Rattle.cli_report.specs.Keys.{Found, entry_line, found, header, or_else, shown_at, table_of, value_end}
use Rattle.cli_report.specs.Lines.{line_at, marked, trimmed}
use Rattle.cli_report.specs.Nearest.{near}
use Rattle.cli_report.specs.Report.{Mark, near_words, report_text}
use Rattle.cli_report.specs.Strategies.{strategy_help, strategy_sentence}
use Rattle.cli_report.specs.Units.{IsUnitLine}

-- ---- a fault at a place

-- Returns the error sentence for a key that is missing, or that must not be there.
abbrev pub missing_sentence : ScenarioKey → List ℕ
missing_sentence names.Rule = codes "a signed campaign combines no orders, so it has no rule"
missing_sentence names.Asm =
    codes "a traitor's table must have exactly one of `asm`, `code`, `asm_file`, `code_file`, `elf` and `strategy`"
missing_sentence name = codes "the key `" ++ text_of name ++ codes "` is missing"

-- Returns the error sentence for a key with a value of the wrong type.
abbrev pub kind_sentence : ScenarioKey → List ℕ
kind_sentence names.Board = codes "a board must be a list of whole numbers"
kind_sentence names.Rule = codes "a rule must be a text in quotation marks: " ++ rule_names
kind_sentence names.Messages = codes "messages must be a text, \"oral\" or \"signed\""
kind_sentence names.Traitor = codes "the traitors must be a list of tables, each of which begins with `[[traitor]]`"
kind_sentence names.Asm = codes "a program must be a text in quotation marks, such as `asm = \"mov r0, 0\\nexit\"`"
kind_sentence names.Code = codes "bytecode must be a text of hex digits in quotation marks"
kind_sentence names.Strategy = strategy_sentence
kind_sentence name = codes "a whole number is expected here"

-- Returns the error sentence for a key with a value out of its range.
abbrev pub range_sentence : ScenarioKey → List ℕ
range_sentence names.Generals = codes "there must be 2 to 13 generals"
range_sentence names.Bound = codes "a bound must be 0 to 4, and at most generals - 2"
range_sentence names.Commander = codes "generals are numbered from 0"
range_sentence names.Order = codes "an order must be 0 to 4294967295"
range_sentence names.Board = codes "a board must have at most 64 words"
range_sentence names.Patience = codes "a patience must be 1 to 4096 steps"
range_sentence names.Rule = codes "a rule must be one of these texts, in quotation marks: " ++ rule_names
range_sentence names.Messages = codes "messages must be \"oral\" or \"signed\", and \"oral\" for `play --table`"
range_sentence names.Strategy = strategy_sentence
range_sentence name = codes "this value is out of range"

-- Returns the error sentence for a fault of a scenario's key or its value.
abbrev pub name_sentence : ScenarioFault → ScenarioKey → List ℕ
name_sentence faults.Key name = missing_sentence name
name_sentence faults.Kind name = kind_sentence name
name_sentence faults.Range name = range_sentence name
name_sentence faults.General name = codes "no general has this number: it must be 0 to generals - 1"
name_sentence faults.Twice name = codes "an earlier table is for this general"

-- Returns the error sentence for a fault of a word in the list `board`.
abbrev pub word_sentence : ScenarioFault → List ℕ
word_sentence faults.Kind = codes "a word of the board must be a whole number"
word_sentence f = codes "a word of the board must be 0 to 9223372036854775807"

-- Returns the error sentence for a fault at a place in a scenario.
abbrev pub place_sentence : ScenarioFault → ScenarioPlace → List ℕ
place_sentence f (places.Key name) = name_sentence f name
place_sentence f (places.Word index) = word_sentence f
place_sentence f (places.Table index) = codes "a traitor must be a table that begins with `[[traitor]]`"
place_sentence f (places.Entry index name) = name_sentence f name

-- Checks whether a fault is in the value of a key. The fault `Key`, that a key is missing or must not be there, is not.
abbrev pub is_of_value : ScenarioFault → Bool
is_of_value faults.Key = false
is_of_value f = true

-- Marks the place of a fault in the text of a scenario, or returns `None` if its line is not found.
abbrev pub place_mark : ScenarioFault → ScenarioPlace → List ℕ → Option Mark
place_mark f (places.Key name) text = option_map (shown_at (is_of_value f) (text_of name)) (found 0 (text_of name) text)
place_mark f (places.Word index) text = option_map (shown_at true (codes "board")) (found 0 (codes "board") text)
place_mark f (places.Table index) text = option_map (shown_at false header) (entry_line index header text)
place_mark f (places.Entry index name) text =
    option_map (shown_at (is_of_value f) (text_of name)) (entry_line index (text_of name) text)

-- Returns the report of a fault at a place in a scenario, which is in the file `name`.
unfoldable pub place_told : List ℕ → List ℕ → ScenarioFault → ScenarioPlace → List ℕ
place_told name text f place =
    report_text name (place_sentence f place) (place_mark f place text) (strategy_help f place text)

-- ---- an unknown key

-- The keys at the top of a scenario.
abbrev pub top_keys : List (List ℕ)
top_keys =
    codes "generals" ∷ codes "bound" ∷ codes "commander" ∷ codes "order" ∷ codes "board" ∷ codes "patience" ∷
    codes "rule" ∷ codes "messages" ∷ codes "traitor" ∷ []

-- The keys of a traitor's table.
abbrev pub entry_keys : List (List ℕ)
entry_keys = codes "general" ∷ codes "generals" ∷ codes "asm" ∷ codes "asm_file" ∷ codes "code" ∷ codes "code_file" ∷
    codes "elf" ∷ codes "entry" ∷ codes "strategy" ∷ []

-- Returns the report of an unknown key. `line` is the line with the key, and `known` is a similar key, if there is one.
abbrev pub key_told : List ℕ → List ℕ → List ℕ → Option Found → Option (List ℕ) → List ℕ
key_told name sentence key line known =
    report_text name sentence (option_map (shown_at false key) line) (option_map (near_words (codes "key")) known)

-- Returns the report of an unknown key at the top of a scenario.
unfoldable pub top_key_told : List ℕ → List ℕ → List ℕ → List ℕ
top_key_told name text key =
    key_told name (codes "a scenario has no such key") key (found 0 key text) (near key top_keys)

-- Checks whether `known`, the known key that is most similar to `key`, is `key` itself. If it is, a table may have it,
-- but not next to its other keys, or not with this value.
abbrev pub is_itself : Option (List ℕ) → List ℕ → Bool
is_itself None key = false
is_itself (Some known) key = bytes_eq known key

-- Returns the error sentence for a key that a traitor's table must not have. If `known`, the most similar known key, is
-- the key itself, the sentence is that it does not fit the table's other keys, and otherwise that there is no such key.
abbrev pub entry_sentence : Option (List ℕ) → List ℕ → List ℕ
entry_sentence known key =
    if is_itself known key
    then codes "this key does not fit the table's other keys: a table has one program, and `general` or `generals`; "
    ++ codes "`generals` is a list, a file's name is a text, `entry` needs `elf`, and --no-files permits no file"
    else codes "a traitor's table has no such key"

-- Returns `known`, the known key that is most similar to `key`, unless it is `key` itself.
abbrev pub other_than : Option (List ℕ) → List ℕ → Option (List ℕ)
other_than known key = if is_itself known key then None else known

-- Returns the report of an unknown key in the traitor's table `index`, counted from 0.
unfoldable pub entry_key_told : List ℕ → List ℕ → ℕ → List ℕ → List ℕ
entry_key_told name text index key =
    key_told name (entry_sentence (near key entry_keys) key) key (entry_line index key text)
    (other_than (near key entry_keys) key)

-- Returns the report of an unknown key, at the top of a scenario or in the traitor's table with this index.
abbrev pub unknown_told : List ℕ → List ℕ → Option ℕ → List ℕ → List ℕ
unknown_told name text None key = top_key_told name text key
unknown_told name text (Some index) key = entry_key_told name text index key

-- ---- a program

-- Returns the line of the key `word` in the table of this general, which is found by its line `general = G`.
unfoldable pub program_line : ℕ → List ℕ → List ℕ → Option Found
program_line general word text = option_and_then (λ table. found table word text) (table_of general text)

-- Checks whether a TOML value is a string over several lines, which begins with three quotation marks.
abbrev pub is_long : List ℕ → Bool
is_long value = starts_with nat_eq value (codes "\"\"\"") || starts_with nat_eq value (codes "'''")

-- Checks whether the text of a TOML string begins with an escaped line feed, written `\n`.
abbrev pub is_feed : List ℕ → Bool
is_feed (c ∷ d ∷ cs) = c == 92 && d == 110
is_feed _ = false

-- Returns the text of a TOML string after its first escaped line feed, written `\n`, or no bytes if it has none.
abbrev pub behind_feed : List ℕ → List ℕ
behind_feed [] = []
behind_feed (c ∷ cs) = if is_feed (c ∷ cs) then drop 1 cs else behind_feed cs

-- Returns the text of a TOML string after its first n escaped line feeds, where n is the first argument, or no bytes if
-- it has fewer.
abbrev pub behind_feeds : ℕ → List ℕ → List ℕ
behind_feeds zero text = text
behind_feeds (suc n) text = behind_feeds n (behind_feed text)

-- Returns the text before its first escaped line feed, written `\n`, or its first `quote`. Returns all of it if it has
-- neither.
abbrev pub before_feed : List ℕ → List ℕ → List ℕ
before_feed quote [] = []
before_feed quote (c ∷ cs) =
    if is_feed (c ∷ cs) || starts_with nat_eq (c ∷ cs) quote then [] else c ∷ before_feed quote cs

-- Returns the text before its first `quote`, which ends a TOML string over several lines. Returns all of it if it has
-- none.
abbrev pub before_quote : List ℕ → List ℕ → List ℕ
before_quote quote [] = []
before_quote quote (c ∷ cs) = if starts_with nat_eq (c ∷ cs) quote then [] else c ∷ before_quote quote cs

-- Returns a line of a program with its place. `line` is the line of the file that contains it, and `end` is the part of
-- that line from the program's line, `code`, on.
abbrev pub end_spot : Found → List ℕ → List ℕ → Spot
end_spot line end code =
    record { number = line.number; shown = line.line; front = length line.line - length end; code = code }

-- Returns the line that is `more` lines after line `first` of a text, with its number, or `None` if there is no such
-- line. The number must be less than 2^64.
unfoldable pub line_behind : List ℕ → ℕ → ℕ → Option (ℕ × List ℕ)
line_behind text first more = if nat_lt (first + more) (2 ^ 64)
    then option_map (λ line. (first + more, line)) (line_at text (first + more)) else None

-- Returns the line of a program that begins where a line of the file begins, with its place. It ends before the
-- quotation marks `quote`, if the line of the file has them.
abbrev pub line_spot : List ℕ → ℕ × List ℕ → Spot
line_spot quote line = record { number = line.0; shown = line.1; front = 0; code = before_quote quote line.1 }

-- Returns line `number` of a program, with its place. The program is a TOML string over several lines. It begins on the
-- line of its key or, if nothing follows the opening quotation marks there, on the next line.
abbrev pub long_spot : List ℕ → ℕ → Found → List ℕ → List ℕ → Option Spot
long_spot text number line quote rest =
    if length (trimmed rest) == 0 then option_map (line_spot quote) (line_behind text line.number number)
    else if nat_le number 1 then Some (end_spot line rest (before_quote quote rest))
    else option_map (line_spot quote) (line_behind text line.number (number - 1))

-- Returns a line of a program with its place. The program is a TOML string on the line of its key, and `end` is the
-- part of it from the program's line on.
abbrev pub short_spot : Found → List ℕ → List ℕ → Spot
short_spot line quote end = end_spot line end (before_feed quote end)

-- Returns line `number` of a program, with its place. `line` is the line of the file with the program's key.
abbrev pub spot_in : List ℕ → ℕ → Found → Option Spot
spot_in text number line =
    if is_long (value_end line.line)
    then long_spot text number line (take 3 (value_end line.line)) (drop 3 (value_end line.line))
    else Some (short_spot line (take 1 (value_end line.line))
    (behind_feeds (number - 1) (drop 1 (value_end line.line))))

-- Returns the report of an assembler's fault in a line of a program, which is given with its place in the file. Without
-- it, the report has no excerpt.
abbrev pub spot_told : List ℕ → AsmFault → Option Spot → List ℕ
spot_told name f None = report_text name (assembly_sentence f []) None None
spot_told name f (Some spot) = code_told name f spot

-- Returns the report of an assembler's fault at line `number` of a program in a scenario. `line` is the line of the
-- scenario with the program's key.
abbrev pub text_told : List ℕ → List ℕ → AsmFault → ℕ → Option Found → List ℕ
text_told name text f number line = spot_told name f (option_and_then (spot_in text number) line)

-- Returns a line with bytecode, from the hex digits of unit `unit`, counted from 0, on. A unit past 4096 has no digits.
abbrev pub unit_end : List ℕ → ℕ → List ℕ
unit_end line unit = if nat_le unit 4096 then drop (16 * unit) (drop 1 (value_end line)) else []

-- Returns the report of a fault in the unit with these hex digits. `end` is the line with the bytecode from these
-- digits on.
abbrev pub unit_in_told : List ℕ → CodecFault → List ℕ → List ℕ → Found → List ℕ
unit_in_told name f digits end line =
    report_text name (unit_sentence f digits)
    (Some (marked line.number (trimmed line.line) (length line.line - length end + (unit_place f digits).0)
    (unit_place f digits).1)) None

-- Returns the report of a fault in unit `unit` of bytecode, counted from 0. `line` is the line with the bytecode.
-- Without it, the report has no excerpt.
abbrev pub code_line_told : List ℕ → CodecFault → ℕ → Option Found → List ℕ
code_line_told name f unit None = report_text name (unit_sentence f []) None None
code_line_told name f unit (Some line) =
    unit_in_told name f (take 16 (unit_end line.line unit)) (unit_end line.line unit) line

-- Returns the error sentence for a program that the verifier rejects at unit `unit`.
abbrev pub verifier_sentence : Reason → ℕ → List ℕ
verifier_sentence reason unit =
    codes "the verifier rejects this program: " ++ (code_of reason ++ (codes " at its unit " ++ decimal unit))

-- Returns the line with the key of a general's program: `asm` or, if his table has no such key, `code`.
abbrev pub source_line : ℕ → List ℕ → Option Found
source_line general text = or_else (program_line general (codes "asm") text) (program_line general (codes "code") text)

-- States that `mark` is the statement of unit `unit` in a program with the assembly `asm`. `line` is the line of the
-- file with the program's key.
abbrev pub IsUnitShown : List ℕ → ℕ → List ℕ → Option Found → Option Mark → Type 0
IsUnitShown text unit asm line mark = (number : ℕ) × IsUnitLine asm unit number
    × (mark ≡ option_map unit_mark (option_and_then (spot_in text number) line))

-- Marks the key `asm` of a general's program or, if he has no such key, all of the line with the key `code`.
abbrev pub source_shown : ℕ → List ℕ → Option Mark
source_shown general text = option_map (shown_at false (codes "asm")) (source_line general text)

-- Marks the key `code` of a general's program.
abbrev pub bytecode_shown : ℕ → List ℕ → Option Mark
bytecode_shown general text = option_map (shown_at false (codes "code")) (program_line general (codes "code") text)

-- States that `mark` is what the verifier rejects in a general's program: the statement of unit `unit` in assembly, or
-- the key of bytecode.
abbrev pub IsRefusedAt : List ℕ → ℕ → ℕ → Option Source → Option Mark → Type 0
IsRefusedAt text general unit None mark = mark ≡ source_shown general text
IsRefusedAt text general unit (Some (Hex digits)) mark = mark ≡ bytecode_shown general text
IsRefusedAt text general unit (Some (Assembly asm)) mark =
    IsUnitShown text unit asm (program_line general (codes "asm") text) mark

-- States that the second result has the table of the first one, or `None` if the text is not TOML. The second result
-- fails if the first one ran out of memory.
abbrev pub IsTableBy : {T : Type 0} → Result T Error → Result (Option T) AllocError → Type 0
IsTableBy (Ok table) (Ok (Some own)) = own ≡ table
IsTableBy (Err error) (Ok None) = ¬ IsMemory error
IsTableBy (Err error) (Err _) = IsMemory error
IsTableBy _ _ = ⊥

-- States that the members are the bytes, parsed as TOML. There are none if the bytes are not UTF-8 or not TOML.
abbrev pub IsDocumentOf : List ℕ → Option Members → Type 0
IsDocumentOf bytes members = (IsUtf8 bytes × (members ≡ parse_document bytes)) ⊎ (¬ IsUtf8 bytes × (members ≡ None))

-- States that `told` is the report of a general's program that the verifier rejects. `members` is the scenario's text,
-- parsed, or `None` if it is not TOML.
abbrev pub IsRefusedBy : List ℕ → List ℕ → ℕ → Reason → ℕ → Option Members → List ℕ → Type 0
IsRefusedBy name text general reason unit members told =
    (mark : Option Mark) × IsRefusedAt text general unit (option_and_then (source_by general) members) mark
    × (told ≡ report_text name (verifier_sentence reason unit) mark None)

-- States that `told` is the report of a general's program in the scenario `text` that the verifier rejects at unit
-- `unit`.
abbrev pub IsRefusedProgram : List ℕ → List ℕ → ℕ → Reason → ℕ → List ℕ → Type 0
IsRefusedProgram name text general reason unit told =
    (members : Option Members) × IsDocumentOf text members × IsRefusedBy name text general reason unit members told

-- Returns the report of a general's bytecode that is not an even number of hex digits.
abbrev pub hex_told : List ℕ → List ℕ → ℕ → List ℕ
hex_told name text general =
    report_text name (codes "bytecode must be an even number of hex digits, without spaces")
    (option_map (shown_at true (codes "code")) (program_line general (codes "code") text)) None

-- States that `told` is the report of a fault in the program of this general in the scenario `text`.
abbrev pub IsProgramTold : List ℕ → List ℕ → ℕ → ProgramFault → List ℕ → Type 0
IsProgramTold name text general (programs.Asm f number) told =
    told ≡ text_told name text f number (program_line general (codes "asm") text)
IsProgramTold name text general programs.Hex told = told ≡ hex_told name text general
IsProgramTold name text general (programs.Code f unit) told =
    told ≡ code_line_told name f unit (program_line general (codes "code") text)
IsProgramTold name text general (programs.Verifier reason unit) told =
    IsRefusedProgram name text general reason unit told
