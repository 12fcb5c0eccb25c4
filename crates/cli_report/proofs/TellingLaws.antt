-- Each refusal has a report with a sentence, and the place in it is within the file.
use Rattle.std.proofs.Common.{ℕ, ◌≡◌, ◌≢◌, ◌+◌, ◌-◌, ◌^◌, ◌⊎◌, inl, inr, List, [], ◌∷◌, ◌++◌, Bool, true, false, ◌==◌, cond, codes, arith, drop, length, refl, subst, sym, take}
use Rattle.std.specs.Prelude.{Option, None, Some, IfSome, decimal, if◌then◌else◌, nat_le, nat_lt, option_and_then, option_map}
use Rattle.std.specs.Str.{IsUtf8}
use Rattle.asm.specs.declared.fault.AsmFault.{AsmFault}
use Rattle.codec.specs.declared.fault.CodecFault.{CodecFault}
use Rattle.codec.specs.declared.fault.CodecFault.TheVariants as codec
use Rattle.book.specs.declared.fault.TableFault.{TableFault}
use Rattle.hex.specs.Hex.{encode_lower}
use Rattle.trace.specs.declared.fault.TraceFault.{TraceFault}
use Rattle.scenario.specs.declared.fault.ScenarioFault.{ScenarioFault}
use Rattle.scenario.specs.Origins.{seat}
use Rattle.scenario.specs.Names.{text_of}
use Rattle.scenario.specs.Sources.{source_by}
use Rattle.scenario.specs.Tables.{Source, Assembly, Hex}
use Rattle.scenario.specs.declared.place.ScenarioPlace.{ScenarioPlace}
use Rattle.scenario.specs.declared.place.ScenarioPlace.TheVariants as places
use Rattle.scenario.specs.declared.fault.ProgramFault.{ProgramFault}
use Rattle.scenario.specs.declared.fault.ProgramFault.TheVariants as programs
use Rattle.scenario.specs.declared.fault.ScenarioError.{ScenarioError}
use Rattle.scenario.specs.declared.fault.ScenarioError.TheVariants as scenario
use Rattle.trial.specs.declared.place.SettingPlace.{SettingPlace}
use Rattle.trial.specs.declared.fault.SettingFault.{SettingFault}
use Rattle.trial.specs.declared.fault.SettingError.{SettingError}
use Rattle.trial.specs.declared.fault.SettingError.TheVariants as setting
use Rattle.toml.specs.Data.{Members}
use Rattle.toml.specs.Parse.{parse_document}
use Rattle.verify.specs.declared.reason.Reason.{Reason}
use Rattle.cli_report.specs.Assembly.{Spot, assembly_told, line_told, unit_mark, whole}
use Rattle.cli_report.specs.Bytecode.{bytecode_told, unit_at, unit_marked}
use Rattle.cli_report.specs.Chronicles.{chronicle_line_told, chronicle_told, schedule_line_told, schedule_told}
use Rattle.cli_report.specs.Errors.{ReportsScenario, TellsSetting}
use Rattle.cli_report.specs.Keys.{Found, entry_line, found, header, table_of, value_end}
use Rattle.cli_report.specs.Laws.{IsInText, IsInUnit, IsReport, IsReportOfFile, RefusalsAreTold}
use Rattle.cli_report.specs.Lines.{line_at, trimmed}
use Rattle.cli_report.specs.Made.{IsRefusedFile, IsRefusedTold, ReportsMade, ReportsProgram, asm_told, assembly_of, bytes_shown, code_shown, file_key_shown, file_shown, file_told, line_shown, own_line, own_mark, own_place_told, own_word, unit_told}
use Rattle.cli_report.specs.Lieutenants.{lieutenant_sentence, lieutenant_told, lieutenant_word, stranger_by, stranger_told}
use Rattle.cli_report.specs.Messages.{stranger_line_told, table_line_told, table_told}
use Rattle.cli_report.specs.Nearest.{near}
use Rattle.cli_report.specs.Report.{Mark, report_text}
use Rattle.cli_report.specs.Scenarios.{IsProgramTold, IsRefusedAt, before_quote, behind_feeds, bytecode_shown, code_line_told, end_spot, is_long, line_behind, line_spot, long_spot, place_mark, place_told, program_line, source_line, source_shown, short_spot, spot_in, spot_told, text_told, entry_key_told, entry_keys, is_itself, top_key_told, unknown_told}
use Rattle.cli_report.specs.Settings.{setting_place_told, setting_unknown_told, setting_word}
use Rattle.cli_report.specs.Toml.{TellsToml, span_marked}
use Rattle.cli_report.proofs.PlaceLemmas.{entry-at, found-at, found-in, marked-in, or-at, shown-in}
use Rattle.cli_report.proofs.SayingLemmas.{assembly-says, chronicle-says, muster-says, object-says, place-says, setting-says, table-says, unit-says}

-- A report is made of its parts.
report : (IsIn : Mark → Type 0) (name sentence : List ℕ) (place : Option Mark) (help : Option (List ℕ)) → sentence ≢ [] → IfSome place IsIn
    → IsReport IsIn name (report_text name sentence place help)
report IsIn name sentence place help says within = record { sentence = sentence; place = place; help = help; is = refl; says = says; within = within }

-- One report or the other.
if-report : (IsIn : Mark → Type 0) (name : List ℕ) (b : Bool) (s t : List ℕ) → IsReport IsIn name s → IsReport IsIn name t → IsReport IsIn name (cond b s t)
if-report IsIn name true s t h k = h
if-report IsIn name false s t h k = k

-- ---- assembly, tables, schedules, chronicles

assembly_line : (name text : List ℕ) (f : AsmFault) (number : ℕ) (line : Option (List ℕ)) → line_at text number ≡ line → IsReport (IsInText text) name (line_told name f number line)
assembly_line name text f number None is = report (IsInText text) name _ _ _ (assembly-says f _) tt
assembly_line name text f number (Some line) is = report (IsInText text) name _ _ _ (assembly-says f _) (marked-in text line number _ _ is)

assembly_report : (name text : List ℕ) (f : AsmFault) (number : ℕ) → IsReport (IsInText text) name (assembly_told name text f number)
unfolding assembly_told
assembly_report name text f number = assembly_line name text f number (line_at text number) refl

table_line : (name text : List ℕ) (f : TableFault) (number : ℕ) (line : Option (List ℕ)) → line_at text number ≡ line → IsReport (IsInText text) name (table_line_told name f number line)
table_line name text f number None is = report (IsInText text) name _ _ _ (table-says f number) tt
table_line name text f number (Some line) is = report (IsInText text) name _ _ _ (table-says f number) (marked-in text line number _ _ is)

table_report : (name text : List ℕ) (f : TableFault) (number : ℕ) → IsReport (IsInText text) name (table_told name text f number)
unfolding table_told
table_report name text f number = table_line name text f number (line_at text number) refl

stranger_line : (name text : List ℕ) (generals : ℕ) (line : Option (List ℕ)) → line_at text 1 ≡ line → IsReport (IsInText text) name (stranger_line_told name generals line)
stranger_line name text generals None is = report (IsInText text) name _ _ _ (λ e. cc) tt
stranger_line name text generals (Some line) is = report (IsInText text) name _ _ _ (λ e. cc) (marked-in text line 1 _ _ is)

both-say : (b : Bool) (s t : List ℕ) → s ≢ [] → t ≢ [] → cond b s t ≢ []
both-say true s t h k = h
both-say false s t h k = k

lieutenant-says : (general generals : ℕ) → lieutenant_sentence general generals ≢ []
lieutenant-says general generals =
    both-say (nat_lt general generals) (codes "general " ++ decimal general ++ codes " is the commander, and only lieutenants decide") (codes "the campaign has the generals 0 to " ++ decimal (generals - 1)) (λ e. cc) (λ e. cc)

lieutenant_report : (name text : List ℕ) (general generals : ℕ) → IsReport (IsInText text) name (lieutenant_told name text general generals)
unfolding lieutenant_told
lieutenant_report name text general generals =
    report (IsInText text) name _ _ _ (lieutenant-says general generals)
    (found-in text true (lieutenant_word general generals) (found 0 (lieutenant_word general generals) text) (found-at 0 (lieutenant_word general generals) text))

stranger_kind : (name text : List ℕ) (general generals : ℕ) (line : Option Found) → IsReport (IsInText text) name (stranger_by name text general generals line)
stranger_kind name text general generals None = stranger_line name text generals (line_at text 1) refl
stranger_kind name text general generals (Some line) = lieutenant_report name text general generals

stranger_report : (name text : List ℕ) (general generals : ℕ) → IsReport (IsInText text) name (stranger_told name text general generals)
unfolding stranger_told
stranger_report name text general generals = stranger_kind name text general generals (found 0 (codes "commander") text)

schedule_line : (name text : List ℕ) (number : ℕ) (line : Option (List ℕ)) → line_at text number ≡ line → IsReport (IsInText text) name (schedule_line_told name number line)
schedule_line name text number None is = report (IsInText text) name _ _ _ (λ e. cc) tt
schedule_line name text number (Some line) is = report (IsInText text) name _ _ _ (λ e. cc) (marked-in text line number _ _ is)

schedule_report : (name text : List ℕ) (number : ℕ) → IsReport (IsInText (take 1048576 text)) name (schedule_told name text number)
unfolding schedule_told
schedule_report name text number = schedule_line name (take 1048576 text) number (line_at (take 1048576 text) number) refl

chronicle_line : (name text : List ℕ) (last : Bool) (f : TraceFault) (number : ℕ) (wanted line : Option (List ℕ)) → line_at text number ≡ line
    → IsReport (IsInText text) name (chronicle_line_told name last f number wanted line)
chronicle_line name text last f number wanted None is = report (IsInText text) name _ _ _ (chronicle-says last f) tt
chronicle_line name text last f number wanted (Some line) is = report (IsInText text) name _ _ _ (chronicle-says last f) (marked-in text line number _ _ is)

chronicle_report : (name text : List ℕ) (f : TraceFault) (number : ℕ) (wanted : Option (List ℕ)) → IsReport (IsInText text) name (chronicle_told name text f number wanted)
unfolding chronicle_told
chronicle_report name text f number wanted = chronicle_line name text _ f number wanted (line_at text number) refl

-- ---- bytecode

digits-in : (bytes : List ℕ) (f : CodecFault) (unit : ℕ) (digits : List ℕ) → encode_lower (unit_at bytes unit) ≡ digits → IfSome (unit_marked f unit digits) (IsInUnit bytes)
digits-in bytes codec.Count unit digits is = tt
digits-in bytes f unit [] is = tt
digits-in bytes f unit (d ∷ ds) is = record { unit = sym is; some = λ e. cc; part = omega arith }

bytecode_report : (name bytes : List ℕ) (f : CodecFault) (unit : ℕ) → IsReport (IsInUnit bytes) name (bytecode_told name bytes f unit)
unfolding bytecode_told
bytecode_report name bytes f unit = report (IsInUnit bytes) name _ _ _ (unit-says f _) (digits-in bytes f unit (encode_lower (unit_at bytes unit)) refl)

-- ---- texts that are not TOML

span-in : (text : List ℕ) (start end : ℕ) → IsInText text (span_marked text start end)
span-in text start end = record { line = refl; part = omega arith }

toml_report : (name text told : List ℕ) → IsUtf8 text × (parse_document text ≡ None) → TellsToml name text told → IsReport (IsInText text) name told
toml_report name text told none tells =
    let own = tells none.0 none.1 in
    subst (IsReport (IsInText text) name) (sym own.is) (report (IsInText text) name _ _ _ (λ e. cc) (span-in text own.start own.end))

-- ---- programs in a scenario

at-program : (general : ℕ) (word text : List ℕ) (f : Found) → program_line general word text ≡ Some f → line_at text f.number ≡ Some f.line
unfolding program_line
at-program general word text f is = at-table (table_of general text) word text f is where
  at-table : (table : Option ℕ) (word text : List ℕ) (f : Found) → option_and_then (λ table. found table word text) table ≡ Some f → line_at text f.number ≡ Some f.line
  at-table None word text f is = absurd cc
  at-table (Some table) word text f is = found-at table word text f is

-- The line of a program is in a line of the text.
abbrev IsSpot : List ℕ → Spot → Type 0
IsSpot text s = line_at text s.number ≡ Some s.shown

if-some : {A : Type 0} (P : A → Type 0) (b : Bool) (o p : Option A) → IfSome o P → IfSome p P → IfSome (cond b o p) P
if-some P true o p h k = h
if-some P false o p h k = k

behind-at : (text quote : List ℕ) (first more : ℕ) → IfSome (option_map (line_spot quote) (line_behind text first more)) (IsSpot text)
unfolding line_behind
behind-at text quote first more = within (nat_lt (first + more) (2 ^ 64)) where
  by-line : (line : Option (List ℕ)) → line_at text (first + more) ≡ line → IfSome (option_map (line_spot quote) (option_map (λ line. (first + more, line)) line)) (IsSpot text)
  by-line None is = tt
  by-line (Some line) is = is

  within : (b : Bool) → IfSome (option_map (line_spot quote) (cond b (option_map (λ line. (first + more, line)) (line_at text (first + more))) None)) (IsSpot text)
  within true = by-line (line_at text (first + more)) refl
  within false = tt

long-at : (text : List ℕ) (number : ℕ) (line : Found) (quote rest : List ℕ) → line_at text line.number ≡ Some line.line
    → IfSome (long_spot text number line quote rest) (IsSpot text)
long-at text number line quote rest at =
    let behind : ℕ → Option Spot = λ more. option_map (line_spot quote) (line_behind text line.number more) in
    let here : Option Spot = Some (end_spot line rest (before_quote quote rest)) in
    if-some (IsSpot text) (length (trimmed rest) == 0) (behind number) (cond (nat_le number 1) here (behind (number - 1)))
    (behind-at text quote line.number number)
    (if-some (IsSpot text) (nat_le number 1) here (behind (number - 1)) at (behind-at text quote line.number (number - 1)))

spot-at : (text : List ℕ) (number : ℕ) (line : Found) → line_at text line.number ≡ Some line.line → IfSome (spot_in text number line) (IsSpot text)
spot-at text number line at =
    let value : List ℕ = value_end line.line in
    if-some (IsSpot text) (is_long value) (long_spot text number line (take 3 value) (drop 3 value)) (Some (short_spot line (take 1 value) (behind_feeds (number - 1) (drop 1 value))))
    (long-at text number line (take 3 value) (drop 3 value) at) at

spots-at : (text : List ℕ) (number : ℕ) (line : Option Found) → ((g : Found) → line ≡ Some g → line_at text g.number ≡ Some g.line)
    → IfSome (option_and_then (spot_in text number) line) (IsSpot text)
spots-at text number None at = tt
spots-at text number (Some line) at = spot-at text number line (at line refl)

spot_report : (name text : List ℕ) (f : AsmFault) (spot : Option Spot) → IfSome spot (IsSpot text) → IsReport (IsInText text) name (spot_told name f spot)
spot_report name text f None at = report (IsInText text) name _ _ _ (assembly-says f _) tt
spot_report name text f (Some s) at = report (IsInText text) name _ _ _ (assembly-says f _) (marked-in text s.shown s.number _ _ at)

text_report : (name text : List ℕ) (f : AsmFault) (number : ℕ) (line : Option Found) → ((g : Found) → line ≡ Some g → line_at text g.number ≡ Some g.line)
    → IsReport (IsInText text) name (text_told name text f number line)
text_report name text f number line at = spot_report name text f _ (spots-at text number line at)

code_report : (name text : List ℕ) (f : CodecFault) (unit : ℕ) (line : Option Found) → ((g : Found) → line ≡ Some g → line_at text g.number ≡ Some g.line)
    → IsReport (IsInText text) name (code_line_told name f unit line)
code_report name text f unit None at = report (IsInText text) name _ _ _ (unit-says f _) tt
code_report name text f unit (Some line) at = report (IsInText text) name _ _ _ (unit-says f _) (marked-in text line.line line.number _ _ (at line refl))

-- The statement of a program's line is in the text.
unit-in : (text : List ℕ) (spot : Option Spot) → IfSome spot (IsSpot text) → IfSome (option_map unit_mark spot) (IsInText text)
unit-in text None at = tt
unit-in text (Some s) at = marked-in text s.shown s.number _ _ at

source-in : (text : List ℕ) (general : ℕ) → IfSome (source_shown general text) (IsInText text)
source-in text general =
    found-in text false (codes "asm") (source_line general text) (or-at text _ _ (at-program general (codes "asm") text) (at-program general (codes "code") text))

bytecode-in : (text : List ℕ) (general : ℕ) → IfSome (bytecode_shown general text) (IsInText text)
bytecode-in text general = found-in text false (codes "code") (program_line general (codes "code") text) (at-program general (codes "code") text)

refused-in : (text : List ℕ) (general unit : ℕ) (source : Option Source) (mark : Option Mark) → IsRefusedAt text general unit source mark → IfSome mark (IsInText text)
refused-in text general unit None mark is = subst (λ m. IfSome m (IsInText text)) (sym is) (source-in text general)
refused-in text general unit (Some (Hex digits)) mark is = subst (λ m. IfSome m (IsInText text)) (sym is) (bytecode-in text general)
refused-in text general unit (Some (Assembly asm)) mark (number, line, is) =
    subst (λ m. IfSome m (IsInText text)) (sym is) (unit-in text _ (spots-at text number _ (at-program general (codes "asm") text)))

program_report : (name text told : List ℕ) (general : ℕ) (f : ProgramFault) → IsProgramTold name text general f told → IsReport (IsInText text) name told
program_report name text told general (programs.Asm f number) tells =
    subst (IsReport (IsInText text) name) (sym tells) (text_report name text f number _ (at-program general (codes "asm") text))
program_report name text told general programs.Hex tells =
    subst (IsReport (IsInText text) name) (sym tells) (report (IsInText text) name _ _ _ (λ e. cc) (found-in text true (codes "code") _ (at-program general (codes "code") text)))
program_report name text told general (programs.Code f unit) tells =
    subst (IsReport (IsInText text) name) (sym tells) (code_report name text f unit _ (at-program general (codes "code") text))
program_report name text told general (programs.Verifier reason unit) (members, document, (mark, at, is)) =
    subst (IsReport (IsInText text) name) (sym is) (report (IsInText text) name _ _ _ (λ e. cc) (refused-in text general unit _ mark at))

-- ---- scenarios

place-in : (text : List ℕ) (f : ScenarioFault) (place : ScenarioPlace) → IfSome (place_mark f place text) (IsInText text)
place-in text f (places.Key name) = found-in text _ (text_of name) (found 0 (text_of name) text) (found-at 0 (text_of name) text)
place-in text f (places.Word index) = found-in text true (codes "board") (found 0 (codes "board") text) (found-at 0 (codes "board") text)
place-in text f (places.Table index) = found-in text false header (entry_line index header text) (entry-at index header text)
place-in text f (places.Entry index name) = found-in text _ (text_of name) (entry_line index (text_of name) text) (entry-at index (text_of name) text)

place_report : (name text : List ℕ) (f : ScenarioFault) (place : ScenarioPlace) → IsReport (IsInText text) name (place_told name text f place)
unfolding place_told
place_report name text f place = report (IsInText text) name _ _ _ (place-says f place) (place-in text f place)

entry-says : (b : Bool)
    → (if b then codes "this key does not fit the table's other keys: a table has one program, and `general` or `generals`; `generals` is a list, a file's name is a text, `entry` needs `elf`, and --no-files permits no file"
    else codes "a traitor's table has no such key") ≢ []
entry-says true e = cc
entry-says false e = cc

unknown_report : (name text : List ℕ) (at : Option ℕ) (key : List ℕ) → IsReport (IsInText text) name (unknown_told name text at key)
unfolding top_key_told entry_key_told
unknown_report name text None key = report (IsInText text) name _ _ _ (λ e. cc) (found-in text false key _ (found-at 0 key text))
unknown_report name text (Some index) key = report (IsInText text) name _ _ _ (entry-says (is_itself (near key entry_keys) key)) (found-in text false key _ (entry-at index key text))

scenario_report : (name text told : List ℕ) (error : ScenarioError) → (error ≡ scenario.Toml → IsUtf8 text × (parse_document text ≡ None))
    → ReportsScenario name text error told → IsReport (IsInText text) name told
scenario_report name text told scenario.Toml none tells = toml_report name text told (none refl) tells
scenario_report name text told (scenario.Unknown at key) none tells = subst (IsReport (IsInText text) name) (sym tells) (unknown_report name text at _)
scenario_report name text told (scenario.At f place) none tells = subst (IsReport (IsInText text) name) (sym tells) (place_report name text f place)
scenario_report name text told (scenario.Program general f) none tells = program_report name text told general f tells
scenario_report name text told scenario.Memory none tells = subst (IsReport (IsInText text) name) (sym tells) (report (IsInText text) name _ _ _ (λ e. cc) tt)

-- ---- scenarios that name files

own-at : (table : Option ℕ) (word own : List ℕ) (f : Found) → own_line table word own ≡ Some f → line_at own f.number ≡ Some f.line
own-at None word own f is = absurd cc
own-at (Some index) word own f is = found-at (index + 1) word own f is

own-in : (own : List ℕ) (f : ScenarioFault) (place : ScenarioPlace) → IfSome (own_mark f place own) (IsInText own)
unfolding own_mark
own-in own f (places.Key name) = place-in own f (places.Key name)
own-in own f (places.Word index) = place-in own f (places.Word index)
own-in own f (places.Table index) = place-in own f (places.Table index)
own-in own f (places.Entry index name) =
    let word : List ℕ = own_word index name own in
    found-in own _ word (entry_line index word own) (entry-at index word own)

own_place_report : (name own : List ℕ) (f : ScenarioFault) (place : ScenarioPlace) → IsReport (IsInText own) name (own_place_told name own f place)
unfolding own_place_told
own_place_report name own f place = report (IsInText own) name _ _ _ (place-says f place) (own-in own f place)

-- The key by which a table names a bytecode file or an object file.
key-in : (own : List ℕ) (file object : Option Found) → ((g : Found) → file ≡ Some g → line_at own g.number ≡ Some g.line)
    → ((g : Found) → object ≡ Some g → line_at own g.number ≡ Some g.line) → IfSome (file_key_shown file object) (IsInText own)
key-in own None object h k = found-in own true (codes "elf") object k
key-in own (Some f) object h k = shown-in own true (codes "code_file") f (h f refl)

bytes-in : (table : Option ℕ) (own : List ℕ) → IfSome (bytes_shown table own) (IsInText own)
bytes-in table own = key-in own _ _ (own-at table (codes "code_file") own) (own-at table (codes "elf") own)

code-in : (table : Option ℕ) (own : List ℕ) (line : Option Found) → ((g : Found) → line ≡ Some g → line_at own g.number ≡ Some g.line)
    → IfSome (code_shown table own line) (IsInText own)
code-in table own None at = bytes-in table own
code-in table own (Some line) at = shown-in own false (codes "code") line (at line refl)

-- A report at a place in the scenario's own text, or in the file that this key names, which has this assembly.
abbrev IsOfEither : List ℕ → List ℕ → Option Source → Option Found → List ℕ → Type 0
IsOfEither name own source file told = IsReport (IsInText own) name told ⊎ ((key : Found) × (file ≡ Some key) × IsReport (IsInText (assembly_of source)) (file_shown key) told)

file_report : (name own : List ℕ) (f : AsmFault) (number : ℕ) (source : Option Source) (file : Option Found) → IsOfEither name own source file (file_told name f number source file)
file_report name own f number source None = inl (report (IsInText own) name _ _ _ (assembly-says f []) tt)
file_report name own f number source (Some key) = inr (key, refl, assembly_report (file_shown key) (assembly_of source) f number)

asm_report : (name own : List ℕ) (f : AsmFault) (number : ℕ) (source : Option Source) (table : Option ℕ) (line : Option Found)
    → ((g : Found) → line ≡ Some g → line_at own g.number ≡ Some g.line)
    → IsOfEither name own source (own_line table (codes "asm_file") own) (asm_told name own f number source table line)
asm_report name own f number source table None at = file_report name own f number source (own_line table (codes "asm_file") own)
asm_report name own f number source table (Some line) at = inl (text_report name own f number (Some line) at)

unit_report : (name own : List ℕ) (f : CodecFault) (unit : ℕ) (source : Option Source) (table : Option ℕ) (line : Option Found)
    → ((g : Found) → line ≡ Some g → line_at own g.number ≡ Some g.line) → IsReport (IsInText own) name (unit_told name own f unit source table line)
unit_report name own f unit source table None at = report (IsInText own) name _ _ _ (unit-says f _) (bytes-in table own)
unit_report name own f unit source table (Some line) at = code_report name own f unit (Some line) at

line-in : (text : List ℕ) (number : ℕ) → IfSome (line_shown text number) (IsInText text)
line-in text number = by-line (line_at text number) refl where
  by-line : (line : Option (List ℕ)) → line_at text number ≡ line → IfSome (option_map (λ line. unit_mark (whole number line)) line) (IsInText text)
  by-line None is = tt
  by-line (Some line) is = marked-in text line number _ _ is

refused_file_report : (name own told : List ℕ) (reason : Reason) (unit : ℕ) (source : Option Source) (table : Option ℕ) (file : Option Found)
    → IsRefusedFile name own reason unit source table file told → IsOfEither name own source file told
refused_file_report name own told reason unit source table None is =
    inl
    (subst (IsReport (IsInText own) name) (sym is)
    (report (IsInText own) name _ _ _ (λ e. cc) (code-in table own (own_line table (codes "code") own) (own-at table (codes "code") own))))
refused_file_report name own told reason unit source table (Some key) (number, line, is) =
    let asm : List ℕ = assembly_of source in
    inr (key, refl, subst (IsReport (IsInText asm) (file_shown key)) (sym is) (report (IsInText asm) (file_shown key) _ _ _ (λ e. cc) (line-in asm number)))

refused_report : (name own told : List ℕ) (reason : Reason) (unit : ℕ) (source : Option Source) (table : Option ℕ) (line : Option Found)
    → ((g : Found) → line ≡ Some g → line_at own g.number ≡ Some g.line) → IsRefusedTold name own reason unit source table line told
    → IsOfEither name own source (own_line table (codes "asm_file") own) told
refused_report name own told reason unit source table None at is = refused_file_report name own told reason unit source table (own_line table (codes "asm_file") own) is
refused_report name own told reason unit source table (Some line) at (mark, (number, of_unit, shown), is) =
    let within : IfSome mark (IsInText own) = subst (λ m. IfSome m (IsInText own)) (sym shown) (unit-in own _ (spots-at own number (Some line) at)) in
    inl (subst (IsReport (IsInText own) name) (sym is) (report (IsInText own) name _ _ _ (λ e. cc) within))

made_program_report : (name own told : List ℕ) (source : Option Source) (table : Option ℕ) (f : ProgramFault) → ReportsProgram name own source table f told
    → IsOfEither name own source (own_line table (codes "asm_file") own) told
made_program_report name own told source table (programs.Asm f number) is =
    subst (IsOfEither name own source (own_line table (codes "asm_file") own)) (sym is)
    (asm_report name own f number source table (own_line table (codes "asm") own) (own-at table (codes "asm") own))
made_program_report name own told source table programs.Hex is =
    inl
    (subst (IsReport (IsInText own) name) (sym is)
    (report (IsInText own) name _ _ _ (λ e. cc) (found-in own true (codes "code") _ (own-at table (codes "code") own))))
made_program_report name own told source table (programs.Code f unit) is =
    inl
    (subst (IsReport (IsInText own) name) (sym is)
    (unit_report name own f unit source table (own_line table (codes "code") own) (own-at table (codes "code") own)))
made_program_report name own told source table (programs.Verifier reason unit) is =
    refused_report name own told reason unit source table (own_line table (codes "asm") own) (own-at table (codes "asm") own) is

of-either : (name own told : List ℕ) (made : Option Members) (general : ℕ) (f : ProgramFault)
    → IsOfEither name own (option_and_then (source_by general) made) (own_line (seat general (parse_document own)) (codes "asm_file") own) told
    → IsReport (IsInText own) name told ⊎ IsReportOfFile own made (scenario.Program general f) told
of-either name own told made general f (inl h) = inl h
of-either name own told made general f (inr (key, named, h)) = inr (record { general = general; fault = f; key = key; program = refl; named = named; report = h })

made_report : (name own told : List ℕ) (made : Option Members) (error : ScenarioError) → (error ≡ scenario.Toml → IsUtf8 own × (parse_document own ≡ None))
    → ReportsMade name own made error told → IsReport (IsInText own) name told ⊎ IsReportOfFile own made error told
made_report name own told made scenario.Toml none tells = inl (toml_report name own told (none refl) tells)
made_report name own told made (scenario.Unknown at key) none tells = inl (subst (IsReport (IsInText own) name) (sym tells) (unknown_report name own _ _))
made_report name own told made (scenario.At f place) none tells = inl (subst (IsReport (IsInText own) name) (sym tells) (own_place_report name own f _))
made_report name own told made (scenario.Program general f) none tells =
    of-either name own told made general f (made_program_report name own told (option_and_then (source_by general) made) (seat general (parse_document own)) f tells)
made_report name own told made scenario.Memory none tells = inl (subst (IsReport (IsInText own) name) (sym tells) (report (IsInText own) name _ _ _ (λ e. cc) tt))

-- ---- settings

setting_place_report : (name text : List ℕ) (f : SettingFault) (place : SettingPlace) → IsReport (IsInText text) name (setting_place_told name text f place)
unfolding setting_place_told
setting_place_report name text f place =
    report (IsInText text) name _ _ _ (setting-says f place)
    (found-in text true (setting_word place) (found 0 (setting_word place) text) (found-at 0 (setting_word place) text))

setting_unknown_report : (name text key : List ℕ) → IsReport (IsInText text) name (setting_unknown_told name text key)
unfolding setting_unknown_told
setting_unknown_report name text key = report (IsInText text) name _ _ _ (λ e. cc) (found-in text false key _ (found-at 0 key text))

setting_report : (name text told : List ℕ) (error : SettingError) → (error ≡ setting.Toml → IsUtf8 text × (parse_document text ≡ None))
    → TellsSetting name text error told → IsReport (IsInText text) name told
setting_report name text told setting.Toml none tells = toml_report name text told (none refl) tells
setting_report name text told (setting.Unknown key) none tells = subst (IsReport (IsInText text) name) (sym tells) (setting_unknown_report name text _)
setting_report name text told (setting.At f place) none tells = subst (IsReport (IsInText text) name) (sym tells) (setting_place_report name text f place)
setting_report name text told setting.Memory none tells = subst (IsReport (IsInText text) name) (sym tells) (report (IsInText text) name _ _ _ (λ e. cc) tt)

-- ---- all refusals

pub told : RefusalsAreTold
told = record {
  assembly = assembly_report;
  bytecode = bytecode_report;
  table = table_report;
  stranger = stranger_report;
  schedule = schedule_report;
  chronicle = chronicle_report;
  object = object-says;
  muster = muster-says;
  scenario = scenario_report;
  files = made_report;
  setting = setting_report;
}
