-- No error sentence is empty.
use Rattle.std.proofs.Common.{ℕ, ◌≢◌, List, [], ◌∷◌, Bool, true, false, cond}
use Rattle.std.specs.Prelude.{Option, None, Some}
use Rattle.asm.specs.declared.fault.AsmFault.{AsmFault}
use Rattle.asm.specs.declared.fault.AsmFault.TheVariants as asm
use Rattle.codec.specs.declared.fault.CodecFault.{CodecFault}
use Rattle.codec.specs.declared.fault.CodecFault.TheVariants as codec
use Rattle.book.specs.declared.fault.TableFault.{TableFault}
use Rattle.book.specs.declared.fault.TableFault.TheVariants as table
use Rattle.object.specs.Sentences.{sentence_of}
use Rattle.object.specs.declared.fault.Damage.TheVariants as damages
use Rattle.object.specs.declared.fault.ObjectFault.{ObjectFault}
use Rattle.object.specs.declared.fault.ObjectFault.TheVariants as objects
use Rattle.threads.specs.declared.error.MusterError.{MusterError}
use Rattle.threads.specs.declared.error.MusterError.TheVariants as musters
use Rattle.trace.specs.declared.fault.TraceFault.{TraceFault}
use Rattle.trace.specs.declared.fault.TraceFault.TheVariants as trace
use Rattle.scenario.specs.declared.fault.ScenarioFault.{ScenarioFault}
use Rattle.scenario.specs.declared.fault.ScenarioFault.TheVariants as faults
use Rattle.scenario.specs.declared.place.ScenarioKey.{ScenarioKey}
use Rattle.scenario.specs.declared.place.ScenarioKey.TheVariants as names
use Rattle.scenario.specs.declared.place.ScenarioPlace.{ScenarioPlace}
use Rattle.scenario.specs.declared.place.ScenarioPlace.TheVariants as places
use Rattle.trial.specs.declared.fault.SettingFault.{SettingFault}
use Rattle.trial.specs.declared.fault.SettingFault.TheVariants as setting
use Rattle.trial.specs.declared.place.SettingKey.{SettingKey as SettingName}
use Rattle.trial.specs.declared.place.SettingKey.TheVariants as setting_names
use Rattle.trial.specs.declared.place.SettingPlace.{SettingPlace}
use Rattle.trial.specs.declared.place.SettingPlace.TheVariants as setting_places
use Rattle.cli_report.specs.declared.mnemonics.Takes.{Takes}
use Rattle.cli_report.specs.declared.mnemonics.Takes.TheVariants as takes
use Rattle.cli_report.specs.Assembly.{assembly_sentence, call_sentence, mnemonic_in, operand_sentence, operands_in, outline_sentence, past_ascii, range_sentence}
use Rattle.cli_report.specs.Bytecode.{byte_of, choice_sentence, left_out_sentence, unit_sentence}
use Rattle.cli_report.specs.Chronicles.{chronicle_sentence}
use Rattle.cli_report.specs.Messages.{table_sentence}
use Rattle.cli_report.specs.Musters.{muster_sentence}
use Rattle.cli_report.specs.Mnemonics.{taken, takes_text}
use Rattle.cli_report.specs.Scenarios.{kind_sentence, missing_sentence, name_sentence, place_sentence, range_sentence as name_range_sentence, word_sentence}
use Rattle.cli_report.specs.Settings.{order_sentence, setting_kind_sentence, setting_name_sentence, setting_range_sentence, setting_sentence, setting_word_sentence}

-- One sentence or the other.
if-says : (b : Bool) (s t : List ℕ) → s ≢ [] → t ≢ [] → cond b s t ≢ []
if-says true s t says other = says
if-says false s t says other = other

-- A text with a first character is not empty.
some-says : (c : ℕ) (cs : List ℕ) → c ∷ cs ≢ []
some-says c cs = λ e. cc

-- ---- assembly

outline-says : (past : List ℕ) → outline_sentence past ≢ []
outline-says [] = λ e. cc
outline-says (c ∷ cs) = λ e. cc

takes-says : (t : Takes) → takes_text t ≢ []
takes-says takes.Arithmetic = λ e. cc
takes-says takes.Register = λ e. cc
takes-says takes.Registers = λ e. cc
takes-says takes.Target = λ e. cc
takes-says takes.Branch = λ e. cc
takes-says takes.Load = λ e. cc
takes-says takes.StoreRegister = λ e. cc
takes-says takes.StoreNumber = λ e. cc
takes-says takes.Wide = λ e. cc
takes-says takes.Call = λ e. cc
takes-says takes.Nothing = λ e. cc

call-says : (operands : List ℕ) → call_sentence operands ≢ []
call-says [] = λ e. cc
call-says (c ∷ cs) = search (if-says, some-says)

operand-says : (t : Option Takes) (operands : List ℕ) → operand_sentence t operands ≢ []
operand-says None operands = λ e. cc
operand-says (Some takes.Call) operands = call-says operands
operand-says (Some takes.Arithmetic) operands = λ e. cc
operand-says (Some takes.Register) operands = λ e. cc
operand-says (Some takes.Registers) operands = λ e. cc
operand-says (Some takes.Target) operands = λ e. cc
operand-says (Some takes.Branch) operands = λ e. cc
operand-says (Some takes.Load) operands = λ e. cc
operand-says (Some takes.StoreRegister) operands = λ e. cc
operand-says (Some takes.StoreNumber) operands = λ e. cc
operand-says (Some takes.Wide) operands = λ e. cc
operand-says (Some takes.Nothing) operands = λ e. cc

range-says : (t : Option Takes) → range_sentence t ≢ []
range-says None = λ e. cc
range-says (Some takes.Wide) = λ e. cc
range-says (Some takes.Load) = λ e. cc
range-says (Some takes.Target) = λ e. cc
range-says (Some takes.Branch) = λ e. cc
range-says (Some takes.StoreRegister) = λ e. cc
range-says (Some takes.StoreNumber) = λ e. cc
range-says (Some takes.Arithmetic) = λ e. cc
range-says (Some takes.Register) = λ e. cc
range-says (Some takes.Registers) = λ e. cc
range-says (Some takes.Call) = λ e. cc
range-says (Some takes.Nothing) = λ e. cc

pub assembly-says : (f : AsmFault) (code : List ℕ) → assembly_sentence f code ≢ []
assembly-says asm.Line code = outline-says (past_ascii code)
assembly-says asm.Mnemonic code = λ e. cc
assembly-says asm.Operand code = operand-says (taken (mnemonic_in code)) (operands_in code)
assembly-says asm.Label code = λ e. cc
assembly-says asm.Twice code = λ e. cc
assembly-says asm.Range code = range-says (taken (mnemonic_in code))
assembly-says asm.Count code = λ e. cc

-- ---- bytecode

left_out-says : (opcode : ℕ) → left_out_sentence opcode ≢ []
left_out-says opcode = search (if-says, some-says)

choice-says : (opcode : ℕ) → choice_sentence opcode ≢ []
choice-says opcode = search (if-says, some-says)

pub unit-says : (f : CodecFault) (digits : List ℕ) → unit_sentence f digits ≢ []
unit-says codec.Length digits = λ e. cc
unit-says codec.Opcode digits = λ e. cc
unit-says codec.Reserved digits = λ e. cc
unit-says codec.WideCut digits = λ e. cc
unit-says codec.Register digits = λ e. cc
unit-says codec.LeftOut digits = left_out-says (byte_of digits)
unit-says codec.Operand digits = choice-says (byte_of digits)
unit-says codec.Count digits = λ e. cc

-- ---- tables and chronicles

pub table-says : (f : TableFault) (number : ℕ) → table_sentence f number ≢ []
table-says table.Line number = search (if-says, some-says)
table-says table.Range number = λ e. cc
table-says table.Place number = λ e. cc
table-says table.Twice number = λ e. cc

pub chronicle-says : (last : Bool) (f : TraceFault) → chronicle_sentence last f ≢ []
chronicle-says true trace.Line = λ e. cc
chronicle-says true f = λ e. cc
chronicle-says false trace.Line = λ e. cc
chronicle-says false trace.Scenario = λ e. cc
chronicle-says false trace.Differs = λ e. cc

pub muster-says : (e : MusterError) → muster_sentence e ≢ []
muster-says musters.Unaccounted = λ e. cc
muster-says musters.Spawn = λ e. cc
muster-says musters.Post = λ e. cc
muster-says musters.Memory = λ e. cc

pub object-says : (f : ObjectFault) → sentence_of f ≢ []
object-says objects.NoObject = λ e. cc
object-says (objects.Damaged damages.Sections) = λ e. cc
object-says (objects.Damaged (damages.Section place)) = λ e. cc
object-says (objects.Damaged (damages.Symbol place)) = λ e. cc
object-says (objects.Damaged (damages.Relocations place)) = λ e. cc
object-says objects.NoFunction = λ e. cc
object-says objects.Several = λ e. cc
object-says (objects.Names place) = λ e. cc
object-says (objects.Leaves place) = λ e. cc

-- ---- scenarios

missing-says : (name : ScenarioKey) → missing_sentence name ≢ []
missing-says names.Generals = λ e. cc
missing-says names.Bound = λ e. cc
missing-says names.Commander = λ e. cc
missing-says names.Order = λ e. cc
missing-says names.Board = λ e. cc
missing-says names.Patience = λ e. cc
missing-says names.Rule = λ e. cc
missing-says names.Messages = λ e. cc
missing-says names.Traitor = λ e. cc
missing-says names.General = λ e. cc
missing-says names.Asm = λ e. cc
missing-says names.Code = λ e. cc
missing-says names.Strategy = λ e. cc

kind-says : (name : ScenarioKey) → kind_sentence name ≢ []
kind-says names.Generals = λ e. cc
kind-says names.Bound = λ e. cc
kind-says names.Commander = λ e. cc
kind-says names.Order = λ e. cc
kind-says names.Board = λ e. cc
kind-says names.Patience = λ e. cc
kind-says names.Rule = λ e. cc
kind-says names.Messages = λ e. cc
kind-says names.Traitor = λ e. cc
kind-says names.General = λ e. cc
kind-says names.Asm = λ e. cc
kind-says names.Code = λ e. cc
kind-says names.Strategy = λ e. cc

name_range-says : (name : ScenarioKey) → name_range_sentence name ≢ []
name_range-says names.Generals = λ e. cc
name_range-says names.Bound = λ e. cc
name_range-says names.Commander = λ e. cc
name_range-says names.Order = λ e. cc
name_range-says names.Board = λ e. cc
name_range-says names.Patience = λ e. cc
name_range-says names.Rule = λ e. cc
name_range-says names.Messages = λ e. cc
name_range-says names.Traitor = λ e. cc
name_range-says names.General = λ e. cc
name_range-says names.Asm = λ e. cc
name_range-says names.Code = λ e. cc
name_range-says names.Strategy = λ e. cc

name-says : (f : ScenarioFault) (name : ScenarioKey) → name_sentence f name ≢ []
name-says faults.Key name = missing-says name
name-says faults.Kind name = kind-says name
name-says faults.Range name = name_range-says name
name-says faults.General name = λ e. cc
name-says faults.Twice name = λ e. cc

word-says : (f : ScenarioFault) → word_sentence f ≢ []
word-says faults.Key = λ e. cc
word-says faults.Kind = λ e. cc
word-says faults.Range = λ e. cc
word-says faults.General = λ e. cc
word-says faults.Twice = λ e. cc

pub place-says : (f : ScenarioFault) (place : ScenarioPlace) → place_sentence f place ≢ []
place-says f (places.Key name) = name-says f name
place-says f (places.Word index) = word-says f
place-says f (places.Table index) = λ e. cc
place-says f (places.Entry index name) = name-says f name

-- ---- settings

setting_kind-says : (name : SettingName) → setting_kind_sentence name ≢ []
setting_kind-says setting_names.Generals = λ e. cc
setting_kind-says setting_names.Bound = λ e. cc
setting_kind-says setting_names.Commander = λ e. cc
setting_kind-says setting_names.General = λ e. cc
setting_kind-says setting_names.Round = λ e. cc
setting_kind-says setting_names.Taken = λ e. cc
setting_kind-says setting_names.Board = λ e. cc

setting_range-says : (name : SettingName) → setting_range_sentence name ≢ []
setting_range-says setting_names.Generals = λ e. cc
setting_range-says setting_names.Bound = λ e. cc
setting_range-says setting_names.Commander = λ e. cc
setting_range-says setting_names.General = λ e. cc
setting_range-says setting_names.Round = λ e. cc
setting_range-says setting_names.Taken = λ e. cc
setting_range-says setting_names.Board = λ e. cc

setting_name-says : (f : SettingFault) (name : SettingName) → setting_name_sentence f name ≢ []
setting_name-says setting.Key name = λ e. cc
setting_name-says setting.Kind name = setting_kind-says name
setting_name-says setting.Range name = setting_range-says name
setting_name-says setting.General name = λ e. cc

order-says : (f : SettingFault) → order_sentence f ≢ []
order-says setting.Key = λ e. cc
order-says setting.Kind = λ e. cc
order-says setting.Range = λ e. cc
order-says setting.General = λ e. cc

setting_word-says : (f : SettingFault) → setting_word_sentence f ≢ []
setting_word-says setting.Key = λ e. cc
setting_word-says setting.Kind = λ e. cc
setting_word-says setting.Range = λ e. cc
setting_word-says setting.General = λ e. cc

pub setting-says : (f : SettingFault) (place : SettingPlace) → setting_sentence f place ≢ []
setting-says f (setting_places.Key name) = setting_name-says f name
setting-says f (setting_places.Order rank) = order-says f
setting-says f (setting_places.Word slot) = setting_word-says f
