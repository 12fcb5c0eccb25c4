-- The texts of a scenario's errors (own).
use Rattle.std.specs.Prelude.{ℕ, List, ◌++◌, Some, None, codes, string_bytes}
use Rattle.std.specs.Fmt.{decimal}
use Rattle.asm.specs.ErrorText as asm
use Rattle.codec.specs.ErrorText as codec
use Rattle.verify.specs.ErrorText as verify
use Rattle.scenario.specs.Names.{text_of}
use Rattle.scenario.specs.declared.place.ScenarioPlace.{ScenarioPlace}
use Rattle.scenario.specs.declared.place.ScenarioPlace.TheVariants as place
use Rattle.scenario.specs.declared.fault.ScenarioFault.{ScenarioFault}
use Rattle.scenario.specs.declared.fault.ScenarioFault.TheVariants.{Key, Kind, Range, General, Twice}
use Rattle.scenario.specs.declared.fault.ProgramFault.{ProgramFault}
use Rattle.scenario.specs.declared.fault.ProgramFault.TheVariants.{Asm, Hex, Code, Verifier}
use Rattle.scenario.specs.declared.fault.ScenarioError.{ScenarioError}
use Rattle.scenario.specs.declared.fault.ScenarioError.TheVariants.{Toml, Unknown, At, Program, Memory}

-- Returns the text of a place in a scenario, such as `board[3]` or `traitor[0].asm`.
abbrev pub place_text : ScenarioPlace → List ℕ
place_text (place.Key name) = text_of name
place_text (place.Word index) = codes "board[" ++ decimal index ++ codes "]"
place_text (place.Table index) = codes "traitor[" ++ decimal index ++ codes "]"
place_text (place.Entry index name) = codes "traitor[" ++ decimal index ++ codes "]." ++ text_of name

abbrev pub code_of : ScenarioFault → List ℕ
code_of Key = codes "S2"
code_of Kind = codes "S3"
code_of Range = codes "S4"
code_of General = codes "S5"
code_of Twice = codes "S6"

-- S8 if the verifier rejects the program, and S7 if the text gives no program
abbrev pub scenario_code : ProgramFault → List ℕ
scenario_code (Verifier reason unit) = codes "S8"
scenario_code _ = codes "S7"

-- Returns the text of a program's fault: its code, and its line or its unit.
abbrev pub program_text : ProgramFault → List ℕ
program_text (Asm fault line) = asm.code_of fault ++ codes " line " ++ decimal line
program_text Hex = codes "hex"
program_text (Code fault unit) = codec.code_of fault ++ codes " unit " ++ decimal unit
program_text (Verifier reason unit) = verify.code_of reason ++ codes " unit " ++ decimal unit

-- Returns the text of a scenario's error, such as `S4 bound`: its code and its place.
abbrev pub told : ScenarioError → List ℕ
told Toml = codes "S1"
told (Unknown None key) = codes "S2 " ++ string_bytes key
told (Unknown (Some index) key) = codes "S2 traitor[" ++ decimal index ++ codes "]." ++ string_bytes key
told (At fault place) = code_of fault ++ codes " " ++ place_text place
told (Program general fault) =
    scenario_code fault ++ codes " traitor " ++ decimal general ++ codes " " ++ program_text fault
told Memory = codes "out of memory"
