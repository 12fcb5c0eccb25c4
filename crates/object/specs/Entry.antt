-- The bytecode that an object has for an entry function, or the object's first fault.
use Rattle.std.specs.Prelude.{ℕ, ◌+◌, ◌/◌, List, length, not, if◌then◌else◌, Option, Some, None, Result, Ok, Err}
use Rattle.object.specs.declared.symbol.Symbol.{Symbol}
use Rattle.object.specs.declared.fault.Damage.{Damage}
use Rattle.object.specs.declared.fault.ObjectFault.{ObjectFault}
use Rattle.object.specs.declared.fault.ObjectFault.TheVariants.{NoObject, Damaged, NoFunction, Several}
use Rattle.object.specs.declared.fault.Damage.TheVariants.{Sections}
use Rattle.object.specs.Number.{window}
use Rattle.object.specs.First.{first_some, or_else}
use Rattle.object.specs.Section.{is_bpf_object, section_count, section_table, is_table_whole, section_at, section_bytes}
use Rattle.object.specs.Symbol.{symbols_section, symbol_at, entry_here}
use Rattle.object.specs.Relocation.{relocations_fault, call_fault}
use Rattle.object.specs.Damage.{tables_damage}

-- The tables of an object: the section header table and its number of headers, the section of the symbol table, the
-- symbol table, and the string table with the symbols' names.
pub record Parts : Type 0 where
  pub table : List ℕ
  pub count : ℕ
  pub home : ℕ
  pub symbols : List ℕ
  pub strings : List ℕ

-- Returns the symbol table, which is section `home`.
abbrev pub symbols_in : List ℕ → List ℕ → ℕ → List ℕ
symbols_in object table home = section_bytes object (section_at home table)

-- Returns the string table with the symbols' names, to which the symbol table links.
abbrev pub strings_in : List ℕ → List ℕ → ℕ → List ℕ
strings_in object table home = section_bytes object (section_at (section_at home table).link table)

-- Returns the tables of an object with this section header table and this section of the symbol table.
abbrev pub parts_at : List ℕ → List ℕ → ℕ → ℕ → Parts
parts_at object table count home = record {
  table = table;
  count = count;
  home = home;
  symbols = symbols_in object table home;
  strings = strings_in object table home;
}

-- Returns the tables of an object.
abbrev pub parts_of : List ℕ → Parts
parts_of object =
    parts_at object (section_table object) (section_count object)
    (symbols_section (section_table object) (section_count object))

-- Returns the fault that means this damage, if there is damage.
abbrev pub as_fault : Option Damage → Option ObjectFault
as_fault None = None
as_fault (Some damage) = Some (Damaged damage)

-- Returns the first damage of an object with these tables.
abbrev pub parts_damage : List ℕ → Parts → Option Damage
parts_damage object parts = tables_damage object parts.table parts.count parts.home parts.symbols parts.strings

-- Returns the first fault of an object that does not depend on the entry function: it is not an object for BPF, or it
-- is damaged.
abbrev pub object_fault : List ℕ → Option ObjectFault
object_fault object =
    if not (is_bpf_object object) then Some NoObject
    else (if is_table_whole object then as_fault (parts_damage object (parts_of object)) else Some (Damaged Sections))

-- Returns `index`, or the error `Several` if there is another function too.
abbrev pub only : ℕ → Option ℕ → Result ℕ ObjectFault
only index None = Ok index
only index (Some other) = Err Several

-- Returns the first index, or an error if there is none or a second one. `beside` finds the next index from a number
-- on.
abbrev pub first_only : Option ℕ → (ℕ → Option ℕ) → Result ℕ ObjectFault
first_only None beside = Err NoFunction
first_only (Some index) beside = only index (beside (index + 1))

-- Returns the index, at least `least`, of the first function with this name or, if no name is given, of the first
-- global function.
abbrev pub entry_from : List ℕ → List ℕ → List ℕ → Option (List ℕ) → ℕ → Option ℕ
entry_from table symbols strings name least =
    first_some (entry_here table symbols strings name least) (length symbols / 24)

-- Returns the index of the only function with this name or, if no name is given, of the only global function.
abbrev pub chosen : List ℕ → List ℕ → List ℕ → Option (List ℕ) → Result ℕ ObjectFault
chosen table symbols strings name =
    first_only (entry_from table symbols strings name 0) (entry_from table symbols strings name)

-- Returns the bytecode of a function.
abbrev pub code_in : List ℕ → List ℕ → Symbol → List ℕ
code_in object table function =
    window function.value function.size (section_bytes object (section_at function.section table))

-- Returns the first fault of a function's code: the first relocation that changes it, or else the first unit that calls
-- another function.
abbrev pub function_fault : List ℕ → List ℕ → ℕ → List ℕ → Symbol → Option ObjectFault
function_fault object table count symbols function =
    or_else (first_some (relocations_fault object table symbols function) count)
    (first_some (call_fault (code_in object table function)) (length (code_in object table function) / 8))

-- Returns the error `fault` if there is one, and otherwise the value.
abbrev pub unless : {A : Type 0} → Option ObjectFault → A → Result A ObjectFault
unless None a = Ok a
unless (Some fault) a = Err fault

-- Applies the next step to the value of a result. If the result is a fault, returns that fault.
abbrev pub then_by : {A B : Type 0} → Result A ObjectFault → (A → Result B ObjectFault) → Result B ObjectFault
then_by (Ok a) next = next a
then_by (Err fault) next = Err fault

-- Returns the entry function of an object with these tables, or the first fault.
abbrev pub found_in : List ℕ → Parts → Option (List ℕ) → Result Symbol ObjectFault
found_in object parts name =
    then_by (chosen parts.table parts.symbols parts.strings name) (λ index.
    unless (function_fault object parts.table parts.count parts.symbols (symbol_at index parts.symbols))
    (symbol_at index parts.symbols))

-- Returns the entry function of an object, or the first fault. Faults of the object come before those of the function.
abbrev pub function_of : List ℕ → Option (List ℕ) → Result Symbol ObjectFault
function_of object name = then_by (unless (object_fault object) (parts_of object)) (λ parts. found_in object parts name)

-- Returns the bytecode of an object's entry function, or the first fault.
abbrev pub entry_of : List ℕ → Option (List ℕ) → Result (List ℕ) ObjectFault
entry_of object name =
    then_by (function_of object name) (λ function. Ok (code_in object (section_table object) function))
