-- Damage of an object: a section that is not within the file, a function that is not within its section, or a
-- relocation of a symbol that does not exist.
use Rattle.std.specs.Prelude.{ℕ, ◌+◌, ◌/◌, List, length, Bool, not, ◌==◌, ◌&&◌, ◌||◌, nat_lt, nat_le, if◌then◌else◌}
use Rattle.std.specs.Prelude.{Option, Some, None}
use Rattle.object.specs.declared.section.SectionHeader.{SectionHeader}
use Rattle.object.specs.declared.symbol.Symbol.{Symbol}
use Rattle.object.specs.declared.fault.Damage.{Damage}
use Rattle.object.specs.declared.fault.Damage.TheVariants as damages
use Rattle.object.specs.First.{first_some, or_else}
use Rattle.object.specs.Section.{section_at, section_bytes, has_no_bytes, is_relocations}
use Rattle.object.specs.Symbol.{symbol_at, is_function}
use Rattle.object.specs.Relocation.{relocation_size, relocation_at}

-- Returns whether the section has no bytes in the file, or its bytes are within the file.
abbrev pub is_section_whole : List ℕ → SectionHeader → Bool
is_section_whole object section = has_no_bytes section || nat_le (section.start + section.size) (length object)

-- Returns the damage of the section with this index, if its bytes are not within the file.
abbrev pub section_damage : List ℕ → List ℕ → ℕ → Option Damage
section_damage object table index =
    if is_section_whole object (section_at index table) then None else Some (damages.Section index)

-- Returns whether the symbol's name begins within the string table, and its code is within its section.
abbrev pub is_symbol_whole : List ℕ → List ℕ → Symbol → Bool
is_symbol_whole table strings symbol =
    nat_lt symbol.name (length strings) && nat_le (symbol.value + symbol.size) (section_at symbol.section table).size

-- Returns the damage of the symbol with this index, if it is a function whose name is not within the string table, or
-- whose code is not within its section.
abbrev pub symbol_damage : List ℕ → List ℕ → List ℕ → ℕ → Option Damage
symbol_damage table symbols strings index =
    if is_function table (symbol_at index symbols) && not (is_symbol_whole table strings (symbol_at index symbols))
    then Some (damages.Symbol index) else None

-- Returns the damage of the relocation with this index, if its symbol is not one of the `symbols` symbols.
abbrev pub relocation_damage : ℕ → ℕ → ℕ → List ℕ → ℕ → Option Damage
relocation_damage section symbols size relocations index =
    if nat_lt (relocation_at size index relocations).symbol symbols then None else Some (damages.Relocations section)

-- Returns the damage of a section with relocations: they do not use the symbol table, which is section `home`, or the
-- symbol of one is not one of the `symbols` symbols.
abbrev pub relocations_damage : List ℕ → List ℕ → ℕ → ℕ → ℕ → Option Damage
relocations_damage object table home symbols index =
    if is_relocations (section_at index table) then
    (if (section_at index table).link == home then
    first_some
    (relocation_damage index symbols (relocation_size (section_at index table))
    (section_bytes object (section_at index table)))
    (length (section_bytes object (section_at index table)) / relocation_size (section_at index table))
    else Some (damages.Relocations index))
    else None

-- Returns the first damage of an object: the sections are checked first, then the functions, then the relocations.
-- `home` is the section of the symbol table.
abbrev pub tables_damage : List ℕ → List ℕ → ℕ → ℕ → List ℕ → List ℕ → Option Damage
tables_damage object table count home symbols strings =
    or_else (first_some (section_damage object table) count)
    (or_else (first_some (symbol_damage table symbols strings) (length symbols / 24))
    (first_some (relocations_damage object table home (length symbols / 24)) count))
