-- The symbols of an object: the fields that are needed (System V ABI, "Symbol Table": Elf64_Sym).
use Rattle.std.specs.Prelude.{ℕ, ◌+◌, ◌*◌, ◌/◌, ◌%◌, List, length, take, drop, slice_index, Bool, ◌==◌, ◌&&◌}
use Rattle.std.specs.Prelude.{◌||◌, nat_lt, nat_le, if◌then◌else◌, Option, Some, None, option_map, unwrap_or}
use Rattle.std.specs.Str.{bytes_eq}
use Rattle.std.specs.Borrow.{Bor}
use Rattle.object.specs.declared.symbol.Symbol.{Symbol}
use Rattle.object.specs.Number.{number_at}
use Rattle.object.specs.First.{first_some}
use Rattle.object.specs.Section.{section_at, is_code}

-- Returns the index of the section if it is a symbol table (SHT_SYMTAB).
abbrev pub symbols_here : List ℕ → ℕ → Option ℕ
symbols_here table index = if (section_at index table).kind == 2 then Some index else None

-- Returns the index of the first section that is a symbol table, or the number of sections if there is none.
abbrev pub symbols_section : List ℕ → ℕ → ℕ
symbols_section table count = unwrap_or (first_some (symbols_here table) count) count

-- Returns the symbol with this index: st_name, st_info, st_shndx, st_value and st_size. Fields past the end of the
-- table are zero.
abbrev pub symbol_at : ℕ → List ℕ → Symbol
symbol_at index symbols = record {
  name = number_at 4 (24 * index) symbols;
  info = number_at 1 (24 * index + 4) symbols;
  section = number_at 2 (24 * index + 6) symbols;
  value = number_at 8 (24 * index + 8) symbols;
  size = number_at 8 (24 * index + 16) symbols;
}

-- Returns whether the symbol is a function (STT_FUNC) in a section of executable code.
abbrev pub is_function : List ℕ → Symbol → Bool
is_function table symbol = (symbol.info % 16 == 2) && is_code (section_at symbol.section table)

-- Returns whether the symbol is global or weak (STB_GLOBAL or STB_WEAK).
abbrev pub is_global : Symbol → Bool
is_global symbol = (symbol.info / 16 == 1) || (symbol.info / 16 == 2)

-- Returns whether the bytes begin with the name and then a zero.
abbrev pub begins_with_name : List ℕ → List ℕ → Bool
begins_with_name bytes name =
    nat_lt (length name) (length bytes) && bytes_eq (take (length name) bytes) name
    && (slice_index bytes (length name) == 0)

-- Returns the bytes of the given name, if one is given.
abbrev pub asked : Option (Bor (List ℕ)) → Option (List ℕ)
asked = option_map (λ name. name.now)

-- Returns whether the symbol has the given name or, if none is given, whether it is global.
abbrev pub fits : List ℕ → Symbol → Option (List ℕ) → Bool
fits strings symbol None = is_global symbol
fits strings symbol (Some name) = begins_with_name (drop symbol.name strings) name

-- Returns `index` if it is at least `least`, and the symbol with this index is a function with the given name or, if
-- none is given, a global function.
abbrev pub entry_here : List ℕ → List ℕ → List ℕ → Option (List ℕ) → ℕ → ℕ → Option ℕ
entry_here table symbols strings name least index =
    if nat_le least index && is_function table (symbol_at index symbols) && fits strings (symbol_at index symbols) name
    then Some index else None
