-- Relocations (System V ABI, "Relocation": Elf64_Rel, Elf64_Rela). Each says that a place in a section refers to a
-- symbol. In code for BPF they are R_BPF_64_64, for the 64 bits of an lddw, and R_BPF_64_32, for the number of a call
-- (LLVM, "BPF Relocation Types").
use Rattle.std.specs.Prelude.{ℕ, ◌+◌, ◌*◌, ◌/◌, ◌-◌, List, length, Bool, ◌==◌, ◌&&◌, nat_lt, nat_le, if◌then◌else◌}
use Rattle.std.specs.Prelude.{Option, Some, None}
use Rattle.object.specs.declared.section.SectionHeader.{SectionHeader}
use Rattle.object.specs.declared.symbol.Symbol.{Symbol}
use Rattle.object.specs.declared.relocation.Relocation.{Relocation}
use Rattle.object.specs.declared.fault.ObjectFault.{ObjectFault}
use Rattle.object.specs.declared.fault.ObjectFault.TheVariants.{Names, Leaves}
use Rattle.object.specs.Number.{number_at}
use Rattle.object.specs.First.{first_some}
use Rattle.object.specs.Section.{section_at, section_bytes, is_code, is_relocations}
use Rattle.object.specs.Symbol.{symbol_at}

-- Returns the size of a relocation in bytes: 16 in SHT_REL, and 24 in SHT_RELA.
abbrev pub relocation_size : SectionHeader → ℕ
relocation_size section = if section.kind == 9 then 16 else 24

-- Returns the relocation with this index: r_offset, and the symbol in the upper half of r_info.
abbrev pub relocation_at : ℕ → ℕ → List ℕ → Relocation
relocation_at size index relocations = record {
  place = number_at 8 (size * index) relocations;
  symbol = number_at 4 (size * index + 12) relocations;
}

-- Returns whether the relocation changes the function's code. It must be one of the function's section.
abbrev pub is_within : Relocation → Symbol → Bool
is_within relocation function =
    nat_le function.value relocation.place && nat_lt relocation.place (function.value + function.size)

-- Returns the fault of the unit of the function's code that refers to the symbol: `Leaves` if the symbol is code,
-- because the machine has no calls of functions, and otherwise `Names`, because the machine has no data.
abbrev pub named_at : List ℕ → Symbol → ℕ → ObjectFault
named_at table symbol unit = if is_code (section_at symbol.section table) then Leaves unit else Names unit

-- Returns the fault of the relocation with this index, if it changes the function's code.
abbrev pub relocation_fault : List ℕ → List ℕ → Symbol → ℕ → List ℕ → ℕ → Option ObjectFault
relocation_fault table symbols function size relocations index =
    if is_within (relocation_at size index relocations) function
    then Some (named_at table (symbol_at (relocation_at size index relocations).symbol symbols)
    (((relocation_at size index relocations).place - function.value) / 8))
    else None

-- Returns the first fault of a section's relocations, if they change the section of the function.
abbrev pub relocations_fault : List ℕ → List ℕ → List ℕ → Symbol → ℕ → Option ObjectFault
relocations_fault object table symbols function index =
    if is_relocations (section_at index table) && ((section_at index table).info == function.section)
    then first_some
    (relocation_fault table symbols function (relocation_size (section_at index table))
    (section_bytes object (section_at index table)))
    (length (section_bytes object (section_at index table)) / relocation_size (section_at index table))
    else None

-- Returns whether the unit calls a function of the same object: its opcode is 0x85, and its src is 1 (RFC 9669, section
-- 4.3.2).
abbrev pub is_call : List ℕ → ℕ → Bool
is_call code unit = (number_at 1 (8 * unit) code == 133) && (number_at 1 (8 * unit + 1) code / 16 == 1)

-- Returns the fault of a unit that calls a function of the same object.
abbrev pub call_fault : List ℕ → ℕ → Option ObjectFault
call_fault code unit = if is_call code unit then Some (Leaves unit) else None
