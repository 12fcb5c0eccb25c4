-- The addresses that the operands of a line number program mean. A relocation of an operand names a symbol, and the
-- address is the symbol's value plus a number (System V ABI, "Relocation"; R_BPF_64_ABS64 of LLVM's relocations).
use Rattle.std.specs.Prelude.{ℕ, ◌+◌, ◌*◌, ◌/◌, ◌%◌, ◌^◌, List, length, ◌==◌, if◌then◌else◌}
use Rattle.std.specs.Prelude.{Option, Some, None}
use Rattle.object.specs.declared.symbol.Symbol.{Symbol}
use Rattle.object.specs.Number.{number_at}
use Rattle.object.specs.First.{first_some}
use Rattle.object.specs.Relocation.{relocation_at}
use Rattle.object.specs.Symbol.{symbol_at}

-- Returns the number that is added to the symbol's value: the operand itself for a relocation of 16 bytes (Elf64_Rel),
-- and r_addend for one of 24 (Elf64_Rela).
abbrev pub addend_of : ℕ → ℕ → List ℕ → ℕ → List ℕ → ℕ
addend_of size index relocations place bytes =
    if size == 16 then number_at 8 place bytes else number_at 8 (size * index + 16) relocations

-- Returns the symbol's value plus `addend`, modulo 2^64, if the symbol is in the section with this number.
abbrev pub address_in : ℕ → Symbol → ℕ → Option ℕ
address_in section symbol addend = if symbol.section == section then Some ((symbol.value + addend) % 2 ^ 64) else None

-- Returns the address that the relocation with this index gives to the operand at index `place`, if it is a relocation
-- of this operand and its symbol is in the section with this number.
abbrev pub origin_here : List ℕ → List ℕ → ℕ → ℕ → List ℕ → ℕ → ℕ → Option ℕ
origin_here bytes symbols section size relocations place index =
    if (relocation_at size index relocations).place == place
    then address_in section (symbol_at (relocation_at size index relocations).symbol symbols)
    (addend_of size index relocations place bytes)
    else None

-- Returns the address of the operand at index `place`, by its first relocation whose symbol is in the section with this
-- number.
abbrev pub origin_of : List ℕ → List ℕ → ℕ → ℕ → List ℕ → ℕ → Option ℕ
origin_of bytes symbols section size relocations place =
    first_some (origin_here bytes symbols section size relocations place) (length relocations / size)
