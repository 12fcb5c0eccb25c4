-- The text of an assembler error.
use Rattle.std.specs.Prelude.{ℕ, List, ◌++◌, codes}
use Rattle.std.specs.Fmt.{decimal}
use Rattle.asm.specs.declared.fault.AsmFault.{AsmFault}
use Rattle.asm.specs.declared.fault.AsmFault.TheVariants.{Line, Mnemonic, Operand, Label, Twice, Range, Count}
use Rattle.asm.specs.declared.fault.AsmError.{AsmError}
use Rattle.asm.specs.declared.fault.AsmError.TheVariants.{At, Memory}

-- Returns the code of a fault.
abbrev pub code_of : AsmFault → List ℕ
code_of Line = codes "A1"
code_of Mnemonic = codes "A2"
code_of Operand = codes "A3"
code_of Label = codes "A4"
code_of Twice = codes "A5"
code_of Range = codes "A6"
code_of Count = codes "A7"

-- Returns the text of an error: the code of its fault and the line, or `out of memory`.
abbrev pub told : AsmError → List ℕ
told (At fault line) = code_of fault ++ codes " line " ++ decimal line
told Memory = codes "out of memory"
