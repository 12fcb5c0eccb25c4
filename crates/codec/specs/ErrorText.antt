-- The text of a decoding error.
use Rattle.std.specs.Prelude.{ℕ, List, ◌++◌, codes}
use Rattle.std.specs.Fmt.{decimal}
use Rattle.codec.specs.declared.fault.CodecFault.{CodecFault}
use Rattle.codec.specs.declared.fault.CodecFault.TheVariants.{Length, Opcode, Reserved, WideCut, Register, LeftOut, Operand, Count}
use Rattle.codec.specs.declared.fault.CodecError.{CodecError}
use Rattle.codec.specs.declared.fault.CodecError.TheVariants.{At, Memory}

-- Returns the code of a fault.
abbrev pub code_of : CodecFault → List ℕ
code_of Length = codes "C1"
code_of Opcode = codes "C2"
code_of Reserved = codes "C3"
code_of WideCut = codes "C4"
code_of Register = codes "C5"
code_of LeftOut = codes "C6"
code_of Operand = codes "C7"
code_of Count = codes "C8"

-- Returns the text of an error: the code of its fault and the unit, or `out of memory`.
abbrev pub told : CodecError → List ℕ
told (At fault unit) = code_of fault ++ codes " unit " ++ decimal unit
told Memory = codes "out of memory"
