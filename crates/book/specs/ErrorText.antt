-- The texts of the faults of a message table.
use Rattle.std.specs.Prelude.{ℕ, List, ◌++◌, codes}
use Rattle.std.specs.Fmt.{decimal}
use Rattle.book.specs.declared.fault.TableFault.{TableFault}
use Rattle.book.specs.declared.fault.TableFault.TheVariants.{Line, Range, Place, Twice}
use Rattle.book.specs.declared.fault.TableError.{TableError}
use Rattle.book.specs.declared.fault.TableError.TheVariants.{At, Memory}

-- Returns the code of a fault, B1 to B4.
abbrev pub code_of : TableFault → List ℕ
code_of Line = codes "B1"
code_of Range = codes "B2"
code_of Place = codes "B3"
code_of Twice = codes "B4"

-- Returns the text of an error: the fault's code and the line's number, or `out of memory`.
abbrev pub told : TableError → List ℕ
told (At fault line) = code_of fault ++ codes " line " ++ decimal line
told Memory = codes "out of memory"
