-- The texts of the errors of schedules and chronicles (own).
use Rattle.std.specs.Prelude.{ℕ, List, ◌++◌, codes}
use Rattle.std.specs.Fmt.{decimal}
use Rattle.trace.specs.declared.fault.TraceFault.{TraceFault}
use Rattle.trace.specs.declared.fault.TraceFault.TheVariants.{Line, Scenario, Differs}
use Rattle.trace.specs.declared.fault.TraceError.{TraceError}
use Rattle.trace.specs.declared.fault.TraceError.TheVariants.{At, Write, Memory}

abbrev pub code_of : TraceFault → List ℕ
code_of Line = codes "X1"
code_of Scenario = codes "X2"
code_of Differs = codes "X3"

-- Returns the text of an error: its code, with the number of the line if it is in a line.
abbrev pub told : TraceError → List ℕ
told (At fault line) = code_of fault ++ codes " line " ++ decimal line
told Write = codes "X4"
told Memory = codes "out of memory"
