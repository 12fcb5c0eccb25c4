-- The texts of the errors of a list of accesses: the code of the fault and its place.
use Rattle.std.specs.Prelude.{ℕ, List, ◌++◌, codes, decimal}
use Rattle.campaign_schedules.specs.declared.fault.AccessFault.{AccessFault}
use Rattle.campaign_schedules.specs.declared.fault.AccessFault.TheVariants.{Text, Never}
use Rattle.campaign_schedules.specs.declared.fault.AccessesError.{AccessesError}
use Rattle.campaign_schedules.specs.declared.fault.AccessesError.TheVariants.{At, Memory}

-- Writes the text of a fault in a list of accesses, such as `X5 round 2 access 1`.
abbrev pub fault_told : AccessFault → List ℕ
fault_told (Text round place) = codes "X5 round " ++ decimal round ++ codes " access " ++ decimal place
fault_told (Never round place general) =
    codes "X6 round " ++ decimal round ++ codes " access " ++ decimal place ++ codes " general " ++ decimal general

-- Writes the text of an error: its fault, or that memory ran out.
abbrev pub told : AccessesError → List ℕ
told (At fault) = fault_told fault
told Memory = codes "out of memory"
