-- Defines which memory belongs to the address at which a C program wants faults.
use Rattle.std.specs.Prelude.{Bool, if◌then◌else◌}
use base.Fml.{Fml, fex}
use base.Fraction.{full_share}
use denote.RawPtr.{Ptr, lies_at, Testable}
use Rattle.core.specs.Ptr.{if_non_null}
use Rattle.capi.specs.declared.fault.NumberedFault.{NumberedFault}
use Rattle.capi.specs.contracts.fault.NumberedFault.{the_row}

-- Describes the memory that the address owns: if it is not null, a fault, which may be read and written. The address may
-- be compared with null.
abbrev pub fault_owns : Ptr → NumberedFault → Fml
fault_owns at fault = fex (Testable at) (λ _. if_non_null at (lies_at the_row full_share at fault))

-- Returns the fault that is there afterwards: the new one if it is written, and otherwise the one before.
abbrev pub fault_after : Bool → NumberedFault → NumberedFault → NumberedFault
fault_after writes fault before = if writes then fault else before
