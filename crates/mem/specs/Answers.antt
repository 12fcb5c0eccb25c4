-- The causes of traps that the faults of the code mean.
use Rattle.std.specs.Prelude.{◌≡◌, Result, Ok, Err}
use Rattle.semantics.specs.State.{Cause, UnsetRegister, PointerUse, OutOfBounds, NoBytes, ContextWrite}
use Rattle.mem.specs.declared.fault.MemoryFault.{MemoryFault}
use Rattle.mem.specs.declared.fault.MemoryFault.TheVariants as fault

-- Returns the cause of a trap that a fault means.
abbrev pub cause_of : MemoryFault → Cause
cause_of fault.UnsetRegister = UnsetRegister
cause_of fault.PointerUse = PointerUse
cause_of fault.OutOfBounds = OutOfBounds
cause_of fault.NoBytes = NoBytes
cause_of fault.ContextWrite = ContextWrite

-- States that the result of the code is the defined one: the same value, or the fault that means the defined cause.
abbrev pub IsAnswer : {A : Type 0} → Result A Cause → Result A MemoryFault → Type 0
IsAnswer written (Ok a) = written ≡ Ok a
IsAnswer written (Err f) = written ≡ Err (cause_of f)
