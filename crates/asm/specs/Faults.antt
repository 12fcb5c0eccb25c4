-- The first fault of a text and its line (own).
use Rattle.std.specs.Prelude.{ℕ, Result, Ok, Err}
use Rattle.asm.specs.declared.fault.AsmFault.{AsmFault}
use Rattle.asm.specs.declared.fault.AsmError.{AsmError}
use Rattle.asm.specs.declared.fault.AsmError.TheVariants.{At}

-- Applies the next check to the value of a result, or returns the fault.
infixl 10 ◌>>=◌
abbrev pub ◌>>=◌ : {A B F : Type 0} → Result A F → (A → Result B F) → Result B F
(Ok x) >>= f = f x
(Err e) >>= f = Err e

-- Adds the line's number to a fault.
abbrev pub at_line : {A : Type 0} → ℕ → Result A AsmFault → Result A AsmError
at_line line (Ok x) = Ok x
at_line line (Err fault) = Err (At fault line)
