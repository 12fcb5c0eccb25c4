-- Why the search gives no answer.
use Rattle.std.specs.Prelude.{ℕ, ◌≡◌, false}
use Rattle.book.specs.Grammar.{is_within}
use Rattle.book.specs.declared.fault.TableFault.TheVariants.{Range}
use Rattle.book.specs.declared.fault.TableError.TheVariants.{At, Memory}
use Rattle.lies.specs.declared.refusal.BreakError.{BreakError}
use Rattle.lies.specs.declared.refusal.BreakError.TheVariants.{Table}

-- The refusal for lack of memory.
abbrev pub no_memory : BreakError
no_memory = Table Memory

-- States that numbers are refused with this error: they are out of the limits of a message table.
pub record IsRefused (n m c : ℕ) (error : BreakError) : Type 0 where
  pub outside : is_within n m c ≡ false
  pub range : error ≡ Table (At Range 1)
