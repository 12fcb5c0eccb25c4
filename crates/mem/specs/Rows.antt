-- Orders that `send_row` reads from memory.
use Rattle.std.specs.Prelude.{ℕ, pos, ◌*◌, List, Result, Ok}
use Rattle.semantics.specs.declared.value.Value.{Value}
use Rattle.semantics.specs.declared.value.Cell.{Cell}
use Rattle.semantics.specs.State.{Cause, given}
use Rattle.semantics.specs.Memory.{cells_at, bytes_in}
use Rattle.semantics.specs.Call.{orders_of}

-- Returns the `count` numbers of 4 bytes each at a pointer, or the cause of a trap.
abbrev pub row_at : List ℕ → List Cell → Value → ℕ → Result (List ℕ) Cause
row_at context stack base count = given (cells_at context stack base (pos 0) (4 * count))
    (λ cells. given (bytes_in cells) (λ bytes. Ok (orders_of bytes)))
