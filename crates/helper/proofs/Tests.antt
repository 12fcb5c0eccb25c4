-- How a call checks its arguments.
use Rattle.std.proofs.Common.{ℕ, ◌+◌, List}
use Rattle.std.specs.Prelude.{Result, Ok}
use Rattle.semantics.specs.Limits.{board_words, most_generals, most_labels}
use Rattle.semantics.specs.declared.request.Request.{Request}
use Rattle.semantics.specs.State.{Cause, State, given}
use Rattle.semantics.specs.Outbox.{Choice, along_row}
use Rattle.semantics.specs.Call.{argument, slot_in, pointer_in, copy_of, orders_at}

-- What the helpers that access memory request or set.
abbrev pub copy_in : State → Result Request Cause
copy_in s = given (slot_in s) (λ slot. given (pointer_in s 2) (λ to. given (argument s 3 (board_words + 1)) (λ count. copy_of slot to count)))

abbrev pub row_in : List ℕ → State → Result Choice Cause
row_in context s = given (argument s 1 most_labels) (λ label. given (pointer_in s 2) (λ from. given (argument s 3 (most_generals + 1)) (λ count. given (orders_at context s from count) (λ orders. Ok (along_row label orders)))))
