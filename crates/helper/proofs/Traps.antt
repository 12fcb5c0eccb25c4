-- When a call traps, and with which cause.
use Rattle.std.proofs.Common.{ℕ, pos, ◌+◌, ◌*◌, ◌^◌, ◌%◌, ◌≡◌, List, Bool, true, false, refl, ◌∙◌}
use Rattle.std.specs.Prelude.{Result, Ok, Err, Option, Some, None, if◌then◌else◌, nat_lt, nat_le}
use Rattle.semantics.specs.Relay.{Relay}
use Rattle.semantics.specs.declared.value.Value.{Value}
use Rattle.semantics.specs.declared.value.Value.TheVariants.{Unset, Number, Pointer}
use Rattle.semantics.specs.declared.value.Cell.{Cell}
use Rattle.semantics.specs.declared.request.Helper.{Helper}
use Rattle.semantics.specs.declared.request.Helper.TheVariants.{BoardCopy, SendRow}
use Rattle.semantics.specs.declared.request.Request.TheVariants.{Copy}
use Rattle.semantics.specs.State.{Cause, Argument, State, value_at, given}
use Rattle.semantics.specs.Memory.{cells_at, bytes_in, stack_place}
use Rattle.semantics.specs.Outbox.{along_row}
use Rattle.semantics.specs.Call.{HowMany, Effect, Asks, Puts, Enters, effect, done, below, pointer, argument, slot_in, pointer_in, copy_of, orders_of, orders_at}
use Rattle.helper.specs.Table.{HasWindow, refusal, or_else, refused, arguments_of}
use Rattle.helper.specs.Windows.{number_in, refused_together, trap_of, CallsTrapByTable}
use Rattle.helper.proofs.Tests.{copy_in, row_in}

-- Why an effect fails: because of its request, its choice or its entry.
abbrev effect_refusal : Effect → Option Cause
effect_refusal (Asks request) = refusal request
effect_refusal (Puts tells choice) = refusal choice
effect_refusal (Enters entry) = refusal entry

result_refusal : (relay : Relay) (s : State) (e : Effect) → trap_of (done relay s e) ≡ effect_refusal e
result_refusal relay s (Asks (Ok request)) = refl
result_refusal relay s (Asks (Err cause)) = refl
result_refusal relay s (Puts tells (Ok choice)) = refl
result_refusal relay s (Puts tells (Err cause)) = refl
result_refusal relay s (Enters (Ok entry)) = refl
result_refusal relay s (Enters (Err cause)) = refl

-- A chain of results fails if its first part does, and otherwise if the next part does.
chain : {A B : Type 0} (r : Result A Cause) (f : A → Result B Cause) (rest : Option Cause) → ((a : A) → r ≡ Ok a → refusal (f a) ≡ rest) → refusal (given r f) ≡ or_else (refusal r) rest
chain (Ok a) f rest e = e a refl
chain (Err cause) f rest e = refl

-- A last part that cannot fail.
alone : {A B : Type 0} (r : Result A Cause) (f : A → B) → refusal (given r (λ a. Ok (f a))) ≡ refusal r
alone (Ok a) f = refl
alone (Err cause) f = refl

pub number_if : (t : Bool) (m n : ℕ) → (if t then Ok m else Err Argument) ≡ Ok n → m ≡ n
number_if true m n e = cc
number_if false m n e = cc

-- The number that is accepted is the one in the register.
number_is : (bound : ℕ) (v : Value) (n : ℕ) → below bound v ≡ Ok n → number_in v ≡ n
number_is bound Unset n e = cc
number_is bound (Number m) n e = number_if (nat_lt m bound) m n e
number_is bound (Pointer region offset) n e = cc

pub pointer_is : (v p : Value) → pointer v ≡ Ok p → v ≡ p
pointer_is Unset p e = cc
pointer_is (Number n) p e = cc
pointer_is (Pointer region offset) p e = cc

copy_refuses : (slot : ℕ) (to : Value) (count : ℕ) → refusal (copy_of slot to count) ≡ or_else (if nat_le (slot + count) 64 then None else Some Argument) (refusal (stack_place to (pos 0) (8 * count)))
copy_refuses slot to count = by (nat_le (slot + count) 64)
  where
    place : Result ℕ Cause
    place = stack_place to (pos 0) (8 * count)

    by : (t : Bool) → refusal (if t then given place (λ at. Ok (Copy (slot, count))) else Err Argument) ≡ or_else (if t then None else Some Argument) (refusal place)
    by true = alone place (λ at. Copy (slot, count))
    by false = refl

orders_refuse : (context : List ℕ) (s : State) (from : Value) (count : ℕ) → refusal (orders_at context s from count) ≡ refusal (given (cells_at context s.cells from (pos 0) (4 * count)) bytes_in)
orders_refuse context s from count = by (cells_at context s.cells from (pos 0) (4 * count))
  where
    by : (r : Result (List Cell) Cause) → refusal (given r (λ cells. given (bytes_in cells) (λ bytes. Ok (orders_of bytes)))) ≡ refusal (given r bytes_in)
    by (Ok cells) = alone (bytes_in cells) orders_of
    by (Err cause) = refl

-- ---- the helpers

-- An order is rejected as its number is.
chain_order : {B : Type 0} (r : Result ℕ Cause) (f : ℕ → Result B Cause) (rest : Option Cause) → ((order : ℕ) → refusal (f order) ≡ rest) → refusal (given (given r (λ word. Ok (word % 2 ^ 32))) f) ≡ or_else (refusal r) rest
chain_order (Ok word) f rest e = e (word % 2 ^ 32)
chain_order (Err cause) f rest e = refl

chain_any : {A B : Type 0} (r : Result A Cause) (f : A → Result B Cause) (rest : Option Cause) → ((a : A) → refusal (f a) ≡ rest) → refusal (given r f) ≡ or_else (refusal r) rest
chain_any r f rest e = chain r f rest (λ a same. e a)

-- A helper that accesses no memory rejects only its arguments.
plain : (h : Helper) (context : List ℕ) (s : State) → (HasWindow h → ⊥) → effect_refusal (effect context s h) ≡ refused (arguments_of h) 1 s.registers
plain BoardCopy context s none = absurd (none tt)
plain SendRow context s none = absurd (none tt)
plain h context s none = search (chain_order, chain_any)

or_none : (o : Option Cause) → o ≡ or_else o None
or_none None = refl
or_none (Some cause) = refl

-- Three arguments, and why they are rejected together.
three : (a b d c : Option Cause) → or_else a (or_else b (or_else d c)) ≡ or_else (or_else a (or_else b (or_else d None))) c
three None None None c = refl
three None None (Some cause) c = refl
three None (Some cause) d c = refl
three (Some cause) b d c = refl

copy_traps : (context : List ℕ) (s : State) → refusal (copy_in s) ≡ or_else (refused (arguments_of BoardCopy) 1 s.registers) (refused_together (arguments_of BoardCopy) context s)
copy_traps context s =
    chain (slot_in s) (λ slot. given (pointer_in s 2) (λ to. given (argument s 3 65) (λ count. copy_of slot to count))) (or_else (refusal (pointer_in s 2)) (or_else (refusal (argument s 3 65)) rest)) (λ slot e.
    chain (pointer_in s 2) (λ to. given (argument s 3 65) (λ count. copy_of slot to count)) (or_else (refusal (argument s 3 65)) rest) (λ to f.
    chain (argument s 3 65) (λ count. copy_of slot to count) rest (λ count g.
    rw (number_is 64 (value_at s.registers 1) slot e, pointer_is (value_at s.registers 2) to f, number_is 65 (value_at s.registers 3) count g) (copy_refuses slot to count))))
    ∙ three (refusal (slot_in s)) (refusal (pointer_in s 2)) (refusal (argument s 3 65)) rest
  where
    rest : Option Cause
    rest = refused_together (arguments_of BoardCopy) context s

row_traps : (context : List ℕ) (s : State) → refusal (row_in context s) ≡ or_else (refused (arguments_of SendRow) 1 s.registers) (refused_together (arguments_of SendRow) context s)
row_traps context s =
    chain (argument s 1 1016) (λ label. given (pointer_in s 2) (λ from. given (argument s 3 14) (λ count. given (orders_at context s from count) (λ orders. Ok (along_row label orders))))) (or_else (refusal (pointer_in s 2)) (or_else (refusal (argument s 3 14)) rest)) (λ label e.
    chain (pointer_in s 2) (λ from. given (argument s 3 14) (λ count. given (orders_at context s from count) (λ orders. Ok (along_row label orders)))) (or_else (refusal (argument s 3 14)) rest) (λ from f.
    chain (argument s 3 14) (λ count. given (orders_at context s from count) (λ orders. Ok (along_row label orders))) rest (λ count g.
    rw (pointer_is (value_at s.registers 2) from f, number_is 14 (value_at s.registers 3) count g) (alone (orders_at context s from count) (λ orders. along_row label orders) ∙ orders_refuse context s from count))))
    ∙ three (refusal (argument s 1 1016)) (refusal (pointer_in s 2)) (refusal (argument s 3 14)) rest
  where
    rest : Option Cause
    rest = refused_together (arguments_of SendRow) context s

pub calls_trap : CallsTrapByTable
calls_trap BoardCopy context relay s = result_refusal relay s (Asks (copy_in s)) ∙ copy_traps context s
calls_trap SendRow context relay s = result_refusal relay s (Puts HowMany (row_in context s)) ∙ row_traps context s
calls_trap h context relay s = result_refusal relay s (effect context s h) ∙ plain h context s (λ e. e) ∙ or_none (refused (arguments_of h) 1 s.registers)
