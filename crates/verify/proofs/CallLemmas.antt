-- The program continues after an accepted call.
use Rattle.std.proofs.Common.{◌≡◌, ◌∙◌, ℕ, ◌+◌, ◌*◌, ◌≤◌, List, Option, None, Some, Bool, true, false, refl, sym, ap, subst, length, replicate}
use Rattle.std.specs.Prelude.{Result, Ok, Err, pos, IsOk, IfOk, nat_le, if◌then◌else◌, ◌==◌, nat_lt, ◌^◌}
use Rattle.std.specs.List.{list_all}
use Rattle.std.proofs.lemmas.Bool.{and_parts, eqb-true, le-leb}
use Rattle.std.proofs.lemmas.List.{length-replicate}
use Rattle.range.specs.Interval.{IsIn}
use Rattle.semantics.specs.declared.value.Value.{Value}
use Rattle.semantics.specs.declared.value.Value.TheVariants.{Unset, Number, Pointer}
use Rattle.semantics.specs.declared.value.Cell.{Cell}
use Rattle.semantics.specs.declared.request.Helper.{Helper}
use Rattle.semantics.specs.declared.request.Helper.TheVariants.{BoardCopy, SendRow}
use Rattle.semantics.specs.declared.request.Request.{Request}
use Rattle.semantics.specs.declared.request.Request.TheVariants.{Copy}
use Rattle.semantics.specs.declared.entry.Entry.{Entry}
use Rattle.semantics.specs.Entries.{is_entered}
use Rattle.semantics.specs.State.{Cause, Argument, State, Next, Ask, Trap, value_at, given}
use Rattle.semantics.specs.Memory.{stack_place, cells_at, bytes_in, with_words}
use Rattle.semantics.specs.Outbox.{Choice, places_set, along_row}
use Rattle.semantics.specs.Call.{Effect, Asks, Enters, effect, done, told, argument, below, slot_in, pointer_in, copy_of, orders_of, orders_at, asked, sent, attempted, called, fits, resumed}
use Rattle.semantics.specs.Call as call
use Rattle.absval.specs.declared.value.AbsVal.{AbsVal}
use Rattle.absval.specs.Contains.{Contains}
use Rattle.absmem.specs.Known.{Known}
use Rattle.absmem.specs.Describes.{Describes as StackDescribes}
use Rattle.helper.specs.Table.{refusal, or_else, refused, arguments_of, AcceptsThese}
use Rattle.helper.specs.Results.{HoldsResult, Returns}
use Rattle.helper.proofs.Tests.{copy_in, row_in}
use Rattle.helper.proofs.Accepts.{asked_trap, sent_trap}
use Rattle.helper.proofs.Traps.{number_if, pointer_is}
use Rattle.verify.specs.declared.state.AbsState.{AbsState}
use Rattle.verify.specs.Describes.{RegistersDescribe, Describes}
use Rattle.semantics.specs.Relay.{IsSetting, Relay}
use Rattle.verify.proofs.Outcomes.{DescribesAt, GoesOn}
use Rattle.verify.specs.Calls.{arguments_reason}
use Rattle.verify.proofs.CallStates.{Puts, CopyStands, RowStands, WindowStands}
use Rattle.verify.proofs.CallArguments.{arguments_fine}
use Rattle.verify.proofs.Zips.{AllZip-at}
use Rattle.absval.specs.declared.value.AbsVal.TheVariants.{Unset as Unknown}
use Rattle.verify.specs.Registers.{known_at}

held_in : (lo hi m : ℕ) → (n : ℕ) × (Number m ≡ Number n) × IsIn lo hi n → IsIn lo hi m
held_in lo hi m h = let same : h.0 ≡ m = let e = h.1 in cc in subst (λ (n : ℕ). IsIn lo hi n) same h.2

-- What is known describes the cells after the answer to a request.
abbrev pub CellsStand : Known → List Cell → Value → Request → List ℕ → Type 0
CellsStand known cells p (Copy span) words = StackDescribes known (with_words cells p words) × (length (with_words cells p words) ≡ 512)
CellsStand known cells p _ words = StackDescribes known cells × (length cells ≡ 512)

resumed_stands : (a : AbsState) (lo hi unit : ℕ) (request : Request) (words : List ℕ) (w : State) → w.unit ≡ unit → Puts lo hi a.registers w.registers → HoldsResult lo hi (resumed request words w) →
    CellsStand a.stack w.cells (value_at w.registers 2) request words → DescribesAt a unit (resumed request words w)
resumed_stands a lo hi unit (Copy span) words w e puts held cells = (e, record { registers = puts _ (held_in lo hi _ held); stack = cells.0; size = cells.1 })
resumed_stands a lo hi unit request words w e puts held cells = (e, record { registers = puts _ (held_in lo hi _ held); stack = cells.0; size = cells.1 })

-- It does so after every answer that fits.
abbrev pub AnswersStand : Known → List Cell → Value → Request → Type 0
AnswersStand known cells p request = (words : List ℕ) → fits request words ≡ true → CellsStand known cells p request words

pub asked_goes : (a : AbsState) (lo hi : ℕ) (s : State) (r : Result Request Cause) → ((cause : Cause) → asked s r ≡ Trap cause → ⊥) → Puts lo hi a.registers s.registers →
    ((waiting : State) (request : Request) (words : List ℕ) → asked s r ≡ Ask request waiting → fits request words ≡ true → HoldsResult lo hi (resumed request words waiting)) →
    IfOk r (AnswersStand a.stack s.cells (value_at s.registers 2)) → GoesOn a (s.unit + 1) (asked s r)
asked_goes a lo hi s (Err cause) free puts held cells = absurd (free cause refl)
asked_goes a lo hi s (Ok request) free puts held cells = λ answer fit.
    resumed_stands a lo hi (s.unit + 1) request answer (record s { unit = s.unit + 1; steps = s.steps + 1 }) refl puts
    (held (record s { unit = s.unit + 1; steps = s.steps + 1 }) request answer refl fit) (cells answer fit)

pub sent_goes : (a : AbsState) (lo hi : ℕ) (relay : Relay) (s : State) (r0 : ℕ → ℕ) (r : Result Choice Cause) → ((cause : Cause) → sent relay s r0 r ≡ Trap cause → ⊥) → Puts lo hi a.registers s.registers →
    ((after : State) → sent relay s r0 r ≡ Next after → HoldsResult lo hi after) → StackDescribes a.stack s.cells × (length s.cells ≡ 512) → GoesOn a (s.unit + 1) (sent relay s r0 r)
sent_goes a lo hi relay s r0 (Err cause) free puts held cells = absurd (free cause refl)
sent_goes a lo hi relay s r0 (Ok choice) free puts held cells =
    (refl, record { registers = puts (r0 (places_set relay choice)) (held_in lo hi (r0 (places_set relay choice)) (held _ refl)); stack = cells.0; size = cells.1 })

pub attempted_goes : (a : AbsState) (lo hi : ℕ) (relay : Relay) (s : State) (r : Result Entry Cause) → ((cause : Cause) → attempted relay s r ≡ Trap cause → ⊥) → Puts lo hi a.registers s.registers →
    ((after : State) → attempted relay s r ≡ Next after → HoldsResult lo hi after) → StackDescribes a.stack s.cells × (length s.cells ≡ 512) → GoesOn a (s.unit + 1) (attempted relay s r)
attempted_goes a lo hi relay s (Err cause) free puts held cells = absurd (free cause refl)
attempted_goes a lo hi relay s (Ok entry) free puts held cells =
    let r0 : ℕ = if is_entered relay s.entries entry then 0 else 1 in
    (refl, record { registers = puts r0 (held_in lo hi r0 (held _ refl)); stack = cells.0; size = cells.1 })

-- What is true of all that a chain of results may give.
given_all : {A B : Type 0} (P : B → Type 0) (r : Result A Cause) (f : A → Result B Cause) → ((a : A) → r ≡ Ok a → IfOk (f a) P) → IfOk (given r f) P
given_all P (Ok a) f h = h a refl
given_all P (Err cause) f h = tt

-- A chain of results fails after its first part succeeds.
given_fails : {A B : Type 0} (r : Result A Cause) (f : A → Result B Cause) (rest : Option Cause) (cause : Cause) → or_else (refusal r) rest ≡ None → given r f ≡ Err cause → (a : A) × (r ≡ Ok a) × (rest ≡ None) × (f a ≡ Err cause)
given_fails (Ok a) f rest cause e q = (a, refl, e, q)
given_fails (Err other) f rest cause e q = cc

-- A number that is accepted is the one in the register.
taken_number : (bound : ℕ) (v : Value) (n : ℕ) → below bound v ≡ Ok n → v ≡ Number n
taken_number bound Unset n e = cc
taken_number bound (Number m) n e = ap Number (number_if (nat_lt m bound) m n e)
taken_number bound (Pointer region offset) n e = cc

at_register : (known : List AbsVal) (s : State) (r : ℕ) (v : Value) → RegistersDescribe known s.registers → value_at s.registers r ≡ v → Contains (known_at known r) v
at_register known s r v d e = subst (λ (w : Value). Contains (known_at known r) w) e (AllZip-at Contains known s.registers r Unknown Unset d tt)

-- ---- board_copy

copy_fails : (t : Bool) (room : Result ℕ Cause) (request : Request) (cause : Cause) → t ≡ true → IsOk room → (if t then given room (λ place. Ok request) else Err Argument) ≡ Err cause → ⊥
copy_fails true (Ok place) request cause e h q = cc
copy_fails true (Err other) request cause e h q = cc
copy_fails false room request cause e h q = cc

copy_gives : (t : Bool) (room : Result ℕ Cause) (request : Request) (P : Request → Type 0) → P request → IfOk (if t then given room (λ place. Ok request) else Err Argument) P
copy_gives true (Ok place) request P h = h
copy_gives true (Err cause) request P h = tt
copy_gives false room request P h = tt

fitting_length : (slot count : ℕ) (words : List ℕ) → fits (Copy (slot, count)) words ≡ true → length words ≡ count
fitting_length slot count words e = eqb-true (length words) count (and_parts (length words == count) (list_all (λ word. nat_lt word (2 ^ 64)) words) e).0

pub copy_free : (a : AbsState) (new : Known) (s : State) (cause : Cause) → Describes a s → refused (arguments_of BoardCopy) 1 s.registers ≡ None →
    CopyStands (known_at a.registers 1) (known_at a.registers 2) (known_at a.registers 3) a.stack new → copy_in s ≡ Err cause → ⊥
copy_free a new s cause d e stands q =
    let first = given_fails (slot_in s) (λ slot. given (pointer_in s 2) (λ to. given (argument s 3 65) (λ count. copy_of slot to count))) (or_else (refusal (pointer_in s 2)) (or_else (refusal (argument s 3 65)) None)) cause e q in
    let second = given_fails (pointer_in s 2) (λ to. given (argument s 3 65) (λ count. copy_of first.0 to count)) (or_else (refusal (argument s 3 65)) None) cause first.2 first.3 in
    let third = given_fails (argument s 3 65) (λ count. copy_of first.0 second.0 count) None cause second.2 second.3 in
    let long : length (replicate third.0 0) ≡ third.0 = length-replicate third.0 0 in
    let slot = taken_number 64 (value_at s.registers 1) first.0 first.1 in
    let to = pointer_is (value_at s.registers 2) second.0 second.1 in
    let count = taken_number 65 (value_at s.registers 3) third.0 third.1 in
    let found = stands s.cells first.0 second.0 (replicate third.0 0) d.stack d.size
    (at_register a.registers s 1 (Number first.0) d.registers slot) (at_register a.registers s 2 second.0 d.registers to)
    (at_register a.registers s 3 (Number (length (replicate third.0 0))) d.registers (count ∙ ap Number (sym long))) in
    let room : IsOk (stack_place second.0 (pos 0) (8 * third.0)) = subst (λ (n : ℕ). IsOk (stack_place second.0 (pos 0) (8 * n))) long found.1.room in
    let few : first.0 + third.0 ≤ 64 = subst (λ (n : ℕ). first.0 + n ≤ 64) long found.0 in
    copy_fails (nat_le (first.0 + third.0) 64) (stack_place second.0 (pos 0) (8 * third.0)) (Copy (first.0, third.0)) cause (le-leb (first.0 + third.0) 64 few) room third.3

pub copy_stands : (a : AbsState) (new : Known) (s : State) → Describes a s → CopyStands (known_at a.registers 1) (known_at a.registers 2) (known_at a.registers 3) a.stack new →
    IfOk (copy_in s) (AnswersStand new s.cells (value_at s.registers 2))
copy_stands a new s d stands =
    let P = λ (request : Request). AnswersStand new s.cells (value_at s.registers 2) request in
    given_all P (slot_in s) (λ slot. given (pointer_in s 2) (λ to. given (argument s 3 65) (λ count. copy_of slot to count))) (λ slot first.
    given_all P (pointer_in s 2) (λ to. given (argument s 3 65) (λ count. copy_of slot to count)) (λ to second.
    given_all P (argument s 3 65) (λ count. copy_of slot to count) (λ count third.
    copy_gives (nat_le (slot + count) 64) (stack_place to (pos 0) (8 * count)) (Copy (slot, count)) P (λ words fit.
    let long : length words ≡ count = fitting_length slot count words fit in
    let found = stands s.cells slot (value_at s.registers 2) words d.stack d.size
    (at_register a.registers s 1 (Number slot) d.registers (taken_number 64 (value_at s.registers 1) slot first)) (at_register a.registers s 2 (value_at s.registers 2) d.registers refl)
    (at_register a.registers s 3 (Number (length words)) d.registers (taken_number 65 (value_at s.registers 3) count third ∙ ap Number (sym long))) in
    (found.1.stack, found.1.size)))))

-- ---- send_row

orders_fail : (cells : Result (List Cell) Cause) (f : List ℕ → Choice) (cause : Cause) → IsOk (given cells bytes_in) →
    given (given cells (λ found. given (bytes_in found) (λ bytes. Ok (orders_of bytes)))) (λ orders. Ok (f orders)) ≡ Err cause → ⊥
orders_fail (Ok found) f cause h q = by_bytes (bytes_in found) h q
  where
    by_bytes : (r : Result (List ℕ) Cause) → IsOk r → given (given r (λ bytes. Ok (orders_of bytes))) (λ orders. Ok (f orders)) ≡ Err cause → ⊥
    by_bytes (Ok bytes) h q = cc
    by_bytes (Err other) h q = cc
orders_fail (Err other) f cause h q = cc

pub row_free : (a : AbsState) (context : List ℕ) (relay : Relay) (s : State) (cause : Cause) → IsSetting context relay → Describes a s → refused (arguments_of SendRow) 1 s.registers ≡ None →
    RowStands (known_at a.registers 2) (known_at a.registers 3) a.stack → row_in context s ≡ Err cause → ⊥
row_free a context relay s cause setting d e stands q =
    let first = given_fails (argument s 1 1016) (λ label. given (pointer_in s 2) (λ from. given (argument s 3 14) (λ count. given (orders_at context s from count) (λ orders. Ok (along_row label orders)))))
    (or_else (refusal (pointer_in s 2)) (or_else (refusal (argument s 3 14)) None)) cause e q in
    let second = given_fails (pointer_in s 2) (λ from. given (argument s 3 14) (λ count. given (orders_at context s from count) (λ orders. Ok (along_row first.0 orders)))) (or_else (refusal (argument s 3 14)) None) cause first.2 first.3 in
    let third = given_fails (argument s 3 14) (λ count. given (orders_at context s second.0 count) (λ orders. Ok (along_row first.0 orders))) None cause second.2 second.3 in
    orders_fail (cells_at context s.cells second.0 (pos 0) (4 * third.0)) (λ orders. along_row first.0 orders) cause
    (stands context s.cells second.0 third.0 setting.is_context d.stack d.size
    (at_register a.registers s 2 second.0 d.registers (pointer_is (value_at s.registers 2) second.0 second.1))
    (at_register a.registers s 3 (Number third.0) d.registers (taken_number 14 (value_at s.registers 3) third.0 third.1)))
    third.3

-- ---- calls

kept : (a : AbsState) (new : Known) (s : State) → Describes a s → new ≡ a.stack → StackDescribes new s.cells × (length s.cells ≡ 512)
kept a new s d e = (subst (λ (known : Known). StackDescribes known s.cells) (sym e) d.stack, d.size)

-- What is known describes the cells after a call, if it makes a request, after the answer.
abbrev LeavesCells : Known → State → Effect → Type 0
LeavesCells known s (Asks request) = IfOk request (AnswersStand known s.cells (value_at s.registers 2))
LeavesCells known s _ = StackDescribes known s.cells × (length s.cells ≡ 512)

done_goes : (new : AbsState) (lo hi : ℕ) (relay : Relay) (s : State) (e : Effect) → ((cause : Cause) → done relay s e ≡ Trap cause → ⊥) → Puts lo hi new.registers s.registers →
    ((after : State) → done relay s e ≡ Next after → HoldsResult lo hi after) →
    ((waiting : State) (request : Request) (words : List ℕ) → done relay s e ≡ Ask request waiting → fits request words ≡ true → HoldsResult lo hi (resumed request words waiting)) →
    LeavesCells new.stack s e → GoesOn new (s.unit + 1) (done relay s e)
done_goes new lo hi relay s (Asks request) free puts at_once answered cells = asked_goes new lo hi s request free puts answered cells
done_goes new lo hi relay s (call.Puts tells choice) free puts at_once answered cells = sent_goes new lo hi relay s (told tells) choice free puts at_once cells
done_goes new lo hi relay s (Enters entry) free puts at_once answered cells = attempted_goes new lo hi relay s entry free puts at_once cells

-- A call whose arguments are accepted continues to what is known after it.
pub called_goes : (helper : Helper) (a new : AbsState) (lo hi : ℕ) (context : List ℕ) (relay : Relay) (s : State) → IsSetting context relay → Describes a s → arguments_reason (arguments_of helper) 1 a.registers ≡ None →
    AcceptsThese helper (arguments_of helper) → Returns helper lo hi → WindowStands helper a new.stack → Puts lo hi new.registers s.registers → GoesOn new (s.unit + 1) (called context relay s (Some helper))
called_goes BoardCopy a new lo hi context relay s setting d e accepts returns stands puts =
    asked_goes new lo hi s (copy_in s)
    (λ cause q. copy_free a new.stack s cause d (arguments_fine (arguments_of BoardCopy) 1 a.registers s.registers d.registers e) stands (asked_trap s (copy_in s) cause q)) puts
    (λ waiting request words q fit. returns.answered context relay s waiting request words q fit)
    (copy_stands a new.stack s d stands)
called_goes SendRow a new lo hi context relay s setting d e accepts returns stands puts =
    sent_goes new lo hi relay s (λ set. set) (row_in context s)
    (λ cause q. row_free a context relay s cause setting d (arguments_fine (arguments_of SendRow) 1 a.registers s.registers d.registers e) stands.1 (sent_trap relay s (λ set. set) (row_in context s) cause q)) puts
    (λ after q. returns.at_once context relay s after setting.is_relay q) (kept a new.stack s d stands.0)
called_goes helper a new lo hi context relay s setting d e accepts returns stands puts =
    let cells = kept a new.stack s d stands in
    done_goes new lo hi relay s (effect context s helper) (λ cause q. accepts context relay s cause (arguments_fine (arguments_of helper) 1 a.registers s.registers d.registers e) q) puts
    (λ after q. returns.at_once context relay s after setting.is_relay q) (λ waiting request words q fit. returns.answered context relay s waiting request words q fit)
    (search (given_all, cells))
