-- The words that a program's request names are within the board.
use Rattle.std.proofs.Common.{◌≡◌, ℕ, pos, ◌+◌, ◌*◌, ◌<◌, ◌≤◌, List, Bool, true, false, refl, subst}
use Rattle.std.specs.Prelude.{Option, Some, None, Result, Ok, Err, if◌then◌else◌, nat_lt, nat_le}
use Rattle.std.proofs.lemmas.Bool.{ltb-true, leb-true}
use Rattle.insn.specs.declared.insn.Insn.{Insn}
use Rattle.semantics.specs.Relay.{Relay}
use Rattle.semantics.specs.declared.value.Value.{Value}
use Rattle.semantics.specs.declared.value.Value.TheVariants.{Unset, Number, Pointer}
use Rattle.semantics.specs.declared.request.Helper.{Helper}
use Rattle.semantics.specs.declared.request.Helper.TheVariants.{BoardCopy}
use Rattle.semantics.specs.declared.request.Request.{Request}
use Rattle.semantics.specs.declared.request.Request.TheVariants.{Copy}
use Rattle.semantics.specs.declared.entry.Entry.{Entry}
use Rattle.semantics.specs.State.{Cause, State, Outcome, Next, Ask, Exit, Trap, given}
use Rattle.semantics.specs.Memory.{stack_place}
use Rattle.semantics.specs.Outbox.{Choice}
use Rattle.semantics.specs.Call.{Effect, Asks, Puts, Enters, IfAsks, told, effect, done, below, pointer, copy_of, called, asked, sent, attempted}
use Rattle.semantics.specs.Execution.{step}
use Rattle.semantics.proofs.Walk.{changed_walk, step_walk}
use Rattle.board.specs.Requests.{IsRequest}

abbrev AsksWithin : Outcome → Type 0
AsksWithin (Ask request s) = IsRequest request
AsksWithin (Next s) = Unit {0}
AsksWithin (Exit r0 s) = Unit {0}
AsksWithin (Trap cause) = Unit {0}

abbrev Within : Result Request Cause → Type 0
Within (Ok request) = IsRequest request
Within (Err cause) = Unit {0}

asked_within : (s : State) (r : Result Request Cause) → Within r → AsksWithin (asked s r)
asked_within s (Ok request) h = h
asked_within s (Err cause) h = tt

below_within : (bound : ℕ) (v : Value) (k : ℕ → Result Request Cause) → ((n : ℕ) → n < bound → Within (k n)) → Within (given (below bound v) k)
below_within bound Unset k h = tt
below_within bound (Number n) k h = by (nat_lt n bound) (λ lt. h n (ltb-true n bound lt))
  where
    by : (b : Bool) → (b ≡ true → Within (k n)) → Within (given (if b then Ok n else Err Cause.Argument) k)
    by true h = h refl
    by false h = tt
below_within bound (Pointer region offset) k h = tt

pointer_within : (v : Value) (k : Value → Result Request Cause) → ((p : Value) → Within (k p)) → Within (given (pointer v) k)
pointer_within Unset k h = tt
pointer_within (Number n) k h = tt
pointer_within (Pointer region offset) k h = h (Pointer region offset)

copy_within : (slot : ℕ) (to : Value) (count : ℕ) → Within (copy_of slot to count)
copy_within slot to count = by (nat_le (slot + count) 64) (λ le. leb-true (slot + count) 64 le) (stack_place to (pos 0) (8 * count))
  where
    by : (b : Bool) → (b ≡ true → slot + count ≤ 64) → (r : Result ℕ Cause) → Within (if b then given r (λ place. Ok (Copy (slot, count))) else Err Cause.Argument)
    by true h (Ok place) = h refl
    by true h (Err cause) = tt
    by false h r = tt

sent_within : (relay : Relay) (s : State) (r0 : ℕ → ℕ) (r : Result Choice Cause) → AsksWithin (sent relay s r0 r)
sent_within relay s r0 (Err cause) = tt
sent_within relay s r0 (Ok choice) = tt

attempted_within : (relay : Relay) (s : State) (r : Result Entry Cause) → AsksWithin (attempted relay s r)
attempted_within relay s (Err cause) = tt
attempted_within relay s (Ok entry) = tt

requested_within : (context : List ℕ) (s : State) (h : Helper) → IfAsks Within (effect context s h)
requested_within context s BoardCopy = search (below_within, pointer_within, copy_within)
requested_within context s h = search (below_within)

done_within : (relay : Relay) (s : State) (e : Effect) → IfAsks Within e → AsksWithin (done relay s e)
done_within relay s (Asks request) within = asked_within s request within
done_within relay s (Puts tells choice) within = sent_within relay s (told tells) choice
done_within relay s (Enters entry) within = attempted_within relay s entry

called_within : (context : List ℕ) (relay : Relay) (s : State) (h : Option Helper) → AsksWithin (called context relay s h)
called_within context relay s None = tt
called_within context relay s (Some helper) = done_within relay s (effect context s helper) (requested_within context s helper)

step_within : (program : List Insn) (context : List ℕ) (relay : Relay) (s : State) → AsksWithin (step program context relay s)
step_within program context relay s =
    step_walk program context relay s AsksWithin
    (record {
      trapped = λ cause. tt;
      set = λ dst unit value other. tt;
      moved = λ unit. tt;
      exits = λ n. tt;
      stores = λ size base offset value. changed_walk s AsksWithin (λ cause. tt) (λ cells. tt) _;
    })
    (called_within context relay s)

-- Proves that the words that a step's request names are within the board.
pub asks_within : (program : List Insn) (context : List ℕ) (relay : Relay) (s t : State) (request : Request) → step program context relay s ≡ Ask request t → IsRequest request
asks_within program context relay s t request e = subst (λ (o : Outcome). AsksWithin o) e (step_within program context relay s)
