-- Every kind of instruction in turn: what is to be shown of its outcome for a predicate P.
use Rattle.std.proofs.Common.{◌≡◌, ℕ, ℤ, pos, negsuc, ◌+◌, List, Bool, true, false, refl}
use Rattle.std.specs.Prelude.{Option, Some, None, Result, Ok, Err, slice_set, if◌then◌else◌, ◌==◌}
use Rattle.insn.specs.declared.insn.Insn.{Insn}
use Rattle.insn.specs.declared.insn.Insn.TheVariants as i
use Rattle.insn.specs.Insn.{bytes_of}
use Rattle.insn.specs.Program.{instruction_at}
use Rattle.semantics.specs.Relay.{Relay}
use Rattle.semantics.specs.declared.value.Value.{Value}
use Rattle.semantics.specs.declared.value.Value.TheVariants.{Number, Unset}
use Rattle.semantics.specs.declared.value.Cell.{Cell}
use Rattle.semantics.specs.declared.request.Helper.{Helper}
use Rattle.semantics.specs.declared.request.Helper.TheVariants.{BoardGet}
use Rattle.semantics.specs.declared.request.Request.{Request}
use Rattle.semantics.specs.declared.entry.Entry.{Entry}
use Rattle.semantics.specs.State.{Cause, FrameWrite, NoInstruction, NoHelper, UnsetRegister, State, Outcome, Next, Ask, Exit, Trap, value_at, operand_value}
use Rattle.semantics.specs.Memory.{stored}
use Rattle.semantics.specs.Outbox.{Choice, written, places_set}
use Rattle.semantics.specs.Entries.{is_entered, entered}
use Rattle.semantics.specs.Step.{assigned, changed, arrived, branched, exited}
use Rattle.semantics.specs.Call.{Effect, Asks, Puts, Enters, told, effect, done, called, asked, sent, attempted, returned}
use Rattle.semantics.specs.Execution.{executed, fetched, step}

-- What is to be shown for P if the instruction is not a call: a trap, a register that is set, another unit, an exit, a
-- store.
pub record Walks (s : State) (P : Outcome → Type 0) : Type 0 where
  pub trapped : (cause : Cause) → P (Trap cause)
  pub set : (dst unit : ℕ) (value : Value) → false ≡ (dst == 10) → P (Next (record s { unit = unit; registers = slice_set s.registers dst value; steps = s.steps + 1 }))
  pub moved : (unit : ℕ) → P (Next (record s { unit = unit; steps = s.steps + 1 }))
  pub exits : (n : ℕ) → P (Exit n (record s { steps = s.steps + 1 }))
  pub stores : (size : ℕ) (base : Value) (offset : ℤ) (value : Value) → P (changed s (stored s.cells size base offset value))

-- The same for a call: a request, orders that are set, an entry.
pub record Calls (relay : Relay) (s : State) (P : Outcome → Type 0) : Type 0 where
  pub trapped : (cause : Cause) → P (Trap cause)
  pub asks : (request : Request) → P (Ask request (record s { unit = s.unit + 1; steps = s.steps + 1 }))
  pub puts : (r0 : ℕ) (choice : Choice) → P (Next (record (returned s r0) { unit = s.unit + 1; outbox = written relay choice s.outbox; steps = s.steps + 1 }))
  pub enters : (r0 : ℕ) (entry : Entry) → P (Next (record (returned s r0) { unit = s.unit + 1; entries = entered relay s.entries entry; steps = s.steps + 1 }))

assigned_walk : (s : State) (P : Outcome → Type 0) → Walks s P → (dst units : ℕ) (r : Result Value Cause) → P (assigned s dst units r)
assigned_walk s P w dst units (Err cause) = w.trapped cause
assigned_walk s P w dst units (Ok value) = by (dst == 10) refl
  where
    by : (b : Bool) → b ≡ (dst == 10) → P (if b then Trap FrameWrite else Next (record s { unit = s.unit + units; registers = slice_set s.registers dst value; steps = s.steps + 1 }))
    by true e = w.trapped FrameWrite
    by false e = w.set dst (s.unit + units) value e

-- A store whose outcome needs only the right form.
pub changed_walk : (s : State) (P : Outcome → Type 0) → ((cause : Cause) → P (Trap cause)) → ((cells : List Cell) → P (Next (record s { unit = s.unit + 1; cells = cells; steps = s.steps + 1 }))) →
    (r : Result (List Cell) Cause) → P (changed s r)
changed_walk s P trapped stores (Err cause) = trapped cause
changed_walk s P trapped stores (Ok cells) = stores cells

arrived_walk : (s : State) (P : Outcome → Type 0) → Walks s P → (z : ℤ) → P (arrived s z)
arrived_walk s P w (pos unit) = w.moved unit
arrived_walk s P w (negsuc unit) = w.trapped NoInstruction

branched_walk : (s : State) (P : Outcome → Type 0) → Walks s P → (distance : ℤ) (r : Result Bool Cause) → P (branched s distance r)
branched_walk s P w distance (Err cause) = w.trapped cause
branched_walk s P w distance (Ok true) = arrived_walk s P w _
branched_walk s P w distance (Ok false) = w.moved (s.unit + 1)

exited_walk : (s : State) (P : Outcome → Type 0) → Walks s P → (r : Result ℕ Cause) → P (exited s r)
exited_walk s P w (Err cause) = w.trapped cause
exited_walk s P w (Ok n) = w.exits n

asked_walk : (relay : Relay) (s : State) (P : Outcome → Type 0) → Calls relay s P → (r : Result Request Cause) → P (asked s r)
asked_walk relay s P c (Err cause) = c.trapped cause
asked_walk relay s P c (Ok request) = c.asks request

sent_walk : (relay : Relay) (s : State) (P : Outcome → Type 0) → Calls relay s P → (r0 : ℕ → ℕ) (r : Result Choice Cause) → P (sent relay s r0 r)
sent_walk relay s P c r0 (Err cause) = c.trapped cause
sent_walk relay s P c r0 (Ok choice) = c.puts (r0 (places_set relay choice)) choice

attempted_walk : (relay : Relay) (s : State) (P : Outcome → Type 0) → Calls relay s P → (r : Result Entry Cause) → P (attempted relay s r)
attempted_walk relay s P c (Err cause) = c.trapped cause
attempted_walk relay s P c (Ok entry) = c.enters (if is_entered relay s.entries entry then 0 else 1) entry

done_walk : (relay : Relay) (s : State) (P : Outcome → Type 0) → Calls relay s P → (e : Effect) → P (done relay s e)
done_walk relay s P c (Asks request) = asked_walk relay s P c request
done_walk relay s P c (Puts tells choice) = sent_walk relay s P c (told tells) choice
done_walk relay s P c (Enters entry) = attempted_walk relay s P c entry

pub called_walk : (context : List ℕ) (relay : Relay) (s : State) (P : Outcome → Type 0) → Calls relay s P → (h : Option Helper) → P (called context relay s h)
called_walk context relay s P c None = c.trapped NoHelper
called_walk context relay s P c (Some helper) = done_walk relay s P c (effect context s helper)

-- P for a call with r1 unset, which traps because each helper takes an argument there.
pub unset_walk : (context : List ℕ) (relay : Relay) (s : State) (P : Outcome → Type 0) → value_at s.registers 1 ≡ Unset → ((cause : Cause) → P (Trap cause)) → (h : Option Helper) → P (called context relay s h)
unset_walk context relay s P e trapped None = trapped NoHelper
unset_walk context relay s P e trapped (Some BoardGet) = rw e (trapped UnsetRegister)
unset_walk context relay s P e trapped (Some helper) = rw e (trapped UnsetRegister)

executed_walk : (context : List ℕ) (relay : Relay) (insn : Insn) (s : State) (P : Outcome → Type 0) → Walks s P → ((h : Option Helper) → P (called context relay s h)) → P (executed context relay insn s)
executed_walk context relay (i.Arithmetic width operation dst operand) s P w c = assigned_walk s P w dst 1 _
executed_walk context relay (i.Negate width dst) s P w c = assigned_walk s P w dst 1 _
executed_walk context relay (i.SignExtend width part dst src) s P w c = assigned_walk s P w dst 1 _
executed_walk context relay (i.Swap order size dst) s P w c = assigned_walk s P w dst 1 _
executed_walk context relay (i.LoadImmediate dst number) s P w c = assigned_walk s P w dst 2 (Ok (Number number))
executed_walk context relay (i.Jump distance) s P w c = arrived_walk s P w _
executed_walk context relay (i.LongJump distance) s P w c = arrived_walk s P w _
executed_walk context relay (i.Branch width condition dst operand distance) s P w c = branched_walk s P w distance _
executed_walk context relay (i.Load size dst base offset) s P w c = assigned_walk s P w dst 1 _
executed_walk context relay (i.LoadSigned part dst base offset) s P w c = assigned_walk s P w dst 1 _
executed_walk context relay (i.Store size base offset source) s P w c = w.stores (bytes_of size) (value_at s.registers base) offset (operand_value s.registers source)
executed_walk context relay (i.Call helper) s P w c = c _
executed_walk context relay i.Exit s P w c = exited_walk s P w _

fetched_walk : (context : List ℕ) (relay : Relay) (o : Option Insn) (s : State) (P : Outcome → Type 0) → Walks s P → ((h : Option Helper) → P (called context relay s h)) → P (fetched context relay o s)
fetched_walk context relay None s P w c = w.trapped NoInstruction
fetched_walk context relay (Some insn) s P w c = executed_walk context relay insn s P w c

-- P for the outcome of every step.
pub step_walk : (program : List Insn) (context : List ℕ) (relay : Relay) (s : State) (P : Outcome → Type 0) → Walks s P → ((h : Option Helper) → P (called context relay s h)) → P (step program context relay s)
unfolding step
step_walk program context relay s P w c = fetched_walk context relay (instruction_at program s.unit) s P w c
