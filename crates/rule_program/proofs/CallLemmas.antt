-- A step asks the board only at a call, so a program without calls makes no request.
use Rattle.std.proofs.Common.{◌≡◌, ℕ, ℤ, pos, negsuc, ◌+◌, ◌<◌, ◌≤◌, List, Bool, true, false, length, refl, subst, ap, inl, inr, arith}
use Rattle.std.specs.Prelude.{Option, Some, None, Result, Ok, Err, if◌then◌else◌, ◌==◌, slice_set}
use Rattle.std.proofs.lemmas.Bool.{both_ways, cases_lt}
use Rattle.std.proofs.lemmas.Option.{slice_get_past}
use Rattle.insn.specs.declared.insn.Insn.{Insn}
use Rattle.insn.specs.declared.insn.Insn.TheVariants as i
use Rattle.insn.specs.Program.{instruction_at, joined, slots_of}
use Rattle.semantics.specs.Relay.{Relay}
use Rattle.semantics.specs.declared.value.Value.{Value}
use Rattle.semantics.specs.declared.value.Value.TheVariants.{Number}
use Rattle.semantics.specs.declared.request.Request.{Request}
use Rattle.semantics.specs.State.{Cause, FrameWrite, State, Outcome, Next, Ask, Exit, Trap}
use Rattle.semantics.specs.Step.{assigned, arrived, branched, exited}
use Rattle.semantics.specs.Execution.{executed, fetched, step}
use Rattle.semantics.proofs.Walk.{called_walk, changed_walk}
use Rattle.rule_program.specs.Calls.{has_call, is_call_at}

-- States that the instruction is a call if its outcome is a request.
abbrev AsksAt : Option Insn → Outcome → Type 0
AsksAt found (Next t) = Unit {0}
AsksAt found (Ask request t) = has_call found ≡ true
AsksAt found (Exit r0 t) = Unit {0}
AsksAt found (Trap cause) = Unit {0}

assigned_asks : (found : Option Insn) (s : State) (dst units : ℕ) (r : Result Value Cause) → AsksAt found (assigned s dst units r)
assigned_asks found s dst units (Err cause) = tt
assigned_asks found s dst units (Ok value) = by (dst == 10)
  where
    by : (b : Bool) → AsksAt found (if b then Trap FrameWrite else Next (record s { unit = s.unit + units; registers = slice_set s.registers dst value; steps = s.steps + 1 }))
    by true = tt
    by false = tt

arrived_asks : (found : Option Insn) (s : State) (z : ℤ) → AsksAt found (arrived s z)
arrived_asks found s (pos unit) = tt
arrived_asks found s (negsuc unit) = tt

branched_asks : (found : Option Insn) (s : State) (distance : ℤ) (r : Result Bool Cause) → AsksAt found (branched s distance r)
branched_asks found s distance (Err cause) = tt
branched_asks found s distance (Ok true) = arrived_asks found s _
branched_asks found s distance (Ok false) = tt

exited_asks : (found : Option Insn) (s : State) (r : Result ℕ Cause) → AsksAt found (exited s r)
exited_asks found s (Err cause) = tt
exited_asks found s (Ok n) = tt

executed_asks : (context : List ℕ) (relay : Relay) (insn : Insn) (s : State) → AsksAt (Some insn) (executed context relay insn s)
executed_asks context relay (i.Arithmetic width operation dst operand) s = assigned_asks (Some (i.Arithmetic width operation dst operand)) s dst 1 _
executed_asks context relay (i.Negate width dst) s = assigned_asks (Some (i.Negate width dst)) s dst 1 _
executed_asks context relay (i.SignExtend width part dst src) s = assigned_asks (Some (i.SignExtend width part dst src)) s dst 1 _
executed_asks context relay (i.Swap order size dst) s = assigned_asks (Some (i.Swap order size dst)) s dst 1 _
executed_asks context relay (i.LoadImmediate dst number) s = assigned_asks (Some (i.LoadImmediate dst number)) s dst 2 (Ok (Number number))
executed_asks context relay (i.Jump distance) s = arrived_asks (Some (i.Jump distance)) s _
executed_asks context relay (i.LongJump distance) s = arrived_asks (Some (i.LongJump distance)) s _
executed_asks context relay (i.Branch width condition dst operand distance) s = branched_asks (Some (i.Branch width condition dst operand distance)) s distance _
executed_asks context relay (i.Load size dst base offset) s = assigned_asks (Some (i.Load size dst base offset)) s dst 1 _
executed_asks context relay (i.LoadSigned part dst base offset) s = assigned_asks (Some (i.LoadSigned part dst base offset)) s dst 1 _
executed_asks context relay (i.Store size base offset source) s =
    changed_walk s (AsksAt (Some (i.Store size base offset source))) (λ cause. tt) (λ cells. tt) _
executed_asks context relay (i.Call helper) s =
    called_walk context relay s (AsksAt (Some (i.Call helper)))
    (record { trapped = λ cause. tt; asks = λ request. refl; puts = λ r0 choice. tt; enters = λ r0 entry. tt }) _
executed_asks context relay i.Exit s = exited_asks (Some i.Exit) s _

fetched_asks : (context : List ℕ) (relay : Relay) (found : Option Insn) (s : State) → AsksAt found (fetched context relay found s)
fetched_asks context relay None s = tt
fetched_asks context relay (Some insn) s = executed_asks context relay insn s

step_asks : (program : List Insn) (context : List ℕ) (relay : Relay) (s : State) → AsksAt (instruction_at program s.unit) (step program context relay s)
unfolding step
step_asks program context relay s = fetched_asks context relay (instruction_at program s.unit) s

-- Proves that a program without calls makes no request.
pub no_request : (program : List Insn) (context : List ℕ) (relay : Relay) (s t : State) (request : Request) → ((unit : ℕ) → is_call_at program unit ≡ false) → step program context relay s ≡ Ask request t → ⊥
no_request program context relay s t request callless e =
    both_ways (is_call_at program s.unit) (callless s.unit)
    (subst (λ (o : Outcome). AsksAt (instruction_at program s.unit) o) e (step_asks program context relay s))

-- Proves that no call starts past the end of a program.
pub no_call_past : (program : List Insn) (unit : ℕ) → length (slots_of program) ≤ unit → is_call_at program unit ≡ false
no_call_past program unit past = ap (λ (slot : Option (Option Insn)). has_call (joined slot)) (slice_get_past (slots_of program) unit past)

-- Proves that a program has no call if none starts at its units.
pub callless_from : (program : List Insn) (units : ℕ) → length (slots_of program) ≤ units → ((unit : ℕ) → unit < units → is_call_at program unit ≡ false) → (unit : ℕ) → is_call_at program unit ≡ false
callless_from program units all below unit = elim (cases_lt unit units) [
  | inl inside ↦ below unit inside
  | inr past ↦ no_call_past program unit (omega arith)
]

-- Proves that a program that equals one without calls has no call.
pub callless_same : (own program : List Insn) → own ≡ program → ((unit : ℕ) → is_call_at own unit ≡ false) → (unit : ℕ) → is_call_at program unit ≡ false
callless_same own program same none = subst (λ (p : List Insn). (unit : ℕ) → is_call_at p unit ≡ false) same none
