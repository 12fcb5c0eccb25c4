-- A step exits exactly at an exit instruction, with the number in r0.
use Rattle.std.proofs.Common.{◌≡◌, ℕ, ℤ, pos, negsuc, List, Bool, true, false, refl, subst, ap}
use Rattle.std.specs.Prelude.{Option, Some, None, Result, Ok, Err, if◌then◌else◌, ◌==◌, slice_set, ◌+◌}
use Rattle.insn.specs.declared.insn.Insn.{Insn}
use Rattle.insn.specs.declared.insn.Insn.TheVariants as i
use Rattle.insn.specs.Program.{instruction_at}
use Rattle.semantics.specs.Relay.{Relay}
use Rattle.semantics.specs.declared.value.Value.{Value}
use Rattle.semantics.specs.declared.value.Value.TheVariants.{Unset, Number, Pointer}
use Rattle.semantics.specs.State.{Cause, FrameWrite, State, Outcome, Next, Ask, Exit, Trap, value_at}
use Rattle.semantics.specs.Step.{assigned, arrived, branched, exited, number_of}
use Rattle.semantics.specs.Execution.{executed, fetched, step}
use Rattle.semantics.proofs.Walk.{called_walk, changed_walk}

abbrev AtExit : Insn → State → Outcome → Type 0
AtExit insn s (Next t) = Unit {0}
AtExit insn s (Ask request t) = Unit {0}
AtExit insn s (Exit r0 t) = (insn ≡ i.Exit) × (value_at s.registers 0 ≡ Number r0)
AtExit insn s (Trap cause) = Unit {0}

assigned_exit : (insn : Insn) (s : State) (dst units : ℕ) (r : Result Value Cause) → AtExit insn s (assigned s dst units r)
assigned_exit insn s dst units (Err cause) = tt
assigned_exit insn s dst units (Ok value) = by (dst == 10)
  where
    by : (b : Bool) → AtExit insn s (if b then Trap FrameWrite else Next (record s { unit = s.unit + units; registers = slice_set s.registers dst value; steps = s.steps + 1 }))
    by true = tt
    by false = tt

arrived_exit : (insn : Insn) (s : State) (z : ℤ) → AtExit insn s (arrived s z)
arrived_exit insn s (pos unit) = tt
arrived_exit insn s (negsuc unit) = tt

branched_exit : (insn : Insn) (s : State) (distance : ℤ) (r : Result Bool Cause) → AtExit insn s (branched s distance r)
branched_exit insn s distance (Err cause) = tt
branched_exit insn s distance (Ok true) = arrived_exit insn s _
branched_exit insn s distance (Ok false) = tt

exited_exit : (s : State) (v : Value) → value_at s.registers 0 ≡ v → AtExit i.Exit s (exited s (number_of v))
exited_exit s Unset e = tt
exited_exit s (Number n) e = (refl, e)
exited_exit s (Pointer region offset) e = tt

executed_exit : (context : List ℕ) (relay : Relay) (insn : Insn) (s : State) → AtExit insn s (executed context relay insn s)
executed_exit context relay (i.Arithmetic width operation dst operand) s = assigned_exit (i.Arithmetic width operation dst operand) s dst 1 _
executed_exit context relay (i.Negate width dst) s = assigned_exit (i.Negate width dst) s dst 1 _
executed_exit context relay (i.SignExtend width part dst src) s = assigned_exit (i.SignExtend width part dst src) s dst 1 _
executed_exit context relay (i.Swap order size dst) s = assigned_exit (i.Swap order size dst) s dst 1 _
executed_exit context relay (i.LoadImmediate dst number) s = assigned_exit (i.LoadImmediate dst number) s dst 2 (Ok (Number number))
executed_exit context relay (i.Jump distance) s = arrived_exit (i.Jump distance) s _
executed_exit context relay (i.LongJump distance) s = arrived_exit (i.LongJump distance) s _
executed_exit context relay (i.Branch width condition dst operand distance) s = branched_exit (i.Branch width condition dst operand distance) s distance _
executed_exit context relay (i.Load size dst base offset) s = assigned_exit (i.Load size dst base offset) s dst 1 _
executed_exit context relay (i.LoadSigned part dst base offset) s = assigned_exit (i.LoadSigned part dst base offset) s dst 1 _
executed_exit context relay (i.Store size base offset source) s =
    changed_walk s (AtExit (i.Store size base offset source) s) (λ cause. tt) (λ cells. tt) _
executed_exit context relay (i.Call helper) s =
    called_walk context relay s (AtExit (i.Call helper) s)
    (record { trapped = λ cause. tt; asks = λ request. tt; puts = λ r0 choice. tt; enters = λ r0 entry. tt }) _
executed_exit context relay i.Exit s = exited_exit s (value_at s.registers 0) refl

-- States what is known of the instruction at a state's unit if its step does not trap.
abbrev pub Standing : Option Insn → State → Outcome → Type 0
Standing o s (Next t) = (insn : Insn) × (o ≡ Some insn)
Standing o s (Ask request t) = (insn : Insn) × (o ≡ Some insn)
Standing o s (Exit r0 t) = (o ≡ Some i.Exit) × (value_at s.registers 0 ≡ Number r0)
Standing o s (Trap cause) = Unit {0}

at_stands : (insn : Insn) (s : State) (o : Outcome) → AtExit insn s o → Standing (Some insn) s o
at_stands insn s (Next t) h = (insn, refl)
at_stands insn s (Ask request t) h = (insn, refl)
at_stands insn s (Exit r0 t) (e, held) = (ap Some e, held)
at_stands insn s (Trap cause) h = tt

fetched_stands : (context : List ℕ) (relay : Relay) (found : Option Insn) (s : State) (o : Outcome) → fetched context relay found s ≡ o → Standing found s o
fetched_stands context relay None s o e = subst (λ (x : Outcome). Standing None s x) e tt
fetched_stands context relay (Some insn) s o e =
    subst (λ (x : Outcome). Standing (Some insn) s x) e (at_stands insn s (executed context relay insn s) (executed_exit context relay insn s))

pub stands : (program : List Insn) (context : List ℕ) (relay : Relay) (s : State) (o : Outcome) → step program context relay s ≡ o → Standing (instruction_at program s.unit) s o
unfolding step
stands program context relay s o e = fetched_stands context relay (instruction_at program s.unit) s o e
