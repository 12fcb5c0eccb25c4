-- Defines what the verifier's pass over a program finds, by the functions of Judgement, and which results of the code
-- agree with it (own).
use Rattle.std.specs.Prelude.{ℕ, ◌≡◌, List, Option, Some, None, Box, Result, Ok, Err, length}
use Rattle.std.specs.declared.alloc.Global.{Global}
use Rattle.insn.specs.declared.insn.Insn.{Insn}
use Rattle.insn.specs.Program.{slots_of, instruction_at}
use Rattle.verify.specs.declared.error.VerifyError.{VerifyError}
use Rattle.verify.specs.declared.error.VerifyError.TheVariants.{At, Memory}
use Rattle.verify.specs.declared.reason.Reason.{Reason}
use Rattle.verify.specs.declared.state.AbsState.{AbsState}
use Rattle.verify.specs.Instructions.{reason_of}
use Rattle.verify.specs.Judgement.{KnownSoFar, reached_at, passed_to}
use Rattle.verify.specs.Kept.{AtHand}

-- ---- Results of the code

-- States that a step of the code agrees with the wanted result: it leaves what is wanted, or returns the wanted fault,
-- or runs out of memory where no fault is wanted.
abbrev pub Does : Result KnownSoFar VerifyError → Result (Unit {0}) VerifyError → KnownSoFar → Type 0
Does wanted (Ok u) reached = wanted ≡ Ok reached
Does wanted (Err Memory) reached = (left : KnownSoFar) × (wanted ≡ Ok left)
Does wanted (Err fault) reached = wanted ≡ Err fault

-- States that a step of the code agrees with the wanted result, if the code also takes out what is known at the unit
-- `next`. It leaves what is wanted, or returns the wanted fault, or runs out of memory where no fault is wanted.
abbrev pub Comes : Result KnownSoFar VerifyError → ℕ → Result (Option (Box AbsState Global)) VerifyError → KnownSoFar →
    Type 0
Comes wanted next (Ok hand) kept = (reached : KnownSoFar) × (wanted ≡ Ok reached) × AtHand reached next hand kept
Comes wanted next (Err Memory) kept = (left : KnownSoFar) × (wanted ≡ Ok left)
Comes wanted next (Err fault) kept = wanted ≡ Err fault

-- States that the code returns the wanted fault, or succeeds if none is wanted, or runs out of memory.
abbrev pub Answers : Option VerifyError → Result (Unit {0}) VerifyError → Type 0
Answers wanted (Ok u) = wanted ≡ None
Answers wanted (Err Memory) = Unit {0}
Answers wanted (Err fault) = wanted ≡ Some fault

-- ---- A program

-- States that the pass reaches the end, so that every instruction to which a path leads is accepted.
abbrev pub ComesThrough : List Insn → Type 0
ComesThrough program = (reached : KnownSoFar) × (passed_to program (length (slots_of program)) ≡ Ok reached)

-- Returns why the instruction at a unit is rejected, from what is known there, if it is.
abbrev pub reason_at : Option Insn → Option AbsState → Option Reason
reason_at None known = None
reason_at (Some i) None = None
reason_at (Some i) (Some a) = reason_of i a

-- States that the pass reaches this unit, and rejects the instruction there for this reason.
pub record IsStopped (program : List Insn) (unit : ℕ) (reason : Reason) : Type 0 where
  pub reached : KnownSoFar
  pub comes : passed_to program unit ≡ Ok reached
  pub stops : reason_at (instruction_at program unit) (reached_at reached unit) ≡ Some reason

-- States that this is the fault of the first instruction that is rejected.
abbrev pub IsFirstFault : List Insn → VerifyError → Type 0
IsFirstFault program fault = (unit : ℕ) × (reason : Reason) × IsStopped program unit reason × (fault ≡ At reason unit)
