-- Defines the verifier as a function from a program to its first fault, if it has one. It passes the units in order,
-- and adds what is known along each edge to what is known where the edge leads (own).
use Rattle.std.specs.Prelude.{ℕ, zero, suc, pos, negsuc, List, [], ◌∷◌, Option, Some, None, Result, Ok, Err, length, replicate, slice_index_or, slice_set}
use Rattle.insn.specs.declared.insn.Insn.{Insn}
use Rattle.insn.specs.Program.{slots_of, instruction_at}
use Rattle.verify.specs.declared.error.VerifyError.{VerifyError}
use Rattle.verify.specs.declared.reason.Reason.{Reason}
use Rattle.verify.specs.declared.state.AbsState.{AbsState}
use Rattle.verify.specs.declared.error.VerifyError.TheVariants.{At}
use Rattle.verify.specs.Structure.{structural_fault}
use Rattle.verify.specs.Instructions.{reason_of}
use Rattle.verify.specs.Knowledge.{at_entry, met}
use Rattle.verify.specs.Transfer.{Edge, edges}

-- What is known so far at each unit, or `None` where no path leads so far.
abbrev pub KnownSoFar : Type 0
KnownSoFar = List (Option AbsState)

-- Returns what is known so far at a unit.
abbrev pub reached_at : KnownSoFar → ℕ → Option AbsState
reached_at reached unit = slice_index_or reached unit None

-- Returns what is known at a unit after one more path leads there: the join with what was known from earlier paths.
abbrev pub joined_with : Option AbsState → AbsState → AbsState
joined_with None a = a
joined_with (Some before) a = met a before

-- Adds what is known along an edge to what is known at the unit to which it leads.
abbrev pub along : Edge → KnownSoFar → KnownSoFar
along (pos unit, a) reached = slice_set reached unit (Some (joined_with (reached_at reached unit) a))
along (negsuc n, a) reached = reached

-- Adds what is known along each edge of a list, in order.
abbrev pub along_all : List Edge → KnownSoFar → KnownSoFar
along_all [] reached = reached
along_all (e ∷ es) reached = along_all es (along e reached)

-- Returns what is known, or the fault at the unit if there is a reason.
abbrev pub settled : Option Reason → ℕ → KnownSoFar → Result KnownSoFar VerifyError
settled None unit reached = Ok reached
settled (Some reason) unit reached = Err (At reason unit)

-- Passes the instruction `i`, where `a` is known: adds what is known along its edges, or returns its fault.
abbrev pub followed : ℕ → Insn → AbsState → KnownSoFar → Result KnownSoFar VerifyError
followed unit i a reached = settled (reason_of i a) unit (along_all (edges i unit a) reached)

-- Passes a unit, and removes what was known there. Does nothing if no instruction starts there or no path leads there.
abbrev pub passed_at : ℕ → Option Insn → Option AbsState → KnownSoFar → Result KnownSoFar VerifyError
passed_at unit None known reached = Ok reached
passed_at unit (Some i) None reached = Ok reached
passed_at unit (Some i) (Some a) reached = followed unit i a (slice_set reached unit None)

-- Passes the unit, unless a fault has already been found.
abbrev pub passed_on : List Insn → ℕ → Result KnownSoFar VerifyError → Result KnownSoFar VerifyError
passed_on program unit (Err fault) = Err fault
passed_on program unit (Ok reached) = passed_at unit (instruction_at program unit) (reached_at reached unit) reached

-- Returns what is known at the units from `unit` on, after those before it are passed in order, or the first fault.
unfoldable pub passed_to : List Insn → ℕ → Result KnownSoFar VerifyError
passed_to program zero = Ok (along (pos 0, at_entry) (replicate (length (slots_of program)) None))
passed_to program (suc unit) = passed_on program unit (passed_to program unit)

-- Returns the fault of the structure if there is one, and otherwise the fault of the pass.
abbrev pub first_of : Option VerifyError → Result KnownSoFar VerifyError → Option VerifyError
first_of (Some fault) answer = Some fault
first_of None (Err fault) = Some fault
first_of None (Ok reached) = None

-- Returns the first fault of a program, or `None` if the program is accepted.
unfoldable pub judged : List Insn → Option VerifyError
judged program = first_of (structural_fault program) (passed_to program (length (slots_of program)))
