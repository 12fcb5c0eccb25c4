-- Which error a muster returns, depending on how its threads have ended (own).
use Rattle.std.specs.Prelude.{ℕ, ◌≡◌, List, [], length, IsSortedByKey, Option, Some, None, map, option_map, is_some, find, IsSomeAnd}
use Rattle.std.specs.Option.{option_flatten}
use Rattle.std.specs.Ordering.{nat_cmp}
use Rattle.board.specs.Ledger.{RecordedBoard}
use Rattle.round.specs.Origin.{AreLettersOf}
use Rattle.round.specs.Scenario.{Scenario}
use Rattle.world.specs.Kind.{Kind}
use Rattle.world.specs.KindAccounted.{AreAccounted}
use Rattle.threads.specs.declared.error.MusterError.{MusterError}
use Rattle.threads.specs.declared.error.MusterError.TheVariants as errors
use Rattle.threads.specs.declared.failure.Failure.{Failure}
use Rattle.threads.specs.declared.failure.Failure.TheVariants as failures
use Rattle.threads.specs.declared.general_end.GeneralEnd.{GeneralEnd}
use Rattle.threads.specs.declared.halt.Halt.{Halt}
use Rattle.threads.specs.declared.halt.Halt.TheVariants.{Unprepared, Unstarted, Memory, Failed, Strayed, Unlike}
use Rattle.threads.specs.declared.outcomes.Outcomes.{Outcomes}

-- Returns the error that a muster reports for this failure of a general.
abbrev pub failure_as : Failure → MusterError
failure_as failures.Memory = errors.Memory
failure_as (failures.Foreign task) = errors.Unaccounted
failure_as (failures.Returned letter) = errors.Post

-- Returns the error that a muster reports if this halted it and no general has failed.
abbrev pub halt_as : Halt → MusterError
halt_as Unprepared = errors.Memory
halt_as (Unstarted thread) = errors.Spawn
halt_as Memory = errors.Memory
halt_as (Failed someone) = errors.Unaccounted
halt_as (Strayed letters) = errors.Unaccounted
halt_as (Unlike found) = errors.Unaccounted

-- Returns the error that a muster reports: M3 if a thread was not started, otherwise the error for the failure of the
-- lowest general who failed, otherwise the error for what halted the calling thread.
abbrev pub error_by : Option Halt → Option Failure → Option MusterError
error_by (Some (Unstarted thread)) lowest = Some errors.Spawn
error_by halt (Some failure) = Some (failure_as failure)
error_by halt None = option_map halt_as halt

-- Returns the first failure in a list, or `None` if there is none. If the list is ordered by general, it is the failure
-- of the lowest general who failed.
abbrev pub first_failure : {E : Type 0} → List (Option E) → Option E
first_failure failures = option_flatten (find (λ failure. is_some failure) failures)

-- Returns why the lowest general who failed has failed, or `None` if no general has failed.
abbrev pub lowest_failure : Outcomes → Option Failure
lowest_failure o = first_failure (map (λ end. end.failure) o.generals.items)

-- States that a general has failed because an allocation failed.
abbrev pub IsRefused : Failure → Type 0
IsRefused failures.Memory = Unit {0}
IsRefused failure = ⊥

-- States that a general has failed because he was given another general's task.
abbrev pub IsForeign : Failure → Type 0
IsForeign (failures.Foreign task) = Unit {0}
IsForeign failure = ⊥

-- States that a general has failed because the post had no room for his letter.
abbrev pub IsReturned : Failure → Type 0
IsReturned (failures.Returned letter) = Unit {0}
IsReturned failure = ⊥

-- States that the calling thread was halted because a general's thread could not be started.
abbrev pub IsUnstarted : Halt → Type 0
IsUnstarted (Unstarted thread) = Unit {0}
IsUnstarted halt = ⊥

-- States that the calling thread was halted because an allocation failed.
abbrev pub IsOutOfMemory : Halt → Type 0
IsOutOfMemory Unprepared = Unit {0}
IsOutOfMemory Memory = Unit {0}
IsOutOfMemory halt = ⊥

-- States that the calling thread was halted because letters were missing, were not those of their round, or were not
-- accounted for by the board.
abbrev pub IsUnfit : Halt → Type 0
IsUnfit (Failed someone) = Unit {0}
IsUnfit (Strayed letters) = Unit {0}
IsUnfit (Unlike found) = Unit {0}
IsUnfit halt = ⊥

-- States that all threads were started, and that `IsHis` holds for the failure of the lowest general who failed or, if
-- no general has failed, `IsCallers` for what halted the calling thread.
abbrev pub IsDecidedBy : (Failure → Type 0) → (Halt → Type 0) → Option Halt → Option Failure → Type 0
IsDecidedBy IsHis IsCallers halt (Some failure) = (¬ IsSomeAnd halt IsUnstarted) × IsHis failure
IsDecidedBy IsHis IsCallers halt None = IsSomeAnd halt IsCallers

-- States when a muster reports M1: an allocation failed.
abbrev pub LacksMemory : Outcomes → Type 0
LacksMemory o = IsDecidedBy IsRefused IsOutOfMemory o.halt (lowest_failure o)

-- States when a muster reports M2: the letters, the tasks and the board do not fit together.
abbrev pub LacksAccount : Outcomes → Type 0
LacksAccount o = IsDecidedBy IsForeign IsUnfit o.halt (lowest_failure o)

-- States when a muster reports M3: a general's thread could not be started, whatever else has failed.
abbrev pub LacksThread : Outcomes → Type 0
LacksThread o = IsSomeAnd o.halt IsUnstarted

-- States when a muster reports M4: the post had no room for a letter of the lowest general who failed.
abbrev pub LacksRoom : Outcomes → Type 0
LacksRoom o = IsDecidedBy IsReturned (λ halt. ⊥) o.halt (lowest_failure o)

-- States that a muster with these outcomes reports this error.
abbrev pub IsErrorFor : Outcomes → MusterError → Type 0
IsErrorFor o errors.Memory = LacksMemory o
IsErrorFor o errors.Unaccounted = LacksAccount o
IsErrorFor o errors.Spawn = LacksThread o
IsErrorFor o errors.Post = LacksRoom o

-- States that a general's thread was started for each general, if the calling thread was not halted before.
abbrev pub HasBegun : Option Halt → Type 0
HasBegun (Some Unprepared) = ⊥
HasBegun (Some (Unstarted thread)) = ⊥
HasBegun halt = Unit {0}

-- States that the thread of each of `n` generals has ended, if all were started, and that their ends are ascending by
-- general.
pub record HasAnEndForEach (n : ℕ) (o : Outcomes) : Type 0 where
  pub all : HasBegun o.halt → length o.generals.items ≡ n
  pub ascending : IsSortedByKey (λ (end : GeneralEnd). end.general) nat_cmp o.generals.items

-- States that, if the board does not account for the letters, `Is` holds for this board.
abbrev pub IfUnlike : Halt → (RecordedBoard → Type 0) → Type 0
IfUnlike (Unlike found) Is = Is found.board.value
IfUnlike halt Is = Unit {0}

-- States that what halted the calling thread is about this campaign: the strayed letters are not one of their round for
-- each general, or the board with the scenario's words does not account for the letters.
abbrev pub IsHaltOf : Kind → Scenario → Halt → Type 0
IsHaltOf K s (Strayed found) = ¬ AreLettersOf s found.round found.letters.value.items
IsHaltOf K s (Unlike found) = (found.board.value.opening ≡ s.board)
    × (¬ AreAccounted K s [] found.board.value.ledger found.rounds.value.items)
IsHaltOf K s halt = Unit {0}
