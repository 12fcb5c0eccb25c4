-- What the threads of a muster report (own).
use Rattle.std.specs.Prelude.{ℕ, ◌≡◌, List, Option, Some, None, Result, Ok, Err, IsSortedByKey}
use Rattle.std.specs.Ordering.{nat_cmp}
use Rattle.threads.specs.Outcomes.{HasBegun}
use Rattle.threads.specs.declared.failure.Failure.{Failure}
use Rattle.threads.specs.declared.failure.Failure.TheVariants.{Memory, Foreign, Returned}
use Rattle.threads.specs.declared.general_end.GeneralEnd.{GeneralEnd}
use Rattle.threads.specs.declared.halt.Halt.{Halt}
use Rattle.threads.specs.declared.halt.Halt.TheVariants.{Strayed}
use Rattle.threads.specs.declared.resident.Answer.{Answer}
use Rattle.threads.specs.declared.tally.Reported.{Reported}

-- States that the failure is this general's own: the task of another that he was given, or the letter of his that the
-- post returned.
abbrev pub IsFailureOf : ℕ → Failure → Type 0
IsFailureOf g Memory = Unit {0}
IsFailureOf g (Foreign task) = task.general ≡ g
IsFailureOf g (Returned letter) = letter.general ≡ g

-- States that, if the rounds stopped because the letters taken were not those of their round, it was this round.
abbrev pub HasStrayedIn : ℕ → Halt → Type 0
HasStrayedIn round (Strayed letters) = letters.round ≡ round
HasStrayedIn round halt = Unit {0}

abbrev pub failure_in : {T : Type 0} → Result T Reported → Option Failure
failure_in (Ok well) = None
failure_in (Err reported) = Some reported.failed.failure

-- Returns how the thread that returned this answer has ended.
abbrev pub end_of : Answer → GeneralEnd
end_of answer = record { general = answer.general; failure = failure_in answer.ended }

-- Returns what halted the thread with this result, or `None` if nothing did.
abbrev pub halt_of : {T : Type 0} → Result T Halt → Option Halt
halt_of (Ok well) = None
halt_of (Err halt) = Some halt

-- States that the ends are ordered by general, ascending.
abbrev pub AreAscending : List GeneralEnd → Type 0
AreAscending ends = IsSortedByKey (λ (end : GeneralEnd). end.general) nat_cmp ends

-- States that the thread with this result was not halted before all threads were started.
abbrev pub HasAllStarted : {T : Type 0} → Result T Halt → Type 0
HasAllStarted outcome = HasBegun (halt_of outcome)
