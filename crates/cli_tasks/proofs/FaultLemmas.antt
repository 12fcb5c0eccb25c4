-- Lemmas about how a task ends whose file or output fails.
use Rattle.std.proofs.Common.{ℕ, ◌≡◌, ◌≢◌, ◌⊎◌, ◌++◌, List, [], ◌∷◌, arith, codes, inl, inr, refl, subst}
use Rattle.std.specs.Prelude.{Option, None, Some, IfSome, Result, Ok, Err, OnErr, OnOk}
use Rattle.std.specs.Fmt.{◌++?◌, with_newline}
use Rattle.std.specs.Io.KnownBytes.{Appends}
use Rattle.cli_words.specs.declared.tasks.Task.{Task}
use Rattle.cli_tasks.specs.declared.refusal.InputRefusal.{InputRefusal}
use Rattle.cli_tasks.specs.declared.refusal.InputRefusal.TheVariants as refusal
use Rattle.cli_tasks.specs.declared.failure.TaskFailure.{TaskFailure}
use Rattle.cli_tasks.specs.declared.failure.TaskFailure.TheVariants.{Read, Text, Refused, Write, Memory}
use Rattle.cli_tasks.specs.declared.first_answer.FirstAnswer.{FirstAnswer}
use Rattle.cli_tasks.specs.declared.hint.Hint.{Hint}
use Rattle.cli_tasks.specs.Hints.{hint_behind}
use Rattle.cli_tasks.specs.ErrorText.{refusal_text}
use Rattle.cli_tasks.specs.Whys.{is_explained}
use Rattle.cli_tasks.specs.Faults.{fault_text, status_of, Stops}
use Rattle.cli_tasks.specs.TaskFaults.{Undoes, Prevents}
use Rattle.streams.specs.Names.{shown}
use Rattle.cli_tasks.specs.Serving.{Files, IsFault, IsRefused, IsTaken, IsToldLater, IsTurnedDown, Tells, TellsName, TellsRefusal, first_name, second_name}

-- A write either failed, or wrote what it should.
pub written : {E : Type 0} (r : Result (Unit {0}) E) (P Q : Type 0) → OnOk r P → OnErr r Q → Q ⊎ P
written (Ok x) P Q p q = inr p
written (Err e) P Q p q = inl q

-- The text about a refusal fulfils `TellsRefusal`, unless the refusal is that a file is not UTF-8.
refusal_told : (name : List ℕ) (tells : List ℕ → Type 0) (cause : InputRefusal) (hint : Option Hint) → cause ≢ refusal.NotText
    → tells (codes "refused " ++ refusal_text cause ++ hint_behind hint) → TellsRefusal name tells cause hint
refusal_told name tells (refusal.Codec error) hint other told = told
refusal_told name tells (refusal.Object fault) hint other told = told
refusal_told name tells (refusal.Verifier fault) hint other told = told
refusal_told name tells (refusal.Assembly error) hint other told = told
refusal_told name tells (refusal.Table error) hint other told = told
refusal_told name tells (refusal.Scenario error) hint other told = told
refusal_told name tells (refusal.Setting error) hint other told = told
refusal_told name tells (refusal.Trace error) hint other told = told
refusal_told name tells (refusal.Threads error) hint other told = told
refusal_told name tells (refusal.Accesses fault) hint other told = told
refusal_told name tells refusal.Tolerated hint other told = told
refusal_told name tells (refusal.RuleCall unit) hint other told = told
refusal_told name tells (refusal.LongSearch steps) hint other told = told
refusal_told name tells refusal.LongScenario hint other told = told
refusal_told name tells (refusal.Stranger general generals) hint other told = told
refusal_told name tells refusal.NotText hint other told = absurd (other refl)
refusal_told name tells refusal.Memory hint other told = told

-- The line with some words and the name of a file is printed if it is known how the name is displayed.
named_line : (fails : Type 0) (old new : Option (List ℕ)) (words : List ℕ) (told : Option (List ℕ))
    → fails ⊎ IfSome (with_newline (Some words ++? told)) (Appends old new) → IfSome told (λ name. fails ⊎ Appends old new ((words ++ name) ++ 10 ∷ []))
named_line fails old new words None line = tt
named_line fails old new words (Some name) line = line

-- If a file stops a task and the exit status is 1, the error about the file is printed.
turned_down : (unread : Type 0) (refused : InputRefusal → Option Hint → Type 0) (name : List ℕ) (fails : Type 0) (old new : Option (List ℕ)) (fault : TaskFailure)
    → Stops unread refused name fault → fails ⊎ IfSome (with_newline (fault_text fault)) (Appends old new) → status_of fault ≡ 1
    → IsTurnedDown unread refused name (Tells fails old new)
turned_down unread refused name fails old new (Read file) why told one =
    let P : List ℕ → Type 0 = λ own. TellsName (Tells fails old new) (codes "fault read ") own in
    inl (why.0, subst P why.1 (named_line fails old new (codes "fault read ") (shown file.now) told))
turned_down unread refused name fails old new (Text file) why told one =
    let P : List ℕ → Type 0 = λ own. TellsName (Tells fails old new) (codes "fault text ") own in
    inr (refusal.NotText, (None, why.0, subst P why.1 (named_line fails old new (codes "fault text ") (shown file.now) told)))
turned_down unread refused name fails old new (Refused cause hint) why told one =
    inr (cause, (hint, why.1, refusal_told name (Tells fails old new) cause hint why.0 told))
turned_down unread refused name fails old new Write why told one = absurd why
turned_down unread refused name fails old new Memory why told one =
    let no : ⊥ = omega (arith, one) in absurd no

-- If the first or the second file stops a task and the exit status is 1, the error about this file is printed.
prevented : (unread second_unread fails : Type 0) (task : Task) (files : Files) (old new : Option (List ℕ)) (fault : TaskFailure)
    → Prevents unread second_unread task files fault → fails ⊎ IfSome (with_newline (fault_text fault)) (Appends old new) → status_of fault ≡ 1
    → IsTurnedDown unread (IsRefused task files.first) (first_name task) (Tells fails old new)
    ⊎ ((more : FirstAnswer) × IsTaken task files.first more × IsTurnedDown second_unread (IsToldLater (is_explained task) (second_name task) files.second more) (second_name task) (Tells fails old new))
prevented unread second_unread fails task files old new fault (inl why) told one =
    inl (turned_down unread (IsRefused task files.first) (first_name task) fails old new fault why told one)
prevented unread second_unread fails task files old new fault (inr (more, taken, why)) told one =
    inr (more, taken, turned_down second_unread (IsToldLater (is_explained task) (second_name task) files.second more) (second_name task) fails old new fault why told one)

-- If a task fails with exit status 1, the error is printed.
pub fault_ends : (unread second_unread unwritten fails : Type 0) (begun : List ℕ → Type 0) (task : Task) (files : Files) (old new : Option (List ℕ)) (kept : Type 0) (fault : TaskFailure)
    → Undoes unread second_unread unwritten begun task files fault → (fault ≢ Write → kept)
    → fails ⊎ IfSome (with_newline (fault_text fault)) (Appends old new) → status_of fault ≡ 1
    → IsFault unread second_unread unwritten begun task files kept (Tells fails old new)
fault_ends unread second_unread unwritten fails begun task files old new kept Write why same told one = inr (why.0, why.1, told)
fault_ends unread second_unread unwritten fails begun task files old new kept (Read file) why same told one =
    inl (same (λ e. cc), prevented unread second_unread fails task files old new (Read file) why told one)
fault_ends unread second_unread unwritten fails begun task files old new kept (Text file) why same told one =
    inl (same (λ e. cc), prevented unread second_unread fails task files old new (Text file) why told one)
fault_ends unread second_unread unwritten fails begun task files old new kept (Refused cause hint) why same told one =
    inl (same (λ e. cc), prevented unread second_unread fails task files old new (Refused cause hint) why told one)
fault_ends unread second_unread unwritten fails begun task files old new kept Memory why same told one =
    let no : ⊥ = omega (arith, one) in absurd no
