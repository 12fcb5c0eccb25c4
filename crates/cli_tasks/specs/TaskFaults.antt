-- Defines why a task fails: because of a file, its threads or the output.
use Rattle.std.specs.Prelude.{ℕ, ◌⊎◌, List, Option}
use Rattle.cli_words.specs.declared.tasks.Task.{Task}
use Rattle.cli_tasks.specs.declared.first_answer.FirstAnswer.{FirstAnswer}
use Rattle.cli_tasks.specs.declared.failure.TaskFailure.{TaskFailure}
use Rattle.cli_tasks.specs.declared.failure.TaskFailure.TheVariants.{Write}
use Rattle.cli_tasks.specs.Whys.{is_explained}
use Rattle.cli_tasks.specs.Serving.{Files, HasAnswer, IsRefused, IsTaken, IsToldLater, first_name, second_name}
use Rattle.streams.specs.Reading.{AreBytes}
use Rattle.cli_tasks.specs.Faults.{Stops}

-- States why a first file with these bytes stops a task: it is rejected, or memory ran out. The file could be read.
abbrev pub StopsFirst : Task → List ℕ → TaskFailure → Type 0
StopsFirst task bytes fault =
    (known : Option (List ℕ)) → AreBytes known bytes → Stops ⊥ (IsRefused task known) (first_name task) fault

-- States why a task has no answer: because of its first file, or because of its second file or the run with threads
-- after the first file is accepted.
abbrev pub Prevents : Type 0 → Type 0 → Task → Files → TaskFailure → Type 0
Prevents unread second_unread task files fault =
    Stops unread (IsRefused task files.first) (first_name task) fault
    ⊎ ((more : FirstAnswer) × IsTaken task files.first more
    × Stops second_unread (IsToldLater (is_explained task) (second_name task) files.second more)
    (second_name task) fault)

-- States why a task fails: it has no answer, or the output failed. If the output failed, `begun` says which part of the
-- answer was written.
abbrev pub Undoes : Type 0 → Type 0 → Type 0 → (List ℕ → Type 0) → Task → Files → TaskFailure → Type 0
Undoes unread second_unread unwritten begun task files Write = unwritten × HasAnswer begun task files
Undoes unread second_unread unwritten begun task files fault = Prevents unread second_unread task files fault
