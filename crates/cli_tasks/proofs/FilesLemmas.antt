-- Lemmas about the two files of a task.
use Rattle.std.proofs.Common.{ℕ, ◌≡◌, ◌∙◌, List, [], ap, inr, refl, subst, sym}
use Rattle.std.specs.Borrow.{Bor}
use Rattle.std.specs.Prelude.{Bool, Option, None, Some, Ok, option_map, unwrap_or}
use Rattle.cli_words.specs.Tasks.{file_of, second_of}
use Rattle.cli_words.specs.declared.tasks.Task.{Task}
use Rattle.label.specs.declared.shape.Shape.{Shape}
use Rattle.world.specs.declared.schedule.Repeat.{Repeat}
use Rattle.trace.specs.Schedules.{schedule_told}
use Rattle.cli_tasks.specs.TaskAnswers.{ComesTo, GoesOn, IsUnfinished}
use Rattle.cli_tasks.specs.Whys.{is_explained}
use Rattle.cli_tasks.specs.TaskFaults.{Prevents}
use Rattle.cli_tasks.specs.Faults.{Stops}
use Rattle.cli_tasks.specs.Serving.{Files, IsAnswer, IsPlacedAnswer, IsScheduleOf, IsToldLater, first_name, second_name}
use Rattle.streams.specs.Reading.{AreBytes}
use Rattle.cli_tasks.specs.declared.failure.TaskFailure.{TaskFailure}
use Rattle.cli_tasks.specs.declared.first_answer.FirstAnswer.{FirstAnswer}
use Rattle.cli_tasks.specs.declared.first_answer.FirstAnswer.TheVariants as answer

-- A schedule that is read from the second file is the schedule in that file.
pub second_told : {R : Type 0} (bytes : R → Option (List ℕ)) (second : Option R) (own : R) (all : List ℕ) (schedule : List (List Repeat))
    → second ≡ Some own → AreBytes (bytes own) all → schedule_told all ≡ Ok schedule → IsScheduleOf (option_map bytes second) schedule
second_told {R} bytes second own all schedule is are told =
    subst (λ (o : Option R). IsScheduleOf (option_map bytes o) schedule) (sym is) (Some all, are, told)

-- ---- the result of a task on its first file

-- If the result is not the whole answer, the task needs it for its second file.
goes_on : (task : Task) (first : List ℕ) (more : FirstAnswer) → ComesTo task first more → IsUnfinished more → GoesOn task first more
goes_on task first (answer.Text text) comes unfinished = absurd unfinished
goes_on task first (answer.Bytes bytes) comes unfinished = absurd unfinished
goes_on task first (answer.Trial program told) comes unfinished = comes
goes_on task first (answer.Play c account explained) comes unfinished = comes
goes_on task first (answer.Muster c explained) comes unfinished = comes
goes_on task first (answer.Audit c explained) comes unfinished = comes
goes_on task first (answer.Draw c) comes unfinished = comes
goes_on task first (answer.DrawRecorded c) comes unfinished = comes
goes_on task first (answer.Page c text) comes unfinished = comes
goes_on task first (answer.PageRecorded c text) comes unfinished = comes
goes_on task first (answer.Retrace s) comes unfinished = comes

-- The text of an answer is an answer, whatever its relay is.
pub answer_there : (task : Task) (files : Files) (text : List ℕ) (place : Option Shape) → IsPlacedAnswer task files text place → IsAnswer task files text
answer_there task files text place is = (place, is)

-- If the first file is accepted, what stops the task later prevents its answer.
pub prevented_later : (task : Task) (files : Files) (unread second_unread : Type 0) (first name : List ℕ) (more : FirstAnswer) (fault : TaskFailure)
    → AreBytes files.first first → ComesTo task first more → name ≡ second_name task
    → IsUnfinished more × Stops second_unread (IsToldLater (is_explained task) name files.second more) name fault → Prevents unread second_unread task files fault
prevented_later task files unread second_unread first name more fault are comes named (unfinished, why) =
    inr (more, (first, are, goes_on task first more comes unfinished), subst (λ (n : List ℕ). Stops second_unread (IsToldLater (is_explained task) n files.second more) n fault) named why)

-- The same holds for an equal result on the first file.
pub told_later : (unread : Type 0) (explained own : Bool) (name : List ℕ) (known : Option (Option (List ℕ))) (more course : FirstAnswer) (fault : TaskFailure)
    → explained ≡ own → more ≡ course → IsUnfinished course → Stops unread (IsToldLater explained name known course) name fault
    → IsUnfinished more × Stops unread (IsToldLater own name known more) name fault
told_later unread explained own name known more course fault same is unfinished why =
    let asked : Stops unread (IsToldLater own name known course) name fault = subst (λ (e : Bool). Stops unread (IsToldLater e name known course) name fault) same why in
    subst (λ (m : FirstAnswer). IsUnfinished m × Stops unread (IsToldLater own name known m) name fault) (sym is) (unfinished, asked)

-- The name of the second file is empty if there is none.
unwrapped : (o : Option (Bor (List ℕ))) (empty : Bor (List ℕ)) → empty.now ≡ [] → (unwrap_or o empty).now ≡ unwrap_or (option_map (λ (file : Bor (List ℕ)). file.now) o) []
unwrapped None empty none = none
unwrapped (Some file) empty none = refl

pub second_named : (task : Task) (o : Option (Bor (List ℕ))) (result empty : Bor (List ℕ)) → option_map (λ (file : Bor (List ℕ)). file.now) o ≡ second_of task
    → result ≡ unwrap_or o empty → empty.now ≡ [] → result.now ≡ second_name task
second_named task o result empty told is none =
    ap (λ (file : Bor (List ℕ)). file.now) is ∙ (unwrapped o empty none ∙ ap (λ (second : Option (List ℕ)). unwrap_or second []) told)

-- The name of the first file is empty if the task reads none.
pub first_named : (task : Task) (o : Option (Bor (List ℕ))) (result empty : Bor (List ℕ)) → option_map (λ (file : Bor (List ℕ)). file.now) o ≡ file_of task
    → result ≡ unwrap_or o empty → empty.now ≡ [] → result.now ≡ first_name task
first_named task o result empty told is none =
    ap (λ (file : Bor (List ℕ)). file.now) is ∙ (unwrapped o empty none ∙ ap (λ (first : Option (List ℕ)). unwrap_or first []) told)
