-- Defines which files are written in addition to an answer, their names and contents, and which name is reported if a
-- file is not written (own).
use Rattle.std.specs.Prelude.{ℕ, suc, ◌≡◌, ◌≢◌, ◌≤◌, ◌⊎◌, ◌++◌, List, [], ◌∷◌, Option, Result, Some, Vec, IfOk, codes, decimal, map, string_bytes, ⊤}
use Rattle.std.specs.declared.io.ErrorKind.{ErrorKind}
use Rattle.std.specs.declared.io.ErrorKind.TheVariants.{OutOfMemory}
use Rattle.std.specs.Global.{Global}
use Rattle.streams.specs.Filling.{IsFilledBy, file_of}
use Rattle.streams.specs.declared.filled_file.Filled.{Filled}
use Rattle.cli_words.specs.declared.tasks.Task.{Task}
use Rattle.cli_words.specs.declared.tasks.Task.TheVariants.{Explore}
use Rattle.cli_words.specs.Tasks.{schedule_target_of, seed_of}
use Rattle.campaign_schedules.specs.Seeded.{seeded}
use Rattle.campaign_orders.specs.Text.{schedule_text}
use Rattle.cli_tasks.specs.Exploring.{KeepsOrders}
use Rattle.cli_tasks.specs.Refusals.{RefusesScenario, RefusesText}
use Rattle.cli_tasks.specs.declared.refusal.InputRefusal.{InputRefusal}
use Rattle.cli_tasks.specs.declared.refusal.InputRefusal.TheVariants as refusal
use Rattle.byzlab.specs.declared.kept_files.Unkept.{Unkept}
use Rattle.byzlab.specs.declared.kept_files.Unkept.TheVariants.{Memory, Unwritten}

-- States that the schedule of the task's seed was written to the file that the task names for it.
abbrev pub IsScheduleKept : {O : Type 0} → Task → Filled O → Type 0
IsScheduleKept task filled = (seed : ℕ) × (name : List ℕ) × (seed_of task ≡ Some seed)
    × (schedule_target_of task ≡ Some name) × IsFilledBy name (schedule_text (seeded seed)) filled

-- States that the error is that the file with this name cannot be written because of this kind of error, or that memory
-- ran out. The kind is not that memory ran out.
abbrev pub IsUnwritten : List ℕ → ErrorKind → Unkept → Type 0
IsUnwritten name kind (Unwritten told own) = (string_bytes told ≡ name) × (own ≡ kind) × (kind ≢ OutOfMemory)
IsUnwritten name kind Memory = ⊤

-- States that the error is that a file for whose name `P` holds cannot be written, or that memory ran out.
abbrev pub Tells : (List ℕ → Type 0) → Unkept → Type 0
Tells P (Unwritten told kind) = P (string_bytes told) × (kind ≢ OutOfMemory)
Tells P Memory = ⊤

-- Returns the name of the file with the schedule of outcome `number`, such as `FOLDER/outcome-1.schedule`.
abbrev pub schedule_name : List ℕ → ℕ → List ℕ
schedule_name folder number = folder ++ (codes "/outcome-" ++ (decimal number ++ codes ".schedule"))

-- Returns the name of the file with the scenario in a folder, `FOLDER/scenario.toml`.
abbrev pub scenario_name : List ℕ → List ℕ
scenario_name folder = folder ++ codes "/scenario.toml"

-- Returns the names and contents of the files for these schedules. The first one is of outcome `number`.
abbrev pub schedule_files : List ℕ → ℕ → List (List ℕ) → List (List ℕ × List ℕ)
schedule_files folder number [] = []
schedule_files folder number (schedule ∷ schedules) =
    (schedule_name folder number, schedule) ∷ schedule_files folder (suc number) schedules

-- Returns the names and contents of all files of an exploration that is kept in a folder.
abbrev pub kept_files : List ℕ → List ℕ → List (List ℕ) → List (List ℕ × List ℕ)
kept_files folder scenario schedules = (scenario_name folder, scenario) ∷ schedule_files folder 1 schedules

-- States that this is the name of the file with the schedule of one of `count` outcomes, which are numbered from 1.
abbrev pub IsScheduleIn : List ℕ → ℕ → List ℕ → Type 0
IsScheduleIn folder count name =
    (number : ℕ) × (1 ≤ number) × (number ≤ count) × (name ≡ schedule_name folder number)

-- States that this is the name of the folder, of the file with the scenario in it, or of a file with the schedule of an
-- outcome.
abbrev pub IsKeptIn : List ℕ → ℕ → List ℕ → Type 0
IsKeptIn folder count name =
    (name ≡ folder) ⊎ ((name ≡ scenario_name folder) ⊎ IsScheduleIn folder count name)

-- States that the task explores a campaign in at most `most` orders of its accesses, and keeps the exploration in this
-- folder.
abbrev pub KeepsIn : Task → Option ℕ → List ℕ → Type 0
KeepsIn (Explore scenario own (Some folder)) most name = (own ≡ most) × (string_bytes folder ≡ name)
KeepsIn _ most name = ⊥

-- States that the text describes the task's exploration of this scenario. If there is no error, the scenario and the
-- schedule of each outcome were written to the task's folder.
abbrev pub IsExplorationKept : {O : Type 0} → Task → List ℕ → List ℕ → Result (Vec (Filled O) Global) Unkept → Type 0
IsExplorationKept task scenario text kept = (most : Option ℕ) × (folder : List ℕ) × (schedules : List (List ℕ))
    × KeepsIn task most folder × KeepsOrders most scenario text schedules
    × IfOk kept (λ files. map file_of files.items ≡ kept_files folder scenario schedules)

-- States that the scenario is rejected, and not because memory ran out.
abbrev pub IsUnexplored : List ℕ → Type 0
IsUnexplored scenario = (why : InputRefusal) × (why ≢ refusal.Memory) × RefusesText RefusesScenario scenario why
