-- Defines which file a name means, as an input or as an output. The contents of an open file are not known (own).
use Rattle.std.specs.Prelude.{ℕ, ◌≡◌, ◌≢◌, Bool, List, [], Option, None, Some, IfSome, codes, false}
use Rattle.std.specs.Io.Cursor.{cursor_inner, cursor_position, cursor_remaining}
use Rattle.campaign_schedules.specs.Seeded.{seeded}
use Rattle.cli_words.specs.Tasks.{file_of, second_of, seed_of, target_of}
use Rattle.cli_words.specs.declared.tasks.Task.{Task}
use Rattle.campaign_orders.specs.Text.{schedule_text}
use Rattle.cli_tasks.specs.Seen.{Sees, reads_scenario}
use Rattle.cli_tasks.specs.Story.{with_story}
use Rattle.byzlab.specs.declared.input.Opened.{Opened}
use Rattle.byzlab.specs.declared.input.Opened.TheVariants as input
use Rattle.byzlab.specs.declared.target.Named.{Named}
use Rattle.byzlab.specs.declared.target.Destination.{Destination}
use Rattle.byzlab.specs.declared.target.Destination.TheVariants as place

-- States which input a name means: standard input for a hyphen, and the file that was opened by the name for any other
-- name. If there is no input, the name is not a hyphen.
abbrev pub IsInputOf : {F S : Type 0} → List ℕ → Option (Opened F S) → Type 0
IsInputOf name (Some (input.Standard stdin)) = name ≡ codes "-"
IsInputOf name (Some (input.File file own)) = (name ≢ codes "-") × (own.now ≡ name)
IsInputOf name (Some (input.Text text)) = ⊥
IsInputOf name (Some input.Nothing) = ⊥
IsInputOf name None = name ≢ codes "-"

-- States that this is the input that a name means. If there is no name, the input has no bytes.
abbrev pub IsInputIf : {F S : Type 0} → Option (List ℕ) → Option (Opened F S) → Type 0
IsInputIf None (Some input.Nothing) = Unit {0}
IsInputIf None _ = ⊥
IsInputIf (Some name) opened = IsInputOf name opened

-- States that the input that a name means was opened. If there is no name, nothing is opened.
abbrev pub IsOpened : (F S : Type 0) → Option (List ℕ) → Type 0
IsOpened F S name = (file : Opened F S) × IsInputIf name (Some file)

-- States that the input is this text in memory, from its first byte on.
abbrev pub IsTextOf : {F S : Type 0} → List ℕ → Opened F S → Type 0
IsTextOf bytes (input.Text text) = ((cursor_inner text).items ≡ bytes) × (cursor_position text ≡ 0)
IsTextOf bytes _ = ⊥

-- States that the input is the text of a scenario with the contents of the files that it names. The scenario's own
-- bytes are `known`, and the contents of the files are `beside`, as far as they are known.
abbrev pub IsSeen : {F S : Type 0} → Bool → Option (List ℕ) → (List ℕ → Option (List ℕ)) → Task → Opened F S → Type 0
IsSeen no_files known beside task input = (own : List ℕ) × (bytes : List ℕ) × IfSome known (λ all. own ≡ all)
    × Sees no_files beside own bytes × IsTextOf (with_story task own bytes) input

-- States that the input is the random schedule of this seed. If there is no seed, there is no input.
abbrev pub IsSeededIf : {F S : Type 0} → Option ℕ → Option (Opened F S) → Type 0
IsSeededIf None None = Unit {0}
IsSeededIf None (Some file) = ⊥
IsSeededIf (Some seed) None = ⊥
IsSeededIf (Some seed) (Some file) = IsTextOf (schedule_text (seeded seed)) file

-- States that this is the second input of a task: the file with this name or, if there is no name, the random schedule
-- of this seed. If there is neither a name nor a seed, there is no input.
abbrev pub IsSecondIf : {F S : Type 0} → Option (List ℕ) → Option ℕ → Option (Opened F S) → Type 0
IsSecondIf None seed file = IsSeededIf seed file
IsSecondIf (Some name) seed None = ⊥
IsSecondIf (Some name) seed (Some file) = IsInputOf name (Some file)

-- Returns the bytes that an input still has. For a file and standard input they are what the functions return, if they
-- are known. For a text they are the bytes after the position of the cursor.
abbrev pub remaining_of : {F S : Type 0} → (F → Option (List ℕ)) → (S → Option (List ℕ)) → Opened F S → Option (List ℕ)
remaining_of of_file of_standard (input.File file name) = of_file file
remaining_of of_file of_standard (input.Standard stdin) = of_standard stdin
remaining_of of_file of_standard (input.Text text) = cursor_remaining (λ bytes. Some bytes.items) text
remaining_of of_file of_standard input.Nothing = Some []

-- States which output a name means: standard output for a hyphen or if there is no name, and for any other name the
-- file with this name, which is not created yet.
abbrev pub IsTargetOf : {S M : Type 0} → Option (List ℕ) → Destination S Named M → Type 0
IsTargetOf None (place.Standard stdout) = Unit {0}
IsTargetOf (Some name) (place.Standard stdout) = name ≡ codes "-"
IsTargetOf (Some name) (place.Unmade file) = (name ≢ codes "-") × (file.name.now ≡ name)
IsTargetOf _ _ = ⊥

-- States that a file that was not created yet is now created, and that any other output is unchanged.
abbrev pub IsMadeOf : {S U M : Type 0} → Destination S U M → Destination S U M → Type 0
IsMadeOf (place.Unmade unmade) (place.File file) = Unit {0}
IsMadeOf (place.Unmade unmade) _ = ⊥
IsMadeOf old new = new ≡ old

-- States that the output is open now: it is still standard output, or a file that is created.
abbrev pub IsPlaceOf : {S U M : Type 0} → Destination S U M → Destination S U M → Type 0
IsPlaceOf (place.Standard old) (place.Standard new) = Unit {0}
IsPlaceOf (place.Unmade unmade) (place.File new) = Unit {0}
IsPlaceOf (place.File old) (place.File new) = Unit {0}
IsPlaceOf _ _ = ⊥

-- Returns what an output contains, as far as the functions for the kinds of outputs know it.
abbrev pub contents_of : {S U M : Type 0} → (S → Option (List ℕ)) → (U → Option (List ℕ)) → (M → Option (List ℕ))
    → Destination S U M → Option (List ℕ)
contents_of of_standard of_unmade of_file (place.Standard stdout) = of_standard stdout
contents_of of_standard of_unmade of_file (place.Unmade unmade) = of_unmade unmade
contents_of of_standard of_unmade of_file (place.File file) = of_file file

-- States that a task was served with its own inputs and output. If its first file is a scenario, nothing is said about
-- that input here.
abbrev pub IsServedFor : {F S O M : Type 0} → Task → Opened F S → Option (Opened F S) → Destination O Named M → Type 0
IsServedFor task first second target = (reads_scenario task ≡ false → IsInputIf (file_of task) (Some first))
    × IsSecondIf (second_of task) (seed_of task) second × IsTargetOf (target_of task) target
