-- Defines which tasks would write over a file that they read (own).
use Rattle.std.specs.Prelude.{ℕ, ◌&&◌, ◌||◌, Bool, false, List, Option, None, Some, codes, not}
use Rattle.std.specs.Str.{bytes_eq}
use Rattle.cli_words.specs.Tasks.{file_of, schedule_target_of, second_of, target_of}
use Rattle.cli_words.specs.declared.tasks.Task.{Task}

-- Checks whether a task that writes the first file and reads the second one uses the same name for both. A hyphen is no
-- file.
abbrev pub is_same_name : Option (List ℕ) → Option (List ℕ) → Bool
is_same_name (Some target) (Some name) = bytes_eq target name && not (bytes_eq target (codes "-"))
is_same_name target name = false

-- Checks whether the task also reads the file `target` that it writes, by the same name.
abbrev pub is_read : Task → Option (List ℕ) → Bool
is_read task target = is_same_name target (file_of task) || is_same_name target (second_of task)

-- Checks whether the task reads a file by the same name by which it writes its answer or its schedule.
abbrev pub overwrites : Task → Bool
overwrites task = is_read task (target_of task) || is_read task (schedule_target_of task)

-- The sentence that is reported for a file that a task would both write and read.
abbrev pub advice : List ℕ
advice = codes "this file is also read, and would be lost: write to another one"
