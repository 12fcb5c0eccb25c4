-- Defines what is read as a scenario that names files: its text with the content of these files in place of their names
-- (own).
use Rattle.std.specs.Prelude.{ℕ, ◌≡◌, ◌⊎◌, Bool, true, false, List, [], Option, unwrap_or}
use Rattle.std.specs.Str.{IsUtf8}
use Rattle.std.specs.List.{AllZip}
use Rattle.toml.specs.Data.{Members}
use Rattle.toml.specs.Parse.{parse_document}
use Rattle.cli_words.specs.declared.tasks.Task.{Task}
use Rattle.cli_words.specs.declared.tasks.Task.TheVariants.{Play, Muster, Audit, Explore, Tree, Draw, Page, Retrace}
use Rattle.scenario.specs.ReferenceNames.{File}
use Rattle.scenario.specs.Resolved.{Resolves}
use Rattle.scenario.specs.Asking.{Asked, asked}
use Rattle.cli_tasks.specs.Taken.{IsBeside}

-- Checks whether the task's first file is a scenario or, for `tree`, may be one.
abbrev pub reads_scenario : Task → Bool
reads_scenario (Play scenario schedule account explained) = true
reads_scenario (Muster scenario explained) = true
reads_scenario (Audit scenario chronicle explained) = true
reads_scenario (Explore scenario most folder) = true
reads_scenario (Tree file general traitors drawing depth folded) = true
reads_scenario (Draw scenario course) = true
reads_scenario (Page scenario course target) = true
reads_scenario (Retrace scenario chronicle) = true
reads_scenario _ = false

-- Returns the files that a scenario names and that are read. There are none if the flag says that no file may be read.
abbrev pub opened : Bool → List Asked → List Asked
opened true asked = []
opened false asked = asked

-- States that `text` is the document with the content of each named file in place of its name. `text` is `None` if
-- nothing has to be replaced. If `no_files` is set, no file is read, and the names remain.
abbrev pub SeesIn : Bool → (List ℕ → Option (List ℕ)) → Option Members → Option (List ℕ) → Type 0
SeesIn no_files known document text =
    (files : List File) × AllZip (IsBeside known) (opened no_files (asked document)) files × Resolves files document text

-- States that `new` is the text of a scenario with the content of each named file in place of its name. `new` is
-- `bytes` if these are not UTF-8, or if nothing has to be replaced.
abbrev pub Sees : Bool → (List ℕ → Option (List ℕ)) → List ℕ → List ℕ → Type 0
Sees no_files known bytes new =
    ((IsUtf8 bytes → ⊥) × (new ≡ bytes))
    ⊎ ((text : Option (List ℕ)) × SeesIn no_files known (parse_document bytes) text × (new ≡ unwrap_or text bytes))
