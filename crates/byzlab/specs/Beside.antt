-- Defines the paths of the files that a scenario names (own).
use Rattle.std.specs.Prelude.{ℕ, ◌≡◌, ◌==◌, ◌++◌, Bool, false, true, List, Option, None, Some, codes, slice_index}
use Rattle.std.specs.Str.{NoCharPasses}
use Rattle.std.specs.Str.Pattern.{RFindsChar, SplitsAroundMatch}

abbrev pub slash : ℕ
slash = 47

-- States that the folder is everything before the last slash in the file name of a scenario. There is no folder if the
-- name has no slash.
abbrev pub IsFolderOf : List ℕ → Option (List ℕ) → Type 0
IsFolderOf scenario None = NoCharPasses (λ c. c == slash) scenario
IsFolderOf scenario (Some folder) = (last : List ℕ) × SplitsAroundMatch (RFindsChar slash) scenario folder last

-- Returns the path of a file in this folder, or its name if there is no folder.
abbrev pub path_in : Option (List ℕ) → List ℕ → List ℕ
path_in None name = name
path_in (Some folder) name = folder ++ codes "/" ++ name

-- States the path of a file that a scenario names. If the flag is true, the name is a path itself, and otherwise it is
-- relative to the scenario's folder.
abbrev pub IsPathBy : Bool → List ℕ → List ℕ → List ℕ → Type 0
IsPathBy true scenario name path = path ≡ name
IsPathBy false scenario name path =
    (folder : Option (List ℕ)) × IsFolderOf scenario folder × (path ≡ path_in folder name)

abbrev pub IsPathOf : List ℕ → List ℕ → List ℕ → Type 0
IsPathOf scenario name path = IsPathBy (slice_index name 0 == slash) scenario name path
