-- Defines the names and the contents of the files to which campaigns are written (docs/FORMATS.md, "Surveys").
use Rattle.std.specs.Prelude.{ℕ, ◌≡◌, List, [], ◌∷◌, ◌++◌, Option, None, Some, IfSome, codes, decimal, flat_map, map, string_bytes}
use Rattle.std.specs.Global.{Global}
use Rattle.std.specs.Prelude.{String}
use Rattle.surveys.specs.Family.{Family}
use Rattle.surveys.specs.Wording.{campaign_text, plot_text}
use Rattle.surveys.specs.declared.breach.Breach.{Breach}

-- A file: its name, and the bytes that were written to it.
abbrev pub File : Type 0
File = List ℕ × List ℕ

-- States that `new` is the list of files `old`, followed by the files `more`. Nothing is stated if the old files are
-- not known.
abbrev pub Gains : Option (List File) → Option (List File) → List File → Type 0
Gains old new more = IfSome old (λ known. new ≡ Some (known ++ more))

-- Returns the name of the file for the campaign of a seed: FOLDER/SEED.toml.
abbrev pub kept_name : List ℕ → ℕ → List ℕ
kept_name folder seed = folder ++ (codes "/" ++ (decimal seed ++ codes ".toml"))

-- Returns the temporary name of the file for the campaign of a seed: FOLDER/.SEED.toml.new.
abbrev pub beside_name : List ℕ → ℕ → List ℕ
beside_name folder seed = folder ++ (codes "/." ++ (decimal seed ++ codes ".toml.new"))

-- Returns the file for the campaign of a seed: its name and its text.
abbrev pub campaign_file : List ℕ → Family → ℕ → File
campaign_file folder f seed = (kept_name folder seed, campaign_text f seed)

-- Returns the files for the campaigns of these seeds, or no files if the survey has no folder.
abbrev pub campaign_files : Option (String Global) → Family → List ℕ → List File
campaign_files None f seeds = []
campaign_files (Some folder) f seeds = map (campaign_file (string_bytes folder) f) seeds

-- Returns the file for a reduced campaign, or no file if the seed's campaign was not broken.
abbrev pub breach_file : List ℕ → Option Breach → List File
breach_file folder None = []
breach_file folder (Some b) = (kept_name folder b.seed, plot_text b.plot) ∷ []

-- Returns the files for the reduced campaigns, or no files if the survey has no folder.
abbrev pub breach_files : Option (String Global) → List (Option Breach) → List File
breach_files None all = []
breach_files (Some folder) all = flat_map (breach_file (string_bytes folder)) all
