-- Defines the sum of files with the lines of surveys, and which seeds the files must contain (docs/FORMATS.md,
-- "Surveys").
use Rattle.std.specs.Prelude.{ℕ, ◌≡◌, ◌≢◌, ◌≤◌, ◌-◌, ◌^◌, min, max, List, [], ◌∷◌, ◌++◌, codes, decimal, flat_map, length, Option, None, Some}
use Rattle.std.specs.List.{AllZip}
use Rattle.std.specs.Io.KnownBytes.{Appends}
use Rattle.surveys.specs.declared.finding.Finding.{Finding}
use Rattle.surveys.specs.Parts.{AreOf, IsPart}
use Rattle.surveys.specs.Covering.{AreDoubles, AreHoles, seeds_in, times}
use Rattle.surveys.specs.declared.stretch.Stretch.{Stretch}
use Rattle.surveyor.specs.declared.task.Merge.{Merge}
use Rattle.surveyor.specs.Printed.{summary_text}

-- Returns the first and the last seed that the files may contain: the ends of `--seeds`, or 0 and 2^64 - 1 if it is not
-- given.
abbrev pub span_of : Option (ℕ × ℕ) → ℕ × ℕ
span_of None = (0, 2 ^ 64 - 1)
span_of (Some seeds) = seeds

-- Returns the campaigns of all files, in the order of the files.
abbrev pub joined : List (List Finding) → List Finding
joined [] = []
joined (part ∷ parts) = part ++ joined parts

-- States that the files with the given names are parts of one survey. Their lines contain exactly the campaigns
-- `found`, and the seed of each is one that the files may contain.
pub record IsTold (m : Merge) (head : List ℕ) (found : List Finding) : Type 0 where
  pub texts : List (List ℕ)
  pub parts : List (List Finding)
  pub each : AllZip (IsPart head) texts parts
  pub named : length texts ≡ length m.names.items
  pub whole : found ≡ joined parts
  pub seeds : AreOf (span_of m.seeds).0 (span_of m.seeds).1 found

-- States that the campaign of this seed is among the given ones.
abbrev pub IsToldOf : ℕ → List Finding → Type 0
IsToldOf x found = 1 ≤ times x (seeds_in found)

-- States that each seed of `--seeds` occurs exactly once. If this option is not given, the same holds for each seed
-- from the least to the greatest that occurs.
abbrev pub IsCovered : Option (ℕ × ℕ) → List Finding → Type 0
IsCovered None found = (a x b : ℕ) → IsToldOf a found → IsToldOf b found → a ≤ x → x ≤ b → times x (seeds_in found) ≡ 1
IsCovered (Some s) found = (x : ℕ) → s.0 ≤ x → x ≤ s.1 → times x (seeds_in found) ≡ 1

-- States that the exit status is 0 exactly if each seed occurs as often as it should, and otherwise 1.
pub record IsCoveredBy (seeds : Option (ℕ × ℕ)) (found : List Finding) (status : ℕ) : Type 0 where
  pub well : status ≡ 0 → IsCovered seeds found
  pub covered : IsCovered seeds found → status ≡ 0
  pub ill : status ≢ 0 → status ≡ 1

-- Extends a range of seeds so that it contains `seed`. If there is no range yet, returns the range of only this seed.
abbrev pub with_seed : Option (ℕ × ℕ) → ℕ → Option (ℕ × ℕ)
with_seed None seed = Some (seed, seed)
with_seed (Some ends) seed = Some (min ends.0 seed, max ends.1 seed)

-- States that `ends` are the least and the greatest seed that occur.
pub record AreLeastAndGreatest (found : List Finding) (ends : ℕ × ℕ) : Type 0 where
  pub first : IsToldOf ends.0 found
  pub last : IsToldOf ends.1 found
  pub within : (x : ℕ) → IsToldOf x found → (ends.0 ≤ x) × (x ≤ ends.1)

-- States that these are the least and the greatest seed that occur, or `None` if there are no campaigns.
abbrev pub AreEnds : List Finding → Option (ℕ × ℕ) → Type 0
AreEnds found None = found ≡ []
AreEnds found (Some ends) = AreLeastAndGreatest found ends

-- States that this is the range of seeds that should occur: the range of `--seeds` or, if it is not given, the range
-- from the least to the greatest seed that occurs.
abbrev pub IsAskedFor : Option (ℕ × ℕ) → List Finding → Option (ℕ × ℕ) → Type 0
IsAskedFor None found span = AreEnds found span
IsAskedFor (Some seeds) found span = span ≡ Some seeds

-- Returns the line that reports a range of seeds, such as `hole 5..7`.
abbrev pub stretch_text : List ℕ → Stretch → List ℕ
stretch_text name s =
    name ++ (codes " " ++ (decimal s.first ++ (codes ".." ++ (decimal s.last ++ codes "\n"))))

-- Returns the lines that report missing seeds (`holes`), and then those that report seeds which occur more than once
-- (`doubles`).
abbrev pub report_text : List Stretch → List Stretch → List ℕ
report_text holes doubles =
    flat_map (stretch_text (codes "hole")) holes ++ flat_map (stretch_text (codes "double")) doubles

-- States that `holes` has exactly the seeds of the range that do not occur. If there is no range, no seed is missing.
abbrev pub AreMissing : Option (ℕ × ℕ) → List ℕ → List Stretch → Type 0
AreMissing None seeds holes = holes ≡ []
AreMissing (Some span) seeds holes = AreHoles span.0 span.1 seeds holes

-- States that the missing seeds, and the seeds that occur more than once, are reported.
pub record IsSeedReport (seeds : Option (ℕ × ℕ)) (found : List Finding) (Reports : Option (List ℕ) → Type 0)
    : Type 0 where
  pub span : Option (ℕ × ℕ)
  pub asked : IsAskedFor seeds found span
  pub holes : List Stretch
  pub doubles : List Stretch
  pub missing : AreMissing span (seeds_in found) holes
  pub repeated : AreDoubles (seeds_in found) doubles
  pub reported : Reports (Some (report_text holes doubles))

-- States that the summary of the files' campaigns is printed. The missing seeds, and those that occur more than once,
-- are reported, and the exit status says whether there are any.
pub record IsSummed (m : Merge) (old new : Option (List ℕ)) (Reports : Option (List ℕ) → Type 0) (status : ℕ)
    : Type 0 where
  pub head : List ℕ
  pub found : List Finding
  pub told : IsTold m head found
  pub written : Appends old new (summary_text m.shape found)
  pub reported : IsSeedReport m.seeds found Reports
  pub covered : IsCoveredBy m.seeds found status
