-- What the assembler's code stores while it reads a text.
use Rattle.std.specs.Prelude.{ℕ, ◌≡◌, ◌≤◌, List, [], ◌∷◌, map, length, Option, Some, None, Result, Ok, Err}
use Rattle.std.proofs.Common.{Bor}
use Rattle.std.specs.Cmp.Lexicographic.{slice_cmp}
use Rattle.std.specs.Ordering.{nat_cmp}
use Rattle.std.specs.List.{sum_by, AllByRecursion}
use Rattle.std.specs.BTreeMap.{BTreeMap, get_by}
use Rattle.insn.specs.Program.{most_units}
use Rattle.asm.specs.declared.fault.LineError.{LineError}
use Rattle.asm.specs.declared.fault.LineError.TheVariants.{Memory}
use Rattle.asm.specs.declared.fault.AsmError.{AsmError}
use Rattle.asm.specs.declared.fault.AsmError.TheVariants as answers
use Rattle.asm.specs.declared.draft.Kept.{Kept}
use Rattle.asm.specs.declared.reader.Reading.{Reading}
use Rattle.asm.specs.Statement.{IsWellSource}
use Rattle.asm.specs.declared.fault.AsmFault.{AsmFault}
use Rattle.asm.specs.Distance.{defined}
use Rattle.asm.specs.Program.{Read, units_in, placed_units, lines_of}
use Rattle.asm.specs.Views.{Fails, kept_view}

-- States that the map and the list define the same names for the same units.
abbrev pub Finds : BTreeMap (Bor (List ℕ)) ℕ → List (List ℕ × ℕ) → Type 0
Finds map names = (name : List ℕ) → get_by (λ k. slice_cmp nat_cmp name k.now) map ≡ defined names name

-- States that the code has stored what was read: its names, and its instructions if they take at most 4,096 units.
pub record Keeps (kept : Reading) (r : Read) : Type 0 where
  pub units : kept.units ≡ units_in r
  pub sources : kept.units ≤ most_units → map kept_view kept.sources.items ≡ r.sources
  pub few : length kept.sources.items ≤ most_units
  pub names : Finds kept.names r.names

-- Returns the number of units that the stored instructions take.
abbrev pub units_kept : List Kept → ℕ
units_kept sources = sum_by (λ k. placed_units (kept_view k)) sources

-- States that the code has stored what was read, or ran out of memory.
abbrev pub KeepsRead : {X : Type 0} → Result X LineError → Reading → Read → Type 0
KeepsRead (Ok x) kept r = Keeps kept r
KeepsRead (Err e) kept r = e ≡ Memory

-- States that the code has stored what was read, or fails with the fault of what was read, or ran out of memory.
abbrev pub GivesRead : {X : Type 0} → Result X LineError → Reading → Result Read AsmFault → Type 0
GivesRead (Ok x) kept read = (r : Read) × (read ≡ Ok r) × Keeps kept r
GivesRead (Err e) kept read = Fails e read

-- States that the stored instructions are well-formed: none is a sign extension from 32 to 32 bits.
abbrev pub AreWellKept : List Kept → Type 0
AreWellKept sources = AllByRecursion (λ k. IsWellSource (kept_view k).source) sources

-- States that the pair is the first line of a text and the text after it, or there is none because the text has no
-- lines.
abbrev pub GivesLines : Option (Bor (List ℕ) × Bor (List ℕ)) → List (List ℕ) → Type 0
GivesLines None all = all ≡ []
GivesLines (Some cut) all = all ≡ cut.0.now ∷ lines_of cut.1.now

-- States that the error is the first fault with its line, or out of memory.
abbrev pub Refuses : {Y : Type 0} → AsmError → Result Y AsmError → Type 0
Refuses answers.Memory read = Unit {0}
Refuses (answers.At fault line) read = read ≡ Err (answers.At fault line)

-- States that the code has stored what the lines of a text contain, or fails with the first fault and its line, or ran
-- out of memory.
abbrev pub GivesGathered : Result Reading AsmError → Result Read AsmError → Type 0
GivesGathered (Ok kept) read = (r : Read) × (read ≡ Ok r) × Keeps kept r
GivesGathered (Err e) read = Refuses e read

-- States that the answer is the program, or the first fault with its line, or out of memory.
abbrev pub Answers : {X : Type 0} → Result X AsmError → Result X AsmError → Type 0
Answers (Ok x) said = said ≡ Ok x
Answers (Err e) said = Refuses e said

-- States that the answer is the program as `view` shows it, or the first fault with its line, or out of memory.
abbrev pub AnswersBy : {X Y : Type 0} → (X → Y) → Result X AsmError → Result Y AsmError → Type 0
AnswersBy view (Ok x) said = said ≡ Ok (view x)
AnswersBy view (Err e) said = Refuses e said
