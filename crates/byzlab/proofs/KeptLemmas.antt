-- The files of an exploration that is kept, written one by one, and the name that a failed write reports.
use Rattle.std.proofs.Common.{ℕ, suc, ◌≡◌, ◌∙◌, ◌+◌, ◌<◌, ◌≤◌, ◌++◌, List, [], ◌∷◌, ap, append-nil, append_assoc, arith, drop, drop-cons, get_or, inl, inr, length, map, subst, sym}
use Rattle.std.specs.Prelude.{Result, Ok, Err, IfErr, String, string_bytes}
use Rattle.std.specs.Global.{Global}
use Rattle.std.proofs.lemmas.List.{drop_all}
use Rattle.std.specs.Result.{IsErrAnd}
use Rattle.streams.specs.Filling.{file_of}
use Rattle.streams.specs.declared.filled_file.Filled.{Filled}
use Rattle.byzlab.specs.declared.kept_files.Unkept.{Unkept}
use Rattle.byzlab.specs.declared.kept_files.Unkept.TheVariants.{Memory, Unwritten}
use Rattle.byzlab.specs.Kept.{IsKeptIn, Tells, kept_files, scenario_name, schedule_files, schedule_name}

-- These files were written. The schedules in `rest` come next.
abbrev pub AreKeptTo : {O : Type 0} → List ℕ → List ℕ → List (String Global) → List (String Global) → ℕ → List (Filled O) → Type 0
AreKeptTo folder scenario schedules rest number files =
    map file_of files ++ schedule_files folder number (map string_bytes rest)
    ≡ kept_files folder scenario (map string_bytes schedules)

-- At first only the scenario was written.
pub scenario_first : {O : Type 0} (folder scenario name : List ℕ) (schedules : List (String Global)) (old new : List (Filled O)) → old ≡ []
    → name ≡ scenario_name folder → map file_of new ≡ map file_of old ++ (name, scenario) ∷ []
    → AreKeptTo folder scenario schedules schedules 1 new
scenario_first folder scenario name schedules old new none called more =
    ap (λ (l : List (List ℕ × List ℕ)). l ++ schedule_files folder 1 (map string_bytes schedules))
    (more ∙ (λ j. map file_of (none j) ++ (called j, scenario) ∷ []))

-- The first of the schedules from index `i` on.
schedules_at : (schedules : List (String Global)) (i : ℕ) (schedule : String Global) → i < length schedules
    → schedule ≡ get_or schedules i schedule → drop i schedules ≡ schedule ∷ drop (i + 1) schedules
schedules_at schedules i schedule lt e =
    let one : suc i ≡ i + 1 = omega arith in
    drop-cons schedules i schedule lt ∙ (λ j. sym e j ∷ drop (one j) schedules)

-- One more schedule was written.
pub one_more : {O : Type 0} (folder scenario name text : List ℕ) (schedules : List (String Global)) (i : ℕ) (schedule : String Global)
    (files new : List (Filled O)) → i < length schedules → schedule ≡ get_or schedules i schedule
    → AreKeptTo folder scenario schedules (drop i schedules) (i + 1) files → name ≡ schedule_name folder (i + 1)
    → text ≡ string_bytes schedule → map file_of new ≡ map file_of files ++ (name, text) ∷ []
    → AreKeptTo folder scenario schedules (drop (i + 1) schedules) (i + 1 + 1) new
one_more folder scenario name text schedules i schedule files new lt at here called bytes more =
    let next : suc (i + 1) ≡ i + 1 + 1 = omega arith in
    let file : List ℕ × List ℕ = (schedule_name folder (i + 1), string_bytes schedule) in
    let later = schedule_files folder (i + 1 + 1) (map string_bytes (drop (i + 1) schedules)) in
    let left : map file_of new ≡ map file_of files ++ file ∷ [] = more ∙ (λ j. map file_of files ++ (called j, bytes j) ∷ []) in
    let right : file ∷ later ≡ schedule_files folder (i + 1) (map string_bytes (drop i schedules)) =
    (λ j. file ∷ schedule_files folder (sym next j) (map string_bytes (drop (i + 1) schedules)))
    ∙ ap (λ (l : List (String Global)). schedule_files folder (i + 1) (map string_bytes l)) (sym (schedules_at schedules i schedule lt at)) in
    ap (λ (l : List (List ℕ × List ℕ)). l ++ later) left
    ∙ (append_assoc (map file_of files) (file ∷ []) later ∙ (ap (λ (l : List (List ℕ × List ℕ)). map file_of files ++ l) right ∙ here))

-- All schedules were written.
pub all_kept : {O : Type 0} (folder scenario : List ℕ) (schedules : List (String Global)) (i : ℕ) (files : List (Filled O)) → length schedules ≤ i
    → AreKeptTo folder scenario schedules (drop i schedules) (i + 1) files
    → map file_of files ≡ kept_files folder scenario (map string_bytes schedules)
all_kept folder scenario schedules i files le here =
    let none : drop i schedules ≡ [] = drop_all i schedules le in
    let A : List (String Global) → Type 0 = λ l. AreKeptTo folder scenario schedules l (i + 1) files in
    sym (append-nil (map file_of files)) ∙ subst A none here

pub scenario_is_kept : (folder name : List ℕ) (count : ℕ) (unkept : Unkept) → name ≡ scenario_name folder
    → Tells (λ told. told ≡ name) unkept → Tells (IsKeptIn folder count) unkept
scenario_is_kept folder name count (Unwritten told kind) e (is, faulty) = (inr (inl (is ∙ e)), faulty)
scenario_is_kept folder name count Memory e t = tt

pub schedule_is_kept : (folder name : List ℕ) (count number : ℕ) (unkept : Unkept) → 1 ≤ number → number ≤ count
    → name ≡ schedule_name folder number
    → Tells (λ told. told ≡ name) unkept → Tells (IsKeptIn folder count) unkept
schedule_is_kept folder name count number (Unwritten told kind) first last e (is, faulty) =
    (inr (inr (number, first, last, is ∙ e)), faulty)
schedule_is_kept folder name count number Memory first last e t = tt

-- An error that is returned unchanged.
pub handed_on : {T : Type 0} (P : Unkept → Type 0) (given : Result T Unkept) (unkept : Unkept)
    → IsErrAnd given (λ told. told ≡ unkept) → P unkept → IfErr given P
handed_on P (Err told) unkept e p = subst P (sym e) p
handed_on P (Ok done) unkept e p = absurd e
