-- Formats and entries, one by one.
use Rattle.std.proofs.Common.{◌≡◌, ℕ, zero, suc, ◌-◌, ◌<◌, ◌≢◌, List, false, refl, sym, ◌∙◌, arith, ap}
use Rattle.std.specs.Prelude.{Option, Some, None, option_and_then, ◌==◌}
use Rattle.std.proofs.lemmas.Grind.{common_steps}
use Rattle.object.specs.declared.entries.Format.{Format}
use Rattle.object.specs.declared.entries.Path.{Path}
use Rattle.object.specs.Entries.{format_at, behind_value, behind_formats, behind_then, behind_entry, path_by, path_in, behind_entries}

pub formats_none : (n place : ℕ) (formats : List ℕ) → n ≡ 0 → behind_formats n place formats ≡ Some place
unfolding behind_formats
formats_none zero place formats e = refl
formats_none (suc n) place formats e = absurd (omega arith)

pub formats_some : (n place : ℕ) (formats : List ℕ) → 0 < n →
    behind_formats n place formats ≡ option_and_then (λ format. behind_formats (n - 1) format.next formats) (format_at place formats)
unfolding behind_formats
formats_some zero place formats e = absurd (omega arith)
formats_some (suc n) place formats e =
    let same : n ≡ suc n - 1 = omega arith in
    ap (λ (k : ℕ). option_and_then (λ format. behind_formats k format.next formats) (format_at place formats)) same

pub entry_none : (n : ℕ) (formats : List ℕ) (from : ℕ) (bytes : List ℕ) (place : ℕ) → n ≡ 0 → behind_entry n formats from bytes place ≡ Some place
unfolding behind_entry
entry_none zero formats from bytes place e = refl
entry_none (suc n) formats from bytes place e = absurd (omega arith)

pub entry_some : (n : ℕ) (formats : List ℕ) (from : ℕ) (bytes : List ℕ) (place : ℕ) → 0 < n →
    behind_entry n formats from bytes place
    ≡ option_and_then (behind_then (λ next. behind_entry (n - 1) formats next bytes) bytes place) (format_at from formats)
unfolding behind_entry
entry_some zero formats from bytes place e = absurd (omega arith)
entry_some (suc n) formats from bytes place e =
    let same : n ≡ suc n - 1 = omega arith in
    ap (λ (k : ℕ). option_and_then (behind_then (λ next. behind_entry k formats next bytes) bytes place) (format_at from formats)) same

pub path_none : (n : ℕ) (formats : List ℕ) (from : ℕ) (bytes : List ℕ) (place : ℕ) → n ≡ 0 → path_in n formats from bytes place ≡ None
unfolding path_in
path_none zero formats from bytes place e = refl
path_none (suc n) formats from bytes place e = absurd (omega arith)

pub path_some : (n : ℕ) (formats : List ℕ) (from : ℕ) (bytes : List ℕ) (place : ℕ) → 0 < n →
    path_in n formats from bytes place
    ≡ option_and_then (path_by (λ next. path_in (n - 1) formats next bytes) bytes place) (format_at from formats)
unfolding path_in
path_some zero formats from bytes place e = absurd (omega arith)
path_some (suc n) formats from bytes place e =
    let same : n ≡ suc n - 1 = omega arith in
    ap (λ (k : ℕ). option_and_then (path_by (λ next. path_in k formats next bytes) bytes place) (format_at from formats)) same

pub entries_none : (n count : ℕ) (formats : List ℕ) (from : ℕ) (bytes : List ℕ) (place : ℕ) → n ≡ 0 →
    behind_entries n count formats from bytes place ≡ Some place
unfolding behind_entries
entries_none zero count formats from bytes place e = refl
entries_none (suc n) count formats from bytes place e = absurd (omega arith)

pub entries_some : (n count : ℕ) (formats : List ℕ) (from : ℕ) (bytes : List ℕ) (place : ℕ) → 0 < n →
    behind_entries n count formats from bytes place
    ≡ option_and_then (behind_entries (n - 1) count formats from bytes) (behind_entry count formats from bytes place)
unfolding behind_entries
entries_some zero count formats from bytes place e = absurd (omega arith)
entries_some (suc n) count formats from bytes place e =
    let same : n ≡ suc n - 1 = omega arith in
    ap (λ (k : ℕ). option_and_then (behind_entries k count formats from bytes) (behind_entry count formats from bytes place)) same

other_path : (next : ℕ → ℕ → Option Path) (bytes : List ℕ) (place : ℕ) (format : Format) → format.content ≢ 1 →
    path_by next bytes place format ≡ behind_then next bytes place format
other_path next bytes place format other =
    let no : (format.content == 1) ≡ false = grind (arith, common_steps) in
    rw no refl

-- If the first value is not the path, the path is one of the values after it.
pub path_on : (n : ℕ) (formats : List ℕ) (from : ℕ) (bytes : List ℕ) (place : ℕ) (format : Format) (next : ℕ) (path : Option Path) →
    0 < n → Some format ≡ format_at from formats → format.content ≢ 1 → Some next ≡ behind_value format.form place bytes →
    path ≡ path_in (n - 1) formats format.next bytes next → path ≡ path_in n formats from bytes place
path_on n formats from bytes place format next path some first other behind rest =
    let later : ℕ → ℕ → Option Path = λ (k : ℕ). path_in (n - 1) formats k bytes in
    rest
    ∙ (ap (option_and_then (later format.next)) behind
    ∙ (sym (other_path later bytes place format other)
    ∙ (ap (option_and_then (path_by later bytes place)) first ∙ sym (path_some n formats from bytes place some))))

-- The remaining entries begin after one more entry.
pub entries_on : (n count : ℕ) (formats : List ℕ) (from : ℕ) (bytes : List ℕ) (place next : ℕ) → 0 < n →
    Some next ≡ behind_entry count formats from bytes place →
    behind_entries n count formats from bytes place ≡ behind_entries (n - 1) count formats from bytes next
entries_on n count formats from bytes place next some first =
    entries_some n count formats from bytes place some ∙ ap (option_and_then (behind_entries (n - 1) count formats from bytes)) (sym first)

pub entries_break : (n count : ℕ) (formats : List ℕ) (from : ℕ) (bytes : List ℕ) (place : ℕ) → 0 < n →
    None ≡ behind_entry count formats from bytes place → None ≡ behind_entries n count formats from bytes place
entries_break n count formats from bytes place some first =
    ap (option_and_then (behind_entries (n - 1) count formats from bytes)) first ∙ sym (entries_some n count formats from bytes place some)
