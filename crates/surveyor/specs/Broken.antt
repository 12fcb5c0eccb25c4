-- Defines what `--break` prints (docs/FORMATS.md, "Surveys").
use Rattle.std.specs.Prelude.{ℕ, ◌≡◌, ◌+◌, ◌-◌, min, Bool, true, false, List, [], ◌∷◌, ◌++◌, map, flat_map, codes, Option, MatchOption}
use Rattle.std.specs.List.{AllZip, range_with_len}
use Rattle.std.specs.Io.KnownBytes.{Appends}
use Rattle.surveys.specs.declared.span.CountRange.{CountRange}
use Rattle.surveys.specs.Family.{Family}
use Rattle.surveys.specs.declared.breach.Breaking.{Breaking}
use Rattle.surveys.specs.Breaches.{IsBreaking, NoneBreaks}
use Rattle.surveys.specs.Breakings.{breaking_text}
use Rattle.surveyor.specs.declared.task.Survey.{Survey}
use Rattle.surveyor.specs.Words.{IsFamilyOf}

-- Returns the numbers from `low` to `high`.
abbrev pub numbers : ℕ → ℕ → List ℕ
numbers low high = range_with_len low (high + 1 - low)

-- Returns the pairs of `n` generals and each bound of the range that they can have: at most 4, and at most n - 2.
abbrev pub sizes_with : CountRange → ℕ → List (ℕ × ℕ)
sizes_with bound n = map (λ m. (n, m)) (numbers bound.low (min bound.high (min 4 (n - 2))))

-- Returns the pairs of each number of generals in a range and each bound that they can have.
abbrev pub sizes_of : CountRange → CountRange → List (ℕ × ℕ)
sizes_of generals bound = flat_map (sizes_with bound) (numbers generals.low generals.high)

-- Limits both ends of a range of numbers of traitors to `n`, the number of generals.
abbrev pub cut_to : ℕ → CountRange → CountRange
cut_to n span = record { low = min span.low n; high = min span.high n }

-- An entry of the output of `--break`: a number of generals, a bound, and the least campaign found that breaks
-- agreement, if there is one.
pub record Entry : Type 0 where
  pub generals : ℕ
  pub bound : ℕ
  pub found : Option Breaking

-- States that `found` is the result of the search among a survey's campaigns with `n` generals and bound `m`: the least
-- campaign that breaks agreement, or `None` if no campaign does.
abbrev pub IsSearched : Survey → Family → ℕ → ℕ → Option Breaking → Type 0
IsSearched s f n m found =
    MatchOption found (NoneBreaks f n m (cut_to n s.traitors) s.first (s.last + 1))
    (IsBreaking f n m (cut_to n s.traitors) s.first (s.last + 1))

-- States that this is the entry for the number of generals and the bound in `size`.
pub record IsEntry (s : Survey) (f : Family) (size : ℕ × ℕ) (e : Entry) : Type 0 where
  pub generals : e.generals ≡ size.0
  pub bound : e.bound ≡ size.1
  pub searched : IsSearched s f e.generals e.bound e.found

-- Returns the text of an entry: a campaign, or a row of a table.
abbrev pub entry_text : Bool → Entry → List ℕ
entry_text is_table e = breaking_text is_table e.generals e.bound e.found

-- Returns the text that separates a campaign from the one before it: an empty line. Returns no text before the first
-- campaign and in a table.
abbrev pub gap : Bool → Bool → List ℕ
gap true is_first = []
gap false true = []
gap false false = codes "\n"

-- Returns the text of an entry that is not the first, with the empty line before a campaign.
abbrev pub later_text : Bool → Entry → List ℕ
later_text is_table e = gap is_table false ++ entry_text is_table e

-- Returns the text of all entries.
abbrev pub entries_text : Bool → List Entry → List ℕ
entries_text is_table [] = []
entries_text is_table (e ∷ es) = entry_text is_table e ++ flat_map (later_text is_table) es

-- Returns the header line of the table of `--break --table`, or no text if campaigns are printed.
abbrev pub break_header : Bool → List ℕ
break_header true = codes "generals bound traitors statements seed\n"
break_header false = []

-- States that an entry is printed for each number of generals and each bound of the survey. Its campaigns are those of
-- the family `f`.
pub record IsBroken (s : Survey) (f : Family) (is_table : Bool) (old new : Option (List ℕ)) : Type 0 where
  pub entries : List Entry
  pub all : AllZip (IsEntry s f) (sizes_of s.generals s.bound) entries
  pub written : Appends old new (break_header is_table ++ entries_text is_table entries)

-- States that an entry is printed for each number of generals and each bound of the survey. Its campaigns are those of
-- the family that the survey asks for.
pub record IsBreakAnswered (s : Survey) (is_table : Bool) (old new : Option (List ℕ)) : Type 0 where
  pub family : Family
  pub asked : IsFamilyOf s family
  pub broken : IsBroken s family is_table old new
