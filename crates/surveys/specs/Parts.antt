-- Parts of a survey. A part is a text: a head, and lines of campaigns of its family (docs/FORMATS.md, "Surveys").
use Rattle.std.specs.Prelude.{ℕ, ◌≡◌, ◌≢◌, ◌<◌, ◌≤◌, ◌+◌, ◌^◌, ◌==◌, not, true, false, List, [], ◌∷◌, ◌++◌, length, flat_map, Option, None, Some}
use Rattle.std.specs.List.{AllByRecursion, list_all}
use Rattle.surveys.specs.declared.finding.Finding.{Finding}
use Rattle.surveys.specs.declared.parts.PartError.{PartError}
use Rattle.surveys.specs.declared.parts.PartError.TheVariants.{Line, Family as Foreign, Seed}
use Rattle.surveys.specs.Heads.{is_head}
use Rattle.surveys.specs.Lines.{line_text}

-- States that the bytes contain no line feed.
abbrev pub IsUnfed : List ℕ → Type 0
IsUnfed bytes = list_all (λ c. not (c == 10)) bytes ≡ true

-- States that the bytes are one line: they end with a line feed and contain no other line feed.
pub record IsLine (line : List ℕ) : Type 0 where
  pub front : List ℕ
  pub free : IsUnfed front
  pub whole : line ≡ front ++ 10 ∷ []

-- States that the bytes are one line that begins as a head does.
pub record IsHeadLine (head : List ℕ) : Type 0 where
  pub begins : is_head head ≡ true
  pub line : IsLine head

-- Writes the line of a campaign, or the head for `None`.
abbrev pub row_text : List ℕ → Option Finding → List ℕ
row_text head None = head
row_text head (Some f) = line_text f

-- Returns the results of the campaigns in these rows. A row without a campaign repeats the head.
abbrev pub found_in : List (Option Finding) → List Finding
found_in [] = []
found_in (None ∷ rows) = found_in rows
found_in (Some f ∷ rows) = f ∷ found_in rows

-- States that there are no rows or that the first row is the head. Further rows may repeat it.
abbrev pub IsLed : List ℕ → List (Option Finding) → Type 0
IsLed head [] = Unit {0}
IsLed head (None ∷ rows) = IsHeadLine head
IsLed head (Some f ∷ rows) = ⊥

-- States that the bytes are a part of a survey with this head, and that its lines describe exactly the campaigns in
-- `found`.
pub record IsPart (head bytes : List ℕ) (found : List Finding) : Type 0 where
  pub rows : List (Option Finding)
  pub led : IsLed head rows
  pub whole : bytes ≡ flat_map (row_text head) rows
  pub told : found ≡ found_in rows

-- States that a campaign can have these numbers: at most 13 generals, a bound that is at most 4 and at most the
-- generals less 2, and at most as many traitors as generals.
pub record IsSized (f : Finding) : Type 0 where
  pub most : f.generals ≤ 13
  pub rounds : f.bound ≤ 4
  pub enough : f.bound + 2 ≤ f.generals
  pub traitors : f.traitors ≤ f.generals

-- States that this is the result of a possible campaign whose seed is from `first` to `last`, both included.
abbrev pub IsOf : ℕ → ℕ → Finding → Type 0
IsOf first last f = (first ≤ f.seed) × (f.seed ≤ last) × IsSized f

-- States that all these are results of possible campaigns whose seeds are from `first` to `last`, both included.
abbrev pub AreOf : ℕ → ℕ → List Finding → Type 0
AreOf first last found = AllByRecursion (IsOf first last) found

-- States that the bytes are lines after a head, and that `after` has the results in these lines in addition to those in
-- `before`. The seeds are from `first` to `last`, both included.
pub record AddsAll (head bytes : List ℕ) (first last : ℕ) (before after : List Finding) : Type 0 where
  pub rows : List (Option Finding)
  pub whole : bytes ≡ flat_map (row_text head) rows
  pub behind : after ≡ before ++ found_in rows
  pub seeds : AreOf first last (found_in rows)

-- States that `line` is a line after a head, and that `after` has its result, if it has one, in addition to those in
-- `before`. The seed is from `first` to `last`, both included.
pub record Adds (head line : List ℕ) (first last : ℕ) (before after : List Finding) : Type 0 where
  pub row : Option Finding
  pub text : line ≡ row_text head row
  pub behind : after ≡ before ++ found_in (row ∷ [])
  pub seeds : AreOf first last (found_in (row ∷ []))

-- States that the bytes are a valid further part of a survey, with the results `told`. Its head is the head `before` of
-- the earlier parts, if there are any, and the seeds are from `first` to `last`, both included.
pub record IsFurther (before head bytes : List ℕ) (first last : ℕ) (told : List Finding) : Type 0 where
  pub part : IsPart head bytes told
  pub same : before ≢ [] → head ≡ before
  pub seeds : AreOf first last told

-- States that a further part was read whole: its results are in `new` in addition to those in `old`.
pub record IsReadOn (before head bytes : List ℕ) (first last : ℕ) (old new : List Finding) : Type 0 where
  pub told : List Finding
  pub further : IsFurther before head bytes first last told
  pub unread : bytes ≡ [] → head ≡ before
  pub behind : new ≡ old ++ told

-- States that a campaign can have this result, with any seed.
abbrev pub IsCampaign : Finding → Type 0
IsCampaign f = IsSized f × (f.seed < 2 ^ 64)

-- States why line `number` is rejected: it describes no possible campaign, or its seed is not from `first` to `last`.
pub data IsUntaken (first last number : ℕ) : Option Finding → PartError → Type 0 where
  untold : IsUntaken first last number None (Line number)
  unsized : (f : Finding) → (IsSized f → ⊥) → IsUntaken first last number (Some f) (Line number)
  too_early : (f : Finding) → IsCampaign f → f.seed < first → IsUntaken first last number (Some f) (Seed number f.seed)
  too_late : (f : Finding) → IsCampaign f → last < f.seed → IsUntaken first last number (Some f) (Seed number f.seed)

-- States what is wrong with line `number`, with which `rest` begins. It is cut off before its line feed, or it is
-- neither a head nor, after the first line, the line of a campaign. Or it is another head than `head`, or the seed of
-- its campaign is not from `first` to `last`.
pub data IsWrong (head rest : List ℕ) (first last number : ℕ) : PartError → Type 0 where
  cut_off : rest ≢ [] → IsUnfed rest → IsWrong head rest first last number (Line number)
  unknown : (line more : List ℕ) → rest ≡ line ++ more → IsLine line → is_head line ≡ false
      → (1 < number → (f : Finding) → IsCampaign f → line ≢ line_text f)
      → IsWrong head rest first last number (Line number)
  foreign : (line more : List ℕ) → rest ≡ line ++ more → IsHeadLine line → head ≢ [] → line ≢ head
      → IsWrong head rest first last number (Foreign number)
  earlier : (f : Finding) (more : List ℕ) → rest ≡ line_text f ++ more → IsCampaign f → 1 < number → f.seed < first
      → IsWrong head rest first last number (Seed number f.seed)
  later : (f : Finding) (more : List ℕ) → rest ≡ line_text f ++ more → IsCampaign f → 1 < number → last < f.seed
      → IsWrong head rest first last number (Seed number f.seed)

-- States that a text was read up to its first wrong line, and that `new` has the results of the lines before that line
-- in addition to those in `old`.
pub record IsFaulty (before head bytes : List ℕ) (first last : ℕ) (old new : List Finding)
    (e : PartError) : Type 0 where
  pub rows : List (Option Finding)
  pub rest : List ℕ
  pub led : IsLed head rows
  pub whole : bytes ≡ flat_map (row_text head) rows ++ rest
  pub same : before ≢ [] → head ≡ before
  pub unread : rows ≡ [] → head ≡ before
  pub behind : new ≡ old ++ found_in rows
  pub seeds : AreOf first last (found_in rows)
  pub wrong : IsWrong head rest first last (length rows + 1) e

-- States that the lines after a head were read up to the first wrong line, which is numbered as in the whole text.
pub record StopsAt (head lines : List ℕ) (first last : ℕ) (old new : List Finding) (e : PartError) : Type 0 where
  pub rows : List (Option Finding)
  pub rest : List ℕ
  pub whole : lines ≡ flat_map (row_text head) rows ++ rest
  pub behind : new ≡ old ++ found_in rows
  pub seeds : AreOf first last (found_in rows)
  pub wrong : IsWrong head rest first last (length rows + 2) e
