-- Defines the requests that the words of a call make, if these name several files (own).
use Rattle.std.specs.Prelude.{ℕ, ◌==◌, ◌%◌, ◌&&◌, ◌||◌, ◌++◌, Bool, true, false, not, List, [], ◌∷◌, Option, codes, find, if◌then◌else◌, length, map, take}
use Rattle.std.specs.List.{list_any}
use Rattle.std.specs.Option.{option_map_or}
use Rattle.std.specs.Str.{bytes_eq}
use Rattle.cli_words.specs.Asked.{words_of}
use Rattle.cli_words.specs.Usage.{Flag, Text, Usage, letter, option, switch}
use Rattle.cli_words.specs.Usages.{audit, check, play}
use Rattle.cli_words.specs.declared.file_words.Parts.{Parts}

-- Returns the subcommand with this name if it is `check`, `play` or `audit`, which have the switch `--verdicts`.
abbrev pub judging : Text → Option Usage
judging name = find (λ usage. bytes_eq usage.name name) (check ∷ play ∷ audit ∷ [])

-- Checks whether a word begins with a hyphen and is longer than that.
abbrev pub is_flag : Text → Bool
is_flag word = bytes_eq (take 1 word) (codes "-") && not (bytes_eq word (codes "-"))

-- Checks whether the word is this flag with two hyphens, as in `--of`, and the flag takes the next word as its value.
abbrev pub is_option : Text → Flag → Bool
is_option word (option name) = bytes_eq word (codes "--" ++ name)
is_option word (switch name) = false
is_option word (letter name c) = false

-- Checks whether the word is one of these flags and takes the next word as its value.
abbrev pub wants_value : List Flag → Text → Bool
wants_value flags word = list_any (is_option word) flags

-- The words after the name of a subcommand: those that apply to each file, and the names of the files.
pub record Parted : Type 0 where
  pub kept : List Text
  pub files : List Text

-- Returns the split words of the code as split words.
abbrev pub parted_of : Parts → Parted
parted_of parts = record { kept = words_of parts.kept.items; files = words_of parts.files.items }

-- Returns the split words with one more word that applies to each file, before the others.
abbrev pub with_kept : Text → Parted → Parted
with_kept word rest = record { kept = word ∷ rest.kept; files = rest.files }

-- Returns the split words with the name of one more file, before the others.
abbrev pub with_file : Text → Parted → Parted
with_file word rest = record { kept = rest.kept; files = word ∷ rest.files }

-- Returns the words and files of `parts`, each followed by those of `more`.
abbrev pub onto : Parted → Parted → Parted
onto parts more = record { kept = parts.kept ++ more.kept; files = parts.files ++ more.files }

-- Splits the words after the name of a subcommand with these flags. `is_value` says whether the first word is the value
-- of an option. After `--` there are only files.
abbrev pub parted : List Flag → Bool → List Text → Parted
parted flags is_value [] = record { kept = []; files = [] }
parted flags true (word ∷ words) = with_kept word (parted flags false words)
parted flags false (word ∷ words) =
    if bytes_eq word (codes "--") then record { kept = []; files = words }
    else if is_flag word then with_kept word (parted flags (wants_value flags word) words)
    else with_file word (parted flags false words)

-- Returns a group of one file for each file.
abbrev pub singles : List Text → List (List Text)
singles = map (λ file. file ∷ [])

-- Returns a group of two files, a scenario and its chronicle, for each pair of files.
abbrev pub pairs : List Text → List (List Text)
pairs [] = []
pairs (file ∷ []) = []
pairs (file ∷ other ∷ files) = (file ∷ other ∷ []) ∷ pairs files

-- Returns the files of each request, in groups of `number` files, which is 1 or 2.
abbrev pub groups : ℕ → List Text → List (List Text)
groups number files = if number == 2 then pairs files else singles files

-- Checks whether the words make several requests: they have the switch `--verdicts`, and at least one file. If `number`
-- is 2, the number of files must be even.
abbrev pub are_several : ℕ → Parted → Bool
are_several number parts =
    list_any (λ word. bytes_eq word (codes "--verdicts")) parts.kept
    && not (length parts.files == 0) && (not (number == 2) || length parts.files % 2 == 0)

-- Returns the words of a request for these files, with the words that apply to each file.
abbrev pub request_of : Text → List Text → List Text → List Text
request_of name kept files = name ∷ kept ++ codes "--" ∷ files

-- Returns the words of each request for the subcommand `name`, which has `number` places for files. `words` are the
-- words after its name.
abbrev pub requests_by : Text → List Text → ℕ → Parted → List (List Text)
requests_by name words number parts =
    if are_several number parts then map (request_of name parts.kept) (groups number parts.files)
    else (name ∷ words) ∷ []

-- Returns the words of each request that the words of a call make. If these have the switch `--verdicts`, it is a
-- request for each group of files, and otherwise only the words themselves.
abbrev pub requests_of : List Text → List (List Text)
requests_of [] = [] ∷ []
requests_of (name ∷ words) =
    option_map_or (λ usage. requests_by name words (length usage.places) (parted usage.flags false words))
    (judging name) ((name ∷ words) ∷ [])
