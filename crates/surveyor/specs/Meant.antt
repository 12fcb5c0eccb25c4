-- Defines which task the options describe, from the values that `clap` found: a row for each option (docs/SURVEYS.md).
use Rattle.std.specs.Prelude.{ℕ, ◌≡◌, ◌≤◌, ◌<◌, ◌-◌, ◌^◌, ◌&&◌, ◌||◌, Bool, true, false, List, [], ◌∷◌, Option, None, Some, codes, count_by, if◌then◌else◌, map, option_map, string_bytes, unwrap_or}
use Rattle.std.specs.List.{list_any}
use Rattle.std.specs.Str.{bytes_eq}
use Rattle.clap.specs.Words.{Row, Text}
use Rattle.surveys.specs.declared.span.CountRange.{CountRange}
use Rattle.text.specs.Number.{decimal_of}
use Rattle.surveyor.specs.Flags.{given, has, row_of}
use Rattle.surveyor.specs.Numbers.{IsTold}
use Rattle.surveyor.specs.Words.{manner_named}
use Rattle.surveyor.specs.declared.task.Asked.{Asked}
use Rattle.surveyor.specs.declared.task.Asked.TheVariants.{Survey as Surveys, Campaign, Break, Merge as Merges}
use Rattle.surveyor.specs.declared.task.Merge.{Merge}
use Rattle.surveyor.specs.declared.task.OneCampaign.{OneCampaign}
use Rattle.surveyor.specs.declared.task.ReportKind.{ReportKind}
use Rattle.surveyor.specs.declared.task.ReportKind.TheVariants.{Sums, Lines, Accounts, Table, Csv, Picture, Least}
use Rattle.surveyor.specs.declared.task.Survey.{Survey}

-- Returns the value of an option, or `without` if the option is not given on the command line.
abbrev pub value : Text → Text → List Row → Text
value name without rows = unwrap_or (given name rows) without

-- Returns the form of output that the switches `--lines`, `--table`, `--svg` and `--shrink` select. Returns `None` if
-- more than one of them is given.
abbrev pub shape_by : Bool → Bool → Bool → Bool → Option ReportKind
shape_by false false false false = Some Sums
shape_by true false false false = Some Lines
shape_by false true false false = Some Table
shape_by false false true false = Some Picture
shape_by false false false true = Some Least
shape_by _ _ _ _ = None

-- Returns the form of output that is selected if `--details` and `--csv` are not counted.
abbrev pub plain_shape_in : List Row → Option ReportKind
plain_shape_in rows = shape_by (has (codes "lines") rows) (has (codes "table") rows) (has (codes "svg") rows)
    (has (codes "shrink") rows)

-- Returns the form of output with `--details` from the form without it. Returns `None` if the flag is set, which means
-- that `--details` is given, but the form is not a line for each campaign.
abbrev pub detailed : Bool → Option ReportKind → Option ReportKind
detailed false shape = shape
detailed true (Some Lines) = Some Accounts
detailed true _ = None

-- Returns the form of output that is selected if `--csv` is not counted.
abbrev pub detailed_shape_in : List Row → Option ReportKind
detailed_shape_in rows = detailed (has (codes "details") rows) (plain_shape_in rows)

-- Returns the form of output with `--csv` from the form without it. Returns `None` if the flag is set, which means that
-- `--csv` is given, but the form is neither the sums nor the table.
abbrev pub in_csv : Bool → Option ReportKind → Option ReportKind
in_csv false shape = shape
in_csv true (Some Sums) = Some Csv
in_csv true (Some Table) = Some Csv
in_csv true _ = None

-- Returns the form of output that the options select, or `None` if they select none.
abbrev pub shape_in : List Row → Option ReportKind
shape_in rows = in_csv (has (codes "csv") rows) (detailed_shape_in rows)

-- Returns the message about options that select no form of output. The arguments are the form without `--details` and
-- `--csv`, and the form without `--csv`. Each is `None` if there is no such form.
abbrev pub form_complaint : Option ReportKind → Option ReportKind → Text
form_complaint None other = codes "only one of --lines, --table, --svg, --shrink and --break can be used"
form_complaint (Some plain) None = codes "--details can be used only with --lines"
form_complaint (Some plain) (Some other) = codes "--csv can be used only by itself or with --table"

-- Returns the message about options that select no form of output.
abbrev pub complaint_in : List Row → Text
complaint_in rows = form_complaint (plain_shape_in rows) (detailed_shape_in rows)

-- States that this is the value of `--patience`, a number of steps from 1 to 4,096. It is `None` if the option is not
-- given.
abbrev pub IsPatience : Option Text → Option ℕ → Type 0
IsPatience None patience = patience ≡ None
IsPatience (Some word) None = ⊥
IsPatience (Some word) (Some steps) = (decimal_of word ≡ Some steps) × (1 ≤ steps) × (steps ≤ 4096)

-- States that the word is this range, such as `4..7` or `4`. It is not empty and lies between `least` and `most`.
pub record IsWithin (least most : ℕ) (word : Text) (span : CountRange) : Type 0 where
  pub told : IsTold word span.low span.high
  pub ordered : span.low ≤ span.high
  pub from : least ≤ span.low
  pub up_to : span.high ≤ most

-- States that the word is a range of at most 10,000,000 seeds, and that these are its first and last seed.
pub record AreSeeds (word : Text) (seeds : ℕ × ℕ) : Type 0 where
  pub told : IsTold word seeds.0 seeds.1
  pub ordered : seeds.0 ≤ seeds.1
  pub inside : seeds.1 < 2 ^ 64 - 1
  pub few : seeds.1 - seeds.0 < 10000000

-- States that the word is the number of this commander, one of `generals` generals.
abbrev pub IsCommander : ℕ → Text → ℕ → Type 0
IsCommander generals word c = (decimal_of word ≡ Some c) × (c < generals)

-- States that the word is the range of orders from 0 to `most`, which has at least two orders.
abbrev pub AreOrders : Text → ℕ → Type 0
AreOrders word most = IsTold word 0 most × (1 ≤ most) × (most < 256)

-- Returns the default of `--traitors`: `1..13` with `--break`, and otherwise `1`.
abbrev pub some_traitors : List Row → Text
some_traitors rows = if has (codes "break") rows then codes "1..13" else codes "1"

-- Returns the first of two values or, if it is `None`, the second.
abbrev pub first_of : Option Text → Option Text → Option Text
first_of None second = second
first_of (Some word) second = Some word

-- Returns the folder of `--keep` or `--keep-all`, or `None` if neither is given.
abbrev pub folder_in : List Row → Option Text
folder_in rows = first_of (given (codes "keep") rows) (given (codes "keep-all") rows)

-- Checks whether `--keep-all` is given together with `--keep` or `--shrink`.
abbrev pub bars_keeping : List Row → Bool
bars_keeping rows = has (codes "keep-all") rows && (has (codes "keep") rows || has (codes "shrink") rows)

-- States that `all` says whether `--keep-all` is given, and that it is not given together with `--keep` or `--shrink`.
pub record AreAllKept (rows : List Row) (all : Bool) : Type 0 where
  pub said : all ≡ has (codes "keep-all") rows
  pub single : bars_keeping rows ≡ false

-- States that the options describe this survey. A value that is not given has its default.
pub record IsSurveying (rows : List Row) (s : Survey) : Type 0 where
  pub generals : IsWithin 2 13 (value (codes "generals") (codes "4") rows) s.generals
  pub bound : IsWithin 0 4 (value (codes "bound") (codes "1") rows) s.bound
  pub traitors : IsWithin 0 13 (value (codes "traitors") (some_traitors rows) rows) s.traitors
  pub commander : IsCommander s.generals.low (value (codes "commander") (codes "0") rows) s.commander
  pub orders : AreOrders (value (codes "orders") (codes "0..1") rows) s.orders
  pub grid : s.grid ≡ has (codes "grid") rows
  pub manner : manner_named (given (codes "rule") rows) (has (codes "signed") rows) ≡ Some s.manner
  pub patience : IsPatience (given (codes "patience") rows) s.patience
  pub adversary : string_bytes s.adversary ≡ value (codes "adversary") (codes "lies") rows
  pub seeds : AreSeeds (value (codes "seeds") (codes "1..1000") rows) (s.first, s.last)
  pub shape : shape_in rows ≡ Some s.shape
  pub keep : option_map string_bytes s.keep ≡ folder_in rows
  pub every : AreAllKept rows s.keeps_all

-- States that the word is this seed, a number less than 2^64 - 1.
abbrev pub IsSeed : Text → ℕ → Type 0
IsSeed word seed = (decimal_of word ≡ Some seed) × (seed < 2 ^ 64 - 1)

-- Checks whether an option is given that cannot be used with `--campaign`: any that says which seeds are played, or
-- what is printed or written to files.
abbrev pub bars_campaign : List Row → Bool
bars_campaign rows = list_any (λ name. has name rows)
    (codes "seeds" ∷ codes "lines" ∷ codes "details" ∷ codes "table" ∷ codes "csv" ∷ codes "svg" ∷ codes "shrink" ∷ codes "break"
    ∷ codes "keep" ∷ codes "keep-all" ∷ [])

-- States that the options describe this task of `--campaign`. `word` is the seed of its campaign, and the other options
-- describe the family.
pub record IsShowing (word : Text) (rows : List Row) (c : OneCampaign) : Type 0 where
  pub survey : IsSurveying rows c.survey
  pub seed : IsSeed word c.seed
  pub single : bars_campaign rows ≡ false

-- Returns the form of output of a survey with `--break`: `Table` if only a table is printed, and otherwise `Sums`.
abbrev pub break_shape : Bool → ReportKind
break_shape true = Table
break_shape false = Sums

-- States that the options describe this survey with `--break`. It writes no campaigns to files.
pub record IsBreaking (rows : List Row) (s : Survey) (is_table : Bool) : Type 0 where
  pub survey : IsSurveying rows s
  pub shape : s.shape ≡ break_shape is_table
  pub keep : s.keep ≡ None

-- Returns the names of the files that `--sum` reads, or `None` if `--sum` is not given.
abbrev pub names_in : List Row → Option (List Text)
names_in rows = option_map (λ row. row.values) (row_of (codes "sum") rows)

-- Checks whether an option is given that cannot be used with `--sum`: any except `--seeds`, `--table`, `--csv` and
-- `--svg`.
abbrev pub bars_sum : List Row → Bool
bars_sum rows = list_any (λ name. has name rows)
    (codes "generals" ∷ codes "bound" ∷ codes "traitors" ∷ codes "commander" ∷ codes "orders" ∷ codes "grid" ∷ codes "rule" ∷ codes "patience"
    ∷ codes "signed" ∷ codes "adversary" ∷ codes "lines" ∷ codes "details" ∷ codes "shrink" ∷ codes "break" ∷ codes "campaign" ∷ codes "keep"
    ∷ codes "keep-all" ∷ [])

-- States that these are the first and the last seed of `--seeds`, or `None` if the option is not given.
abbrev pub AreSaid : Option Text → Option (ℕ × ℕ) → Type 0
AreSaid None seeds = seeds ≡ None
AreSaid (Some word) None = ⊥
AreSaid (Some word) (Some seeds) = AreSeeds word seeds

-- States that the options describe this task of `--sum`. No option says what is played, and standard input is read at
-- most once.
pub record IsMerging (names : List Text) (rows : List Row) (m : Merge) : Type 0 where
  pub named : map string_bytes m.names.items ≡ names
  pub once : count_by (λ name. bytes_eq name (codes "-")) names ≤ 1
  pub seeds : AreSaid (given (codes "seeds") rows) m.seeds
  pub shape : shape_in rows ≡ Some m.shape
  pub alone : bars_sum rows ≡ false

-- States that the options describe this task.
abbrev pub Asks : List Row → Asked → Type 0
Asks rows (Surveys s) =
    (names_in rows ≡ None) × (given (codes "campaign") rows ≡ None) × (has (codes "break") rows ≡ false)
    × IsSurveying rows s
Asks rows (Campaign c) =
    (names_in rows ≡ None) × (word : Text) × (given (codes "campaign") rows ≡ Some word) × IsShowing word rows c
Asks rows (Break s is_table) =
    (names_in rows ≡ None) × (given (codes "campaign") rows ≡ None) × (has (codes "break") rows ≡ true)
    × IsBreaking rows s is_table
Asks rows (Merges m) = (names : List Text) × (names_in rows ≡ Some names) × IsMerging names rows m
