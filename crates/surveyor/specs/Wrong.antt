-- Defines why a command line describes no task, and what is then reported. `rows` are the values that `clap` found.
use Rattle.std.specs.Prelude.{⊤, ℕ, ◌≡◌, ◌≢◌, ◌<◌, Bool, true, false, List, Option, None, Some, IsSomeAnd, codes, count_by, is_some}
use Rattle.std.specs.Str.{bytes_eq}
use Rattle.clap.specs.Words.{IsAmong, Row, Text, fault_of, kind_of, matches_of}
use Rattle.clap.specs.declared.error.Error.{Error}
use Rattle.clap.specs.declared.error.kind.ErrorKind.TheVariants.{OutOfMemory}
use Rattle.combine.specs.Names.{rule_named}
use Rattle.surveys.specs.declared.span.CountRange.{CountRange}
use Rattle.surveyor.specs.Flags.{given, has, survey_app}
use Rattle.surveyor.specs.Meant.{AreOrders, AreSeeds, Asks, IsCommander, IsPatience, IsSeed, IsWithin, bars_campaign, bars_keeping, bars_sum, break_shape, complaint_in, folder_in, names_in, shape_in, some_traitors, value}
use Rattle.surveyor.specs.declared.task.Asked.{Asked}
use Rattle.surveyor.specs.declared.task.AskedError.{AskedError}
use Rattle.surveyor.specs.declared.task.AskedError.TheVariants.{Words, Value, Rule, Memory}
use Rattle.surveyor.specs.declared.task.ReportKind.{ReportKind}

-- States that the word is not a range of numbers from `least` to `most`.
abbrev pub IsOutside : ℕ → ℕ → Text → Type 0
IsOutside least most word = (span : CountRange) → IsWithin least most word span → ⊥

-- States that the word is not a valid range of seeds.
abbrev pub AreNoSeeds : Text → Type 0
AreNoSeeds word = (seeds : ℕ × ℕ) → AreSeeds word seeds → ⊥

-- States that the word is not a seed.
abbrev pub IsNoSeed : Text → Type 0
IsNoSeed word = (seed : ℕ) → IsSeed word seed → ⊥

-- States that the word is not the number of one of `generals` generals.
abbrev pub IsNoCommander : ℕ → Text → Type 0
IsNoCommander generals word = (c : ℕ) → IsCommander generals word c → ⊥

-- States that the word is not a valid range of orders.
abbrev pub AreNoOrders : Text → Type 0
AreNoOrders word = (most : ℕ) → AreOrders word most → ⊥

-- States that the value of `--patience` is not a number of steps from 1 to 4,096.
abbrev pub IsNoPatience : Option Text → Type 0
IsNoPatience word = (steps : Option ℕ) → IsPatience word steps → ⊥

-- States that `--break` cannot print in this form of output.
abbrev pub IsNoBreak : ReportKind → Type 0
IsNoBreak shape = (is_table : Bool) → shape ≢ break_shape is_table

-- States that standard input, `-`, is named more than once.
abbrev pub AreTwice : List Text → Type 0
AreTwice names = 1 < count_by (λ name. bytes_eq name (codes "-")) names

-- States that this message says correctly what is wrong with the options.
pub data IsWrong (rows : List Row) (why : Text) : Type 0 where
  generals : why ≡ codes "--generals takes 2 to 13, such as 4 or 4..7" →
      IsOutside 2 13 (value (codes "generals") (codes "4") rows) → IsWrong rows why
  bound : why ≡ codes "--bound takes 0 to 4, such as 1 or 1..2" →
      IsOutside 0 4 (value (codes "bound") (codes "1") rows) → IsWrong rows why
  traitors : why ≡ codes "--traitors takes 0 to 13, such as 1 or 1..3" →
      IsOutside 0 13 (value (codes "traitors") (some_traitors rows) rows) → IsWrong rows why
  seeds : why ≡ codes "--seeds takes at most 10000000 seeds below 18446744073709551615, such as 7 or 1..1000" →
      AreNoSeeds (value (codes "seeds") (codes "1..1000") rows) → IsWrong rows why
  commander : why ≡ codes "--commander takes a number below the least of --generals" →
      (span : CountRange) → IsWithin 2 13 (value (codes "generals") (codes "4") rows) span →
      IsNoCommander span.low (value (codes "commander") (codes "0") rows) → IsWrong rows why
  orders : why ≡ codes "--orders takes 0..1 to 0..255" →
      AreNoOrders (value (codes "orders") (codes "0..1") rows) → IsWrong rows why
  patience : why ≡ codes "--patience takes 1 to 4096" →
      IsNoPatience (given (codes "patience") rows) → IsWrong rows why
  signed : why ≡ codes "signed messages have no rule" →
      has (codes "signed") rows ≡ true → has (codes "rule") rows ≡ true → IsWrong rows why
  shape : why ≡ complaint_in rows → shape_in rows ≡ None → IsWrong rows why
  broken : why ≡ codes "--break can be used with --table, but not with --lines, --svg or --shrink" →
      has (codes "break") rows ≡ true → (shape : ReportKind) → shape_in rows ≡ Some shape → IsNoBreak shape → IsWrong rows why
  keep : why ≡ codes "--break cannot be used with --keep: redirect its output to a file" →
      has (codes "break") rows ≡ true → is_some (folder_in rows) ≡ true → IsWrong rows why
  every : why ≡ codes "--keep-all cannot be used with --keep or --shrink" → bars_keeping rows ≡ true → IsWrong rows why
  single : why ≡ codes "--campaign prints one campaign: it can be used only with options of the family" →
      has (codes "campaign") rows ≡ true → bars_campaign rows ≡ true → IsWrong rows why
  campaign : why ≡ codes "--campaign takes a seed below 18446744073709551615" →
      (word : Text) → given (codes "campaign") rows ≡ Some word → IsNoSeed word → IsWrong rows why
  sum : why ≡ codes "--sum plays nothing: it can be used only with --seeds, --table, --csv and --svg" →
      is_some (names_in rows) ≡ true → bars_sum rows ≡ true → IsWrong rows why
  twice : why ≡ codes "standard input can be read only once" →
      (names : List Text) → names_in rows ≡ Some names → AreTwice names → IsWrong rows why

-- States that messages are oral, and that no rule has the given name.
abbrev pub IsNoRule : List Row → Type 0
IsNoRule rows = (has (codes "signed") rows ≡ false)
    × IsSomeAnd (given (codes "rule") rows) (λ word. rule_named word ≡ None)

-- States that the error has exactly this message, and that `P` holds.
abbrev pub IsSaid : Text → Type 0 → AskedError → Type 0
IsSaid text P (Value why) = (why.now ≡ text) × P
IsSaid text P _ = ⊥

-- States that this is the error for options that do not say how messages are sent: a rule is given for signed messages,
-- or there is no rule with the given name.
abbrev pub IsNoManner : List Row → AskedError → Type 0
IsNoManner rows (Value why) = (why.now ≡ codes "signed messages have no rule")
    × (has (codes "signed") rows ≡ true) × (has (codes "rule") rows ≡ true)
IsNoManner rows Rule = IsNoRule rows
IsNoManner rows _ = ⊥

-- States that the error says correctly what is wrong with options that `clap` accepts, and that `P` holds. The error
-- may also be that memory ran out.
abbrev pub IsRefused : List Row → Type 0 → AskedError → Type 0
IsRefused rows P (Value why) = IsWrong rows why.now × P
IsRefused rows P Rule = IsNoRule rows × P
IsRefused rows P (Words refusal) = ⊥
IsRefused rows P Memory = ⊤

-- States that the options describe no task.
abbrev pub AsksNothing : List Row → Type 0
AsksNothing rows = (asked : Asked) → Asks rows asked → ⊥

-- States which error is returned if `clap` fails: `Memory` if `clap` ran out of memory, and otherwise the error of
-- `clap`.
abbrev pub IsByClap : Error → AskedError → Type 0
IsByClap error (Words own) = (own ≡ error) × (kind_of error ≢ OutOfMemory)
IsByClap error Memory = kind_of error ≡ OutOfMemory
IsByClap error _ = ⊥

-- States why a command line describes no task: `clap` rejects it with such an error, or `clap` accepts it and the
-- returned error says correctly what is wrong.
abbrev pub IsUnmet : List Text → AskedError → Type 0
IsUnmet words (Words refusal) = IsAmong (kind_of refusal) (fault_of survey_app words)
IsUnmet words error = IsRefused (matches_of survey_app words) (AsksNothing (matches_of survey_app words)) error
