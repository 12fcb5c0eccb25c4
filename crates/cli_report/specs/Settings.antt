-- Defines the report of a fault of a setting: the sentence for each code, and the place in the text (own).
use Rattle.std.specs.Prelude.{ℕ, List, [], ◌∷◌, ◌++◌, true, false, Option, None, codes, option_map}
use Rattle.trial.specs.Names.{text_of}
use Rattle.trial.specs.declared.place.SettingKey.{SettingKey}
use Rattle.trial.specs.declared.place.SettingKey.TheVariants as names
use Rattle.trial.specs.declared.place.SettingPlace.{SettingPlace}
use Rattle.trial.specs.declared.place.SettingPlace.TheVariants as places
use Rattle.trial.specs.declared.fault.SettingFault.{SettingFault}
use Rattle.trial.specs.declared.fault.SettingFault.TheVariants as faults
use Rattle.cli_report.specs.Keys.{found, shown_at}
use Rattle.cli_report.specs.Nearest.{near}
use Rattle.cli_report.specs.Report.{Mark, near_words, report_text}

-- Returns the error sentence for a setting's key with a value of the wrong type.
abbrev pub setting_kind_sentence : SettingKey → List ℕ
setting_kind_sentence names.Taken = codes "the orders taken must be a list of whole numbers"
setting_kind_sentence names.Board = codes "the board must be a list of whole numbers"
setting_kind_sentence name = codes "a whole number is expected here"

-- Returns the error sentence for a setting's key with a value out of its range.
abbrev pub setting_range_sentence : SettingKey → List ℕ
setting_range_sentence names.Generals = codes "there must be 2 to 13 generals"
setting_range_sentence names.Bound = codes "a bound must be 0 to 4, and at most generals - 2"
setting_range_sentence names.Round = codes "a round must be 1 to bound + 1"
setting_range_sentence names.Taken = codes "there are more orders than labels that he relays in this round"
setting_range_sentence names.Board = codes "a board must have at most 64 words"
setting_range_sentence name = codes "this value is out of range"

-- Returns the error sentence for a fault of a setting's key or its value.
abbrev pub setting_name_sentence : SettingFault → SettingKey → List ℕ
setting_name_sentence faults.Key name = codes "the key `" ++ text_of name ++ codes "` is missing"
setting_name_sentence faults.Kind name = setting_kind_sentence name
setting_name_sentence faults.Range name = setting_range_sentence name
setting_name_sentence faults.General name = codes "no general has this number: it must be 0 to generals - 1"

-- Returns the error sentence for a fault of an order in the list `taken`.
abbrev pub order_sentence : SettingFault → List ℕ
order_sentence faults.Kind = codes "an order that was taken must be a whole number"
order_sentence f = codes "an order must be 0 to 4294967295"

-- Returns the error sentence for a fault of a word in the list `board`.
abbrev pub setting_word_sentence : SettingFault → List ℕ
setting_word_sentence faults.Kind = codes "a word of the board must be a whole number"
setting_word_sentence f = codes "a word of the board must be 0 to 2^63 - 1"

-- Returns the error sentence for a fault at a place in a setting.
abbrev pub setting_sentence : SettingFault → SettingPlace → List ℕ
setting_sentence f (places.Key name) = setting_name_sentence f name
setting_sentence f (places.Order rank) = order_sentence f
setting_sentence f (places.Word slot) = setting_word_sentence f

-- Returns the key that is at fault, or whose value is: `taken` for an order, and `board` for a word.
abbrev pub setting_word : SettingPlace → List ℕ
setting_word (places.Key name) = text_of name
setting_word (places.Order rank) = codes "taken"
setting_word (places.Word slot) = codes "board"

-- Marks the value at this place in a setting, or returns `None` if its line is not found.
abbrev pub setting_mark : SettingPlace → List ℕ → Option Mark
setting_mark place text = option_map (shown_at true (setting_word place)) (found 0 (setting_word place) text)

-- Returns the report of a fault at a place in a setting, which is in the file `name`.
unfoldable pub setting_place_told : List ℕ → List ℕ → SettingFault → SettingPlace → List ℕ
setting_place_told name text f place = report_text name (setting_sentence f place) (setting_mark place text) None

-- The keys of a setting.
abbrev pub setting_keys : List (List ℕ)
setting_keys = codes "generals" ∷ codes "bound" ∷ codes "commander" ∷ codes "general" ∷ codes "round" ∷ codes "taken" ∷
    codes "board" ∷ []

-- Returns the report of an unknown key in a setting, which is in the file `name`.
unfoldable pub setting_unknown_told : List ℕ → List ℕ → List ℕ → List ℕ
setting_unknown_told name text key =
    report_text name (codes "a setting has no such key") (option_map (shown_at false key) (found 0 key text))
    (option_map (near_words (codes "key")) (near key setting_keys))
