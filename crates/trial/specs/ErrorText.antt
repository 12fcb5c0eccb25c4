-- The texts of a setting's errors.
use Rattle.std.specs.Prelude.{ℕ, List, ◌++◌, codes, string_bytes}
use Rattle.std.specs.Fmt.{decimal}
use Rattle.trial.specs.Names.{text_of}
use Rattle.trial.specs.declared.place.SettingPlace.{SettingPlace}
use Rattle.trial.specs.declared.place.SettingPlace.TheVariants as place
use Rattle.trial.specs.declared.fault.SettingFault.{SettingFault}
use Rattle.trial.specs.declared.fault.SettingFault.TheVariants.{Key, Kind, Range, General}
use Rattle.trial.specs.declared.fault.SettingError.{SettingError}
use Rattle.trial.specs.declared.fault.SettingError.TheVariants.{Toml, Unknown, At, Memory}

-- Returns the text of a place: a key, or an element of an array such as `taken[2]`.
abbrev pub place_text : SettingPlace → List ℕ
place_text (place.Key name) = text_of name
place_text (place.Order index) = codes "taken[" ++ decimal index ++ codes "]"
place_text (place.Word index) = codes "board[" ++ decimal index ++ codes "]"

-- Returns the code of a fault, from K2 to K5.
abbrev pub code_of : SettingFault → List ℕ
code_of Key = codes "K2"
code_of Kind = codes "K3"
code_of Range = codes "K4"
code_of General = codes "K5"

-- Returns the text of an error: its code and, if it has one, its place.
abbrev pub told : SettingError → List ℕ
told Toml = codes "K1"
told (Unknown key) = codes "K2 " ++ string_bytes key
told (At fault place) = code_of fault ++ codes " " ++ place_text place
told Memory = codes "out of memory"
