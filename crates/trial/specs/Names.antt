-- The keys of a setting, as text (own).
use Rattle.std.specs.Prelude.{ℕ, Bool, ◌||◌, List, codes}
use Rattle.std.specs.Str.{bytes_eq}
use Rattle.trial.specs.declared.place.SettingKey.{SettingKey}
use Rattle.trial.specs.declared.place.SettingKey.TheVariants.{Generals, Bound, Commander, General, Round, Taken, Board}

-- Returns the text of a key, as it is written in a setting.
abbrev pub text_of : SettingKey → List ℕ
text_of Generals = codes "generals"
text_of Bound = codes "bound"
text_of Commander = codes "commander"
text_of General = codes "general"
text_of Round = codes "round"
text_of Taken = codes "taken"
text_of Board = codes "board"

-- Returns whether the text is one of the keys that a setting may have.
abbrev pub is_key : List ℕ → Bool
is_key k =
    bytes_eq k (codes "generals") || (bytes_eq k (codes "bound") || (bytes_eq k (codes "commander") ||
    (bytes_eq k (codes "general")
    || (bytes_eq k (codes "round") || (bytes_eq k (codes "taken") || bytes_eq k (codes "board"))))))
