-- Defines how the name of a file is displayed on one line.
use Rattle.std.specs.Prelude.{ℕ, Bool, List, Option, Some, if◌then◌else◌}
use Rattle.std.specs.Char.{is_control}
use Rattle.std.specs.Fmt.{debug_str}
use Rattle.std.specs.List.{list_any}
use Rattle.std.specs.Str.{chars}

-- Checks whether the name contains a control character.
unfoldable pub has_control : List ℕ → Bool
has_control name = list_any is_control (chars name)

-- Returns the name of a file as it is displayed: unchanged or, if it contains a control character, in quotation marks
-- and escaped as a string in Rust. Returns `None` if the escaped form is not known.
abbrev pub shown : List ℕ → Option (List ℕ)
shown name = if has_control name then debug_str name else Some name
