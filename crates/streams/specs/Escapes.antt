-- Defines how untrusted text is displayed without the control characters that a terminal would obey.
use Rattle.std.specs.Prelude.{ℕ, ◌/◌, ◌%◌, ◌==◌, Bool, false, ◌&&◌, not, if◌then◌else◌, List, [], ◌∷◌, ◌++◌, codes}
use Rattle.std.specs.Char.{digit_char, is_control}
use Rattle.std.specs.List.{flat_map}
use Rattle.std.specs.Str.{chars, encode_utf8_all}
use Rattle.streams.specs.declared.escaped.Kept.{Kept}
use Rattle.streams.specs.declared.escaped.Kept.TheVariants.{Nothing, Tab, LineFeed}

-- Checks whether this control character is displayed unchanged.
abbrev pub is_kept : Kept → ℕ → Bool
is_kept Nothing c = false
is_kept Tab c = c == 9
is_kept LineFeed c = c == 10

-- Checks whether the character must be escaped: it is a control character (Unicode, general category Cc: U+0000 to
-- U+001F and U+007F to U+009F), and is not one to keep.
abbrev pub is_escaped : Kept → ℕ → Bool
is_escaped kept c = is_control c && not (is_kept kept c)

-- Returns a control character as a JSON escape, such as `\u001b` (RFC 8259, section 7).
abbrev pub escape : ℕ → List ℕ
escape c = codes "\\u00" ++ digit_char (c / 16) ∷ digit_char (c % 16) ∷ []

-- Returns a character as it is displayed: as an escape, or unchanged.
abbrev pub displayed : Kept → ℕ → List ℕ
displayed kept c = if is_escaped kept c then escape c else c ∷ []

-- Returns a text as it is displayed: with its control characters escaped, except those to keep.
unfoldable pub escaped : Kept → List ℕ → List ℕ
escaped kept text = encode_utf8_all (flat_map (displayed kept) (chars text))
