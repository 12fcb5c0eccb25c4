-- Defines escaped text for XML and HTML, character by character.
use Rattle.std.specs.Prelude.{ℕ, ◌==◌, nat_le, Bool, ◌&&◌, ◌||◌, if◌then◌else◌, List, [], ◌∷◌, codes, Option, None, Some, unwrap_or}
use Rattle.std.specs.List.{flat_map}

abbrev pub is_within : ℕ → ℕ → ℕ → Bool
is_within low high c = nat_le low c && nat_le c high

-- Checks whether XML allows the character in a document (XML 1.0, production 2).
abbrev pub is_character : ℕ → Bool
is_character c =
    c == 9 || c == 10 || c == 13 || is_within 0x20 0xD7FF c || is_within 0xE000 0xFFFD c || is_within 0x10000 0x10FFFF c

-- Returns the character itself if XML allows it in a document, and otherwise the replacement character U+FFFD.
abbrev pub shown : ℕ → ℕ
shown c = if is_character c then c else 0xFFFD

-- Returns the XML reference for a character, such as `&lt;` for `<`. Only markup characters have one, and white space
-- that an XML reader would change (XML 1.0, 2.11 and 3.3.3). Returns `None` for any other character.
abbrev pub reference : ℕ → Option (List ℕ)
reference c =
    if c == 38 then Some (codes "&amp;")
    else if c == 60 then Some (codes "&lt;")
    else if c == 62 then Some (codes "&gt;")
    else if c == 34 then Some (codes "&quot;")
    else if c == 39 then Some (codes "&#39;")
    else if c == 9 then Some (codes "&#9;")
    else if c == 10 then Some (codes "&#10;")
    else if c == 13 then Some (codes "&#13;")
    else None

-- Returns a character in escaped form: its reference, or itself, or the replacement character U+FFFD if XML forbids it.
abbrev pub written : ℕ → List ℕ
written c = unwrap_or (reference c) (shown c ∷ [])

-- Returns the escaped form of a text, from its characters.
abbrev pub escaped : List ℕ → List ℕ
escaped cs = flat_map written cs
