-- Defines how hidden characters are made visible: those that are not seen, and those that change the order of others.
use Rattle.std.specs.Prelude.{ℕ, ◌+◌, ◌/◌, ◌%◌, ◌==◌, nat_lt, Bool, ◌||◌, if◌then◌else◌, List, [], ◌∷◌, ◌++◌, codes}
use Rattle.std.specs.List.{flat_map}
use Rattle.html.specs.Escaped.{is_within}

-- Checks whether a character is a control character other than the tab, the line feed and the carriage return (Unicode,
-- general category Cc).
abbrev pub is_control : ℕ → Bool
is_control c = is_within 0 8 c || is_within 11 12 c || is_within 14 31 c || is_within 127 159 c

-- Check whether a character is hidden: below U+2000, from U+2000 to U+FFFF, and above. A hidden character changes the
-- order of others (UAX 9, Bidi_Control) or is not seen (UAX 44, Default_Ignorable_Code_Point, and the annotation marks
-- U+FFF9 to U+FFFB). Not counted are U+200C and U+200D, which join letters, and U+FE00 to U+FE0F, which choose their
-- form.
abbrev pub is_ignored_below : ℕ → Bool
is_ignored_below c =
    c == 0xAD || c == 0x34F || c == 0x61C || is_within 0x115F 0x1160 c || is_within 0x17B4 0x17B5 c
    || is_within 0x180B 0x180F c

abbrev pub is_ignored : ℕ → Bool
is_ignored c =
    c == 0x200B || is_within 0x200E 0x200F c || is_within 0x202A 0x202E c || is_within 0x2060 0x206F c || c == 0x3164
    || c == 0xFEFF || c == 0xFFA0 || is_within 0xFFF0 0xFFFB c

abbrev pub is_ignored_above : ℕ → Bool
is_ignored_above c = is_within 0x1BCA0 0x1BCA3 c || is_within 0x1D173 0x1D17A c || is_within 0xE0000 0xE0FFF c

abbrev pub is_hidden : ℕ → Bool
is_hidden c = is_control c || is_ignored_below c || is_ignored c || is_ignored_above c

-- Checks whether a character is written unchanged: whether it is printable ASCII and not markup.
abbrev pub is_plain : ℕ → Bool
is_plain c = is_within 32 33 c || is_within 35 37 c || is_within 40 59 c || c == 61 || is_within 63 126 c

-- Returns the upper-case hexadecimal digit for a value below 16.
abbrev pub digit : ℕ → ℕ
digit d = if nat_lt d 10 then 48 + d else 55 + d

-- Return the number of a character as Unicode writes it, such as `[U+200B]`: with four hexadecimal digits, or five if
-- the number is at least 0x10000.
abbrev pub fifth : ℕ → List ℕ
fifth c = if nat_lt c 65536 then [] else digit (c / 65536 % 16) ∷ []

abbrev pub numbered : ℕ → List ℕ
numbered c =
    codes "[U+" ++ (fifth c ++ (digit (c / 4096 % 16) ∷ digit (c / 256 % 16) ∷ digit (c / 16 % 16) ∷ digit (c % 16)
    ∷ codes "]"))

abbrev pub made_visible : ℕ → List ℕ
made_visible c = if is_hidden c then numbered c else c ∷ []

-- Returns a text with its hidden characters as numbers, such as `[U+200B]`, from the characters of the text.
abbrev pub visible : List ℕ → List ℕ
visible cs = flat_map made_visible cs
