-- The form of a chronicle's lines, described by shapes (own). A shape is a pattern for a line: capital letters match
-- any word of some kind, such as N a number. Each line is considered separately.
use Rattle.std.specs.Prelude.{ℕ, suc, ◌==◌, ◌&&◌, ◌||◌, nat_lt, Bool, true, false, if◌then◌else◌, List, [], ◌∷◌, length, bytes_eq, codes, Option, Some, None, is_some}
use Rattle.std.specs.List.{list_all, list_any}
use Rattle.combine.specs.Names.{rule_named}
use Rattle.text.specs.Stop.{dot, space}
use Rattle.text.specs.Parts.{pieces}
use Rattle.text.specs.Number.{decimal_of}
use Rattle.board.specs.Wording.{Row, rows}
use Rattle.trace.specs.Text.{Word, acting_shape, loyal_shape}

-- Returns whether a word is a decimal number without leading zeros, of any size.
abbrev pub is_number : Word → Bool
is_number word = is_some (decimal_of word)

abbrev pub is_dash : Word → Bool
is_dash word = bytes_eq word (codes "-")

abbrev pub is_place : Word → Bool
is_place word = is_dash word || is_number word

abbrev pub is_yes_no : Word → Bool
is_yes_no word = bytes_eq word (codes "yes") || bytes_eq word (codes "no")

-- Returns whether a word is one or more numbers joined by dots, such as `0.2.5`.
abbrev pub are_joined : Word → Bool
are_joined word = list_all is_number (pieces dot word)

abbrev pub are_receivers : Word → Bool
are_receivers word = is_dash word || are_joined word

-- Returns whether `word` matches `kind`, a word of a shape. N matches a number, and P a number or a dash. A matches yes
-- or no, and B also a dash. S matches numbers joined by dots, and R also a dash. C matches the name of a rule. Any
-- other word matches only itself.
unfoldable pub stands_for : Word → Word → Bool
stands_for kind word =
    if bytes_eq kind (codes "N") then is_number word
    else if bytes_eq kind (codes "P") then is_place word
    else if bytes_eq kind (codes "A") then is_yes_no word
    else if bytes_eq kind (codes "B") then (is_dash word || is_yes_no word)
    else if bytes_eq kind (codes "S") then are_joined word
    else if bytes_eq kind (codes "R") then are_receivers word
    else if bytes_eq kind (codes "C") then is_some (rule_named word)
    else bytes_eq word kind

-- Returns the words after the first ones, which must match the words of a shape. Returns `None` if they do not match.
abbrev pub behind : List Word → List Word → Option (List Word)
behind [] words = Some words
behind (kind ∷ kinds) [] = None
behind (kind ∷ kinds) (word ∷ words) = if stands_for kind word then behind kinds words else None

unfoldable pub behind_shape : List ℕ → List Word → Option (List Word)
behind_shape shape words = behind (pieces space shape) words

abbrev pub is_nothing_left : Option (List Word) → Bool
is_nothing_left (Some []) = true
is_nothing_left _ = false

-- Returns whether the words of a line match the words of a shape, one to one.
unfoldable pub fits : List ℕ → List Word → Bool
fits shape words = is_nothing_left (behind_shape shape words)

-- Returns whether a line names a version, such as `chronicle 1`.
unfoldable pub is_version : List Word → Bool
is_version words =
    fits (codes "chronicle 1") words
    || fits (codes "chronicle 2") words
    || fits (codes "chronicle 3") words

-- Returns whether a line describes a campaign, in the form of any version. This is the second line of a chronicle.
unfoldable pub is_campaign : List Word → Bool
is_campaign words =
    fits (codes "generals N bound N commander N order N") words
    || fits (codes "generals N bound N commander N order N patience P rule C") words
    || fits (codes "signed generals N bound N commander N order N patience P") words

-- Returns whether there is at least one word and each is a number or a dash. These are the orders sent to the receivers
-- of a label, which has at least one.
abbrev pub are_places : Option (List Word) → Bool
are_places None = false
are_places (Some []) = false
are_places (Some (word ∷ words)) = list_all is_place (word ∷ words)

-- Returns whether a line begins a round or belongs to a letter.
unfoldable pub is_told : List Word → Bool
is_told words =
    fits (codes "round N") words
    || fits loyal_shape words
    || fits acting_shape words
    || fits (codes "chain N S to R") words
    || are_places (behind_shape (codes "row N") words)

-- Returns whether there are exactly `count` words and all are numbers. It is false if the count is `None`.
abbrev pub is_count : Option ℕ → List Word → Bool
is_count None words = false
is_count (Some count) words = list_all is_number words && count == length words

-- Returns whether these words are the end of an access that copies words from the board: their number, an equals sign
-- and that many numbers, such as `2 = 7 0`.
abbrev pub is_copied : Option (List Word) → Bool
is_copied (Some (count ∷ equals ∷ words)) = bytes_eq equals (codes "=") && is_count (decimal_of count) words
is_copied _ = false

-- Returns whether a line records an access whose request is worded in this way.
abbrev pub is_worded : Row → List Word → Bool
is_worded r words = if r.copies then is_copied (behind_shape r.shape words) else fits r.shape words

-- Returns whether a line records an access with any of the board's requests.
unfoldable pub is_access : List Word → Bool
is_access words = list_any (λ r. is_worded r words) rows

-- Returns whether a line is a lieutenant's decision or the campaign's verdict.
unfoldable pub is_end : List Word → Bool
is_end words =
    fits (codes "decision N N") words
    || fits (codes "decision N traitor N") words
    || fits (codes "verdict alike A obeyed B bound A") words

-- Returns whether a line has the form of some line of a chronicle.
unfoldable pub is_shaped : List ℕ → Bool
is_shaped line = let words = pieces space line in
    is_version words || is_campaign words || is_told words || is_access words || is_end words

-- Returns the number of the first line that does not have the form of a chronicle's line or does not end with an LF.
-- The lines are counted from `number`. Nothing may follow the last LF. In an empty text, the first line is such a line.
abbrev pub unshaped_from : ℕ → List (List ℕ) → Option ℕ
unshaped_from number [] = None
unshaped_from number (line ∷ []) = if length line == 0 && nat_lt 1 number then None else Some number
unshaped_from number (line ∷ next ∷ lines) =
    if is_shaped line then unshaped_from (suc number) (next ∷ lines) else Some number
