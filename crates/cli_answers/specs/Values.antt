-- The JSON value of a word in a printed line (RFC 8259).
use Rattle.std.specs.Prelude.{ℕ, drop, take, length, ◌-◌, ◌^◌, nat_lt, true, false, if◌then◌else◌, List, [], ◌∷◌, Option, None, Some, option_map, option_and_then, is_some, bytes_eq, codes}
use Rattle.std.specs.Str.Lossy.{utf8_lossy}
use Rattle.combine.specs.Names.{rule_named}
use Rattle.serde_json.specs.Data.{Data, null, boolean, number, unsigned, string, array, Items, no_items, item}
use Rattle.text.specs.Number.{decimal_of}
use Rattle.text.specs.Parts.{pieces}
use Rattle.text.specs.Stop.{dot}

-- A word of a line, as bytes.
abbrev pub Word : Type 0
Word = List ℕ

-- Returns n if it is below 2^64, else None.
abbrev pub within : ℕ → Option ℕ
within n = if nat_lt n (2 ^ 64) then Some n else None

-- Returns the number that a word is: decimal, without leading zeros, and below 2^64. Returns None for any other word.
abbrev pub small : Word → Option ℕ
small word = option_and_then within (decimal_of word)

-- Returns the JSON number that a word is: decimal, without leading zeros, and below 2^64. Returns None for any other
-- word.
abbrev pub number_of : Word → Option Data
number_of word = option_map (λ n. number (unsigned n)) (small word)

-- Returns the JSON number that a word is, or null if it is a dash. Returns None for any other word.
abbrev pub place_of : Word → Option Data
place_of word = if bytes_eq word (codes "-") then Some null else number_of word

-- Returns the JSON number that a word is, or null for `nothing`. Returns None for any other word.
abbrev pub received_of : Word → Option Data
received_of word = if bytes_eq word (codes "nothing") then Some null else number_of word

-- Returns a word without the comma at its end, or None if it ends otherwise.
abbrev pub before_comma : Word → Option Word
before_comma word =
    if bytes_eq (drop (length word - 1) word) (codes ",") then Some (take (length word - 1) word) else None

-- Returns a JSON boolean for `yes` or `no`, or null for a dash. Returns None for any other word.
abbrev pub yes_no_of : Word → Option Data
yes_no_of word =
    if bytes_eq word (codes "-") then Some null
    else if bytes_eq word (codes "yes") then Some (boolean true)
    else if bytes_eq word (codes "no") then Some (boolean false)
    else None

-- Returns the JSON values of all words, or None if one of them has no value.
abbrev pub all : (Word → Option Data) → List Word → Option Items
all tells [] = Some no_items
all tells (w ∷ ws) = option_and_then (λ d. option_map (item d) (all tells ws)) (tells w)

-- Returns numbers joined by dots, such as `0.2`, as a JSON array, or None for any other word.
abbrev pub numbers_of : Word → Option Data
numbers_of word = option_map array (all number_of (pieces dot word))

-- Returns numbers joined by dots, such as `0.2`, as a JSON array, or an empty array for a dash.
abbrev pub joined : Word → Option Data
joined word = if bytes_eq word (codes "-") then Some (array no_items) else numbers_of word

-- Returns words as a JSON array of numbers, with null for each dash, or None if a word is neither.
abbrev pub places : List Word → Option Data
places words = option_map array (all place_of words)

-- Returns the word of a decision rule as a JSON text, or None for any other word.
abbrev pub rule_of : Word → Option Data
rule_of word = if is_some (rule_named word) then Some (string (utf8_lossy word)) else None

-- Returns the exponent of a power of two, such as `2^18`, as a JSON number, or None for any other word.
abbrev pub power_of : Word → Option Data
power_of word = if bytes_eq (take 2 word) (codes "2^") then number_of (drop 2 word) else None

-- Returns the JSON value of a word, if it is what `kind` says. For N it is a number, for P a number or null, for A a
-- boolean or null, for S an array of numbers, for C the word of a rule, and for E the exponent of a power of two. For
-- `N,` it is a number before a comma, for O a number, or null for `nothing`, and for W any word. Any other `kind` is the
-- word itself.
unfoldable pub told : Word → Word → Option Data
told kind word =
    if bytes_eq kind (codes "N") then number_of word
    else if bytes_eq kind (codes "P") then place_of word
    else if bytes_eq kind (codes "A") then yes_no_of word
    else if bytes_eq kind (codes "S") then joined word
    else if bytes_eq kind (codes "C") then rule_of word
    else if bytes_eq kind (codes "E") then power_of word
    else if bytes_eq kind (codes "N,") then option_and_then number_of (before_comma word)
    else if bytes_eq kind (codes "O") then received_of word
    else if bytes_eq kind (codes "W") then Some (string (utf8_lossy word))
    else if bytes_eq word kind then Some (string (utf8_lossy word))
    else None
