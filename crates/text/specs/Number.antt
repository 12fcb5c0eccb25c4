-- Defines how decimal and hexadecimal numbers are read.
use Rattle.std.specs.Prelude.{ℕ, ◌+◌, ◌-◌, ◌*◌, ◌^◌, min, List, [], ◌∷◌, Bool, ◌==◌, ◌&&◌, nat_le, if◌then◌else◌, Option, Some, None, length, drop, slice_index}
use Rattle.text.specs.Options.{◌>>=◌}
use Rattle.text.specs.Stop.{is_within}

-- Returns the value of a digit in base 10 or 16, or `None` if the character is not such a digit.
abbrev pub digit_in : ℕ → ℕ → Option ℕ
digit_in base c =
    if is_within 48 57 c then Some (c - 48)
    else if base == 16 && is_within 97 102 c then Some (c - 87)
    else if base == 16 && is_within 65 70 c then Some (c - 55)
    else None

-- Returns the number, or 2 ^ 64 if it is greater. A number that does not fit in 64 bits is too large for every purpose.
abbrev pub capped : ℕ → ℕ
capped n = min n (2 ^ 64)

-- Returns the number whose first digits give `n` and whose other digits are the given text. Returns 2 ^ 64 if it is
-- greater, and `None` if a character is not a digit.
abbrev pub digits_on : ℕ → ℕ → List ℕ → Option ℕ
digits_on base n [] = Some n
digits_on base n (c ∷ cs) = digit_in base c >>= λ d. digits_on base (capped (n * base + d)) cs

-- Returns the value of a decimal number without leading zeros, or 2 ^ 64 if it is greater. Returns `None` for any other
-- text.
unfoldable pub decimal_of : List ℕ → Option ℕ
decimal_of [] = None
decimal_of (c ∷ []) = digits_on 10 0 (c ∷ [])
decimal_of (c ∷ d ∷ cs) = if c == 48 then None else digits_on 10 0 (c ∷ d ∷ cs)

-- Checks whether the text begins with `0x`.
abbrev pub is_hex : List ℕ → Bool
is_hex text = slice_index text 0 == 48 && slice_index text 1 == 120

-- Returns the value of a number in decimal digits, or in hexadecimal digits after `0x`. Returns 2 ^ 64 if it is
-- greater, and `None` for any other text.
unfoldable pub magnitude_of : List ℕ → Option ℕ
magnitude_of text =
    if is_hex text then (if nat_le (length text) 2 then None else digits_on 16 0 (drop 2 text))
    else if length text == 0 then None else digits_on 10 0 text
